-- How the logic stores what a body is seen as: the code that a Model asks for.
use Rattle.std.specs.Prelude.{ℕ, List, refl}
use Rattle.std.specs.Coded.{Coded, code_by, coded×, coded_list, coded_ℕ}
use Rattle.td_value.specs.code.ValueCode.{relation_code}
use Rattle.td_value.specs.model.Values.{Relation}
use Rattle.td_body.specs.model.Bodies.{BodyView}

abbrev pub body_code : Coded BodyView
body_code =
    code_by (Relation × (List (List (List ℕ)) × List Relation)) (coded× relation_code (coded× (coded_list (coded_list (coded_list coded_ℕ))) (coded_list relation_code)))
    (λ b. (b.relation, (b.keys, b.kept))) (λ p. record { relation = p.0; keys = p.1.0; kept = p.1.1 }) (λ _. refl)
