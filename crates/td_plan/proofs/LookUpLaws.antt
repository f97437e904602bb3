-- What a look-up finds.
use Rattle.std.proofs.Common.{◌≡◌, ◌∙◌, ℕ, List, Option, Some, None, ap, option_map, sym}
use Rattle.std.specs.Prelude.{IfSome}
use Rattle.td_body.specs.model.Bodies.{agreeing}
use Rattle.td_catalog.specs.model.Database.{BaseRelvar, Database, base_named}
use Rattle.td_eval.proofs.code_lemmas.OpValues.{relation_unpacked}
use Rattle.td_eval.proofs.code_lemmas.WorldParts.{base_value}
use Rattle.td_eval.specs.model.DatabaseWorlds.{world_of}
use Rattle.td_eval.specs.model.OperatorValues.{of_relation, on_tuple}
use Rattle.td_eval.specs.model.Worlds.{World, known_outcome}
use Rattle.td_plan.specs.code.Plans.{agreeing_value}
use Rattle.td_tree.specs.model.Outcomes.{Outcome, Valued}
use Rattle.td_types.proofs.OutcomeLaws.{valued_is}
use Rattle.td_value.specs.model.Values.{Relation, Tuple, Val, boolean, char, integer, relation, tuple, user}

-- what follows of the tuple that a value is
pub tupled : {A : Type 0} (v : Val) (t : Tuple) (f : Tuple → Outcome A) → on_tuple v Valued ≡ Valued t → on_tuple v f ≡ f t
tupled (boolean b) t f e = absurd (cc)
tupled (integer z) t f e = absurd (cc)
tupled (char x) t f e = absurd (cc)
tupled (user n ps) t f e = absurd (cc)
tupled (tuple fs) t f e = ap f (valued_is _ _ e)
tupled (relation h rs) t f e = absurd (cc)

-- of a relation that a relvar has
pub agreeing_found : (key : List (List ℕ)) (o : Outcome Val) (r : Relation) (t : Tuple) → o ≡ of_relation r
    → agreeing_value key o t ≡ of_relation (agreeing key t r)
agreeing_found key o r t e = ap (λ p. agreeing_value key p t) e ∙ relation_unpacked r (λ q. of_relation (agreeing key t q))

-- a base relvar that is found has what it holds, where the world is the database's at its name
pub base_told : {X : Type 0} (found : Option X) (view : X → BaseRelvar) (db : Database) (n : List ℕ) (w : World) → option_map view found ≡ base_named n db
    → w.relvar n ≡ (world_of db).relvar n → IfSome found (λ x. known_outcome (w.relvar n) ≡ of_relation (view x).relation)
base_told None view db n w at same = tt
base_told (Some x) view db n w at same = ap known_outcome (same ∙ base_value db n (view x) (sym at))
