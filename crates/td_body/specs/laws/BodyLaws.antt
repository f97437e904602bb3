-- When keys hold, and to which relations changes lead: laws (Tutorial D's).
use Rattle.std.specs.Prelude.{◌≡◌, ℕ, List, IsTrue, ◌↔◌}
use Rattle.td_value.specs.model.Values.{Relation, IsRelation}
use Rattle.td_algebra.specs.laws.Equalities.{AreAlike}
use Rattle.td_algebra.specs.model.Operators.{difference}
use Rattle.td_body.specs.model.Bodies.{KeyHolds, after_change, key_holds}

-- `key_holds` is true exactly where no two tuples of the relation agree on the key
abbrev pub KeysHoldByMembership : Type 0
KeysHoldByMembership =
    (key : List (List ℕ)) (r : Relation) → IsRelation r → IsTrue (key_holds key r.body) ↔ KeyHolds key r.body

-- taking out what another relation lacks, and putting in what it has beside, leads to that relation
abbrev pub DifferencesLeadOver : Type 0
DifferencesLeadOver = (r s : Relation) → AreAlike r s → after_change (difference r s) (difference s r) r ≡ s

-- taking out all, and putting in another relation, leads to that relation
abbrev pub WholeIsReplaced : Type 0
WholeIsReplaced = (r s : Relation) → AreAlike r s → after_change r s r ≡ s
