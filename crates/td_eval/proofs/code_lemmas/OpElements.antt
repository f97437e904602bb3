-- What operators make of the elements of a list.
use Rattle.std.proofs.Common.{◌≡◌, ◌∙◌, ◌≤◌, ◌∷◌, ℕ, List, [], Option, Some, None, Result, ap, drop, length, map, refl, subst}
use Rattle.std.proofs.lemmas.List.{map-id}
use Rattle.std.proofs.Math.ListN.{drop_of_length-le}
use Rattle.std.specs.List.{zip}
use Rattle.std.specs.Prelude.{IfOk}
use Rattle.std.specs.Global.{Vec}
use Rattle.td_check.specs.model.OperatorTypes.{known_or}
use Rattle.td_eval.specs.model.OperatorValues.{component_value, components_of, element_of, headed_value, of_relation}
use Rattle.td_tree.proofs.code_lemmas.Gatherings.{answers_gathered}
use Rattle.td_tree.specs.declared.cause.Cause.{Cause}
use Rattle.td_tree.specs.code.Gatherings.{IsGathered, answer_of}
use Rattle.td_tree.specs.model.Outcomes.{Answers, Outcome, Valued, gathered}
use Rattle.td_tree.specs.declared.cause.Cause.TheVariants as causes
use Rattle.td_tree.specs.declared.fault.Fault.{Fault}
use Rattle.td_types.specs.model.TypeLists.{DeclaredType, declared_at}
use Rattle.td_types.specs.model.Types.{Heading, attribute_names}
use Rattle.td_value.specs.model.Sets.{set_of}
use Rattle.td_value.specs.model.Values.{Val, Relation, Tuple, UserValue, pack_parts, relation_of, selected_value, tuple_cmp, value_at, relation_view}

-- ---- names beside values

zip_nil : {K X : Type 0} (ks : List K) → zip {X = X} ks [] ≡ []
zip_nil [] = refl
zip_nil (k ∷ ks) = refl

-- no name stands beside a value past the last
pub zip_past : {K X : Type 0} (ks : List K) (xs : List X) (i : ℕ) → length xs ≤ i → zip ks (drop i xs) ≡ []
zip_past ks xs i past = ap (zip ks) (drop_of_length-le xs past) ∙ zip_nil ks

-- ---- the elements of a relation

-- what is answered at the end
pub elements_answered : {Y : Type 0} (least : Option Cause) (ys : Vec Y) (os : List (Outcome Y)) → IsGathered least (map (λ y. y) ys.items) os
    → Answers (λ v. v.items) (answer_of least ys) (gathered os)
elements_answered least ys os g =
    answers_gathered (λ v. v.items) least ys os (subst (λ zs. IsGathered least zs os) (map-id ys.items) g)

-- what holds of the values holds of what is answered
pub elements_hold : {Y : Type 0} (P : List Y → Type 0) (least : Option Cause) (ys : Vec Y) → P ys.items → IfOk (answer_of least ys) (λ v. P v.items)
elements_hold P None ys p = p
elements_hold P (Some c) ys p = tt

-- ---- a relation that is made

-- of this heading and these tuples
pub made_of : {E : Type 0} (found : Result Relation E) (g h : Heading) (ts us : List Tuple) → g ≡ h → ts ≡ us
    → IfOk found (λ r. r ≡ relation_view g (set_of tuple_cmp ts)) → IfOk found (λ r. r ≡ relation_of h us)
made_of found g h ts us p q a = rw (← p, ← q) a

-- of the elements of a list
pub headed_of : (h : Heading) (vs : List Val) (ts : List Tuple) (x : Result Val Fault) → gathered (map (element_of h) vs) ≡ Valued ts
    → Answers (λ v. v) x (of_relation (relation_of h ts)) → Answers (λ v. v) x (headed_value h vs)
headed_of h vs ts x e a = rw e a

-- ---- a user value's component

pub components_unpacked : (vs : List Val) → components_of (pack_parts vs) ≡ vs
components_unpacked [] = refl
components_unpacked (v ∷ vs) = ap (λ ws. v ∷ ws) (components_unpacked vs)

-- of the name
pub component_found : (ds : List DeclaredType) (name : List ℕ) (u : UserValue) (d : DeclaredType) (x : Result Val Fault) → declared_at u.name ds ≡ Some d
    → Answers (λ v. v) x (known_or causes.NameUnknown (value_at name (zip (attribute_names d.components) u.components)))
    → Answers (λ v. v) x (component_value ds name (selected_value u))
component_found ds name u d x e a = rw (e, components_unpacked u.components) a
