-- What is answered of the step of an expression, by what is answered of the steps of its parts.
use Rattle.std.proofs.Common.{◌≡◌, ◌∙◌, ◌∷◌, [], ap, refl, subst, sym}
use Rattle.std.specs.declared.alloc.AllocError.{AllocError}
use Rattle.std.specs.Prelude.{List, Option, Some, None, Result, Ok, Err, ⊤}
use Rattle.td_check.specs.model.OperatorTypes.{over_relation}
use Rattle.td_check.specs.model.Scopes.{Scope, entered_with}
use Rattle.td_check.specs.model.StaticTypes.{named_types, type_of}
use Rattle.td_plan.specs.declared.plan.step.Step.{Step}
use Rattle.td_plan.specs.code.PlannedParts.{IsPlanned}
use Rattle.td_tree.specs.declared.cause.Cause.{Cause}
use Rattle.td_tree.specs.model.Outcomes.{Outcome, Valued, named_cause, with_value}
use Rattle.td_tree.specs.model.Trees.{NamedTrees, Tree}
use Rattle.td_types.proofs.Meanings.{pack_unpack}
use Rattle.td_types.proofs.OutcomeLaws.{value_of_with}
use Rattle.td_types.specs.model.Types.{Attribute, Heading, Type', boolean, char, integer, pack, relation, tuple, unpack, user}

-- a heading that is put into a type and taken out
pub unpacked : (h : Heading) → unpack (pack h) ≡ h
unpacked [] = refl
unpacked (a ∷ h) = ap (λ rest. a ∷ rest) (unpacked h)

-- what asks a relation's heading has a type only of a relation
relation_asked : (s : Type') (f : Heading → Outcome Type') (t : Type') → over_relation s f ≡ Valued t → (h : Heading) × (s ≡ relation (pack h))
relation_asked boolean f t e = absurd (cc)
relation_asked integer f t e = absurd (cc)
relation_asked char f t e = absurd (cc)
relation_asked (user n) f t e = absurd (cc)
relation_asked (tuple xs) f t e = absurd (cc)
relation_asked (relation xs) f t e = (unpack xs, ap relation (sym (pack_unpack xs)))

pub relation_typed : (o : Outcome Type') (f : Type' → Heading → Outcome Type') (t : Type') → with_value o (λ s. over_relation s (f s)) ≡ Valued t
    → (h : Heading) × (o ≡ Valued (relation (pack h)))
relation_typed o f t e =
    let found = value_of_with o (λ s. over_relation s (f s)) t e in
    let headed = relation_asked found.0 (f found.0) t found.2 in
    (headed.0, found.1 ∙ ap Valued headed.1)

-- parts have types where EXTEND of an operand of the heading has one, and these give it that type
pub parts_typed : (scope : Scope) (d : Tree) (h : Heading) (parts : NamedTrees) (f : Heading → List Attribute → Outcome Type') (t : Type')
    → type_of scope d ≡ Valued (relation (pack h))
    → with_value (type_of scope d) (λ s. over_relation s (λ g. with_value (named_types (entered_with g scope) parts) (f g))) ≡ Valued t
    → (xs : List Attribute) × (named_types (entered_with h scope) parts ≡ Valued xs) × (f h xs ≡ Valued t)
parts_typed scope d h parts f t static e =
    let asked = λ (g : Heading). with_value (named_types (entered_with g scope) parts) (f g) in
    let there : asked h ≡ Valued t = ap asked (sym (unpacked h)) ∙ ap (λ o. with_value o (λ s. over_relation s asked)) (sym static) ∙ e in
    value_of_with (named_types (entered_with h scope) parts) (f h) t there

-- of an expression that has no type each step is a plan
pub untyped_planned : (scope : Scope) (made : Result Step AllocError) (e : Tree) → ((t : Type') → type_of scope e ≡ Valued t → ⊥) → IsPlanned scope made e
untyped_planned scope (Ok p) e none = λ written t is. absurd (none t is)
untyped_planned scope (Err failed) e none = tt

-- ---- what is refused has no value

abbrev IsMissing : Option Cause → Type 0
IsMissing None = ⊤
IsMissing (Some cause) = ⊥

pub no_value : {A : Type 0} (o : Outcome A) (cause : Cause) → named_cause o ≡ Some cause → (x : A) → o ≡ Valued x → ⊥
no_value o cause refused x is = subst IsMissing (sym (ap named_cause is) ∙ refused) tt
