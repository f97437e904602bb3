-- What plans of parts set in the tuples of a relation is what the parts have there.
use Rattle.std.proofs.Common.{◌≡◌, ◌∙◌, ℕ, suc, List, [], ◌∷◌, ap, length, refl, if◌then◌else◌}
use Rattle.std.specs.Prelude.{nat_eq}
use Rattle.td_algebra.proofs.Relations.{member_headed}
use Rattle.td_check.specs.model.Scopes.{Scope, entered_with}
use Rattle.td_eval.proofs.code_lemmas.KeepsGathered.{member_from_all}
use Rattle.td_eval.proofs.code_lemmas.OpValues.{relation_unpacked}
use Rattle.td_eval.proofs.law_lemmas.AlikeRows.{AreAlikeIn, settings_alike}
use Rattle.td_eval.specs.model.TreeValues.{values_in_tuples}
use Rattle.td_eval.specs.laws.ValueTypes.{IsTypedTuple}
use Rattle.td_plan.proofs.PlannedTuples.{parts_alike}
use Rattle.td_plan.specs.code.PlannedParts.{ArePlansOfTyped, in_named}
use Rattle.td_plan.specs.code.Plans as plans
use Rattle.td_plan.specs.code.Plans.{PlanTrees, extension_of, plan_columns}
use Rattle.td_plan.specs.code.PlansOf.{ArePlannedSettings}
use Rattle.td_tree.specs.declared.cause.Cause.TheVariants as causes
use Rattle.td_tree.specs.model.Outcomes.{Outcome, Valued, Refused, Only}
use Rattle.td_tree.specs.model.Trees.{NamedTrees}
use Rattle.td_types.specs.model.Types.{Attribute}
use Rattle.td_value.specs.model.Values.{Relation, Tuple, Val, relation_value}

as_many_alike : (r : Relation) (fs gs : List (Tuple → Outcome Val)) → AreAlikeIn r fs gs → length fs ≡ length gs
as_many_alike r [] [] same = refl
as_many_alike r [] (g ∷ gs) same = absurd same
as_many_alike r (f ∷ fs) [] same = absurd same
as_many_alike r (f ∷ fs) (g ∷ gs) same = ap suc (as_many_alike r fs gs same.1)

pub settings_planned : (scope : Scope) (r : Relation) (xs : List Attribute) (slot : ℕ) (ps : PlanTrees) (parts : NamedTrees) → slot ≡ length scope.entered
    → ArePlansOfTyped (entered_with r.heading scope) ps (in_named parts)
    → ArePlannedSettings scope (plans.extend (plans.constant (relation_value r)) xs slot ps) r xs parts
settings_planned scope r xs slot ps parts next all = λ relation typed names texts ys known w s slots k hand f.
    let columns = plan_columns w slots slot ps in
    let given = values_in_tuples w s parts in
    let alike : AreAlikeIn r columns given =
    parts_alike scope w s slots k hand f r r.heading refl
    (λ u c. (member_from_all (IsTypedTuple scope.types) r.body typed u c, (member_headed r u relation c).1)) slot next ps parts ys all names texts known in
    let many = as_many_alike r columns given alike in
    let set = settings_alike r (Valued xs) columns given alike in
    relation_unpacked r (extension_of xs columns)
    ∙ (λ i. if nat_eq (length xs) (many i) then set i else Refused (Only causes.Heading))
