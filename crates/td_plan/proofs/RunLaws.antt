-- What the run of plans goes through.
use Rattle.std.proofs.Common.{◌≡◌, ◌∙◌, ◌≢◌, ap, sym, refl, subst, List, [], ◌∷◌, map, Result, Ok, Err, Bool, ℕ, zero, suc, ◌<◌, ◌≤◌, length, get_or, arith}
use Rattle.std.proofs.lemmas.Bool.{eq-eqb, ne_eqb}
use Rattle.std.specs.Global.{Vec}
use Rattle.std.specs.List.{zip}
use Rattle.std.specs.Prelude.{IfOk}
use Rattle.td_algebra.specs.code.Columns.{NamedColumn, columns_view}
use Rattle.td_algebra.specs.declared.extension.Column.{Column}
use Rattle.td_eval.proofs.code_lemmas.Selectors.{other_scope}
use Rattle.td_eval.proofs.code_lemmas.WorldParts.{world_scope}
use Rattle.td_eval.specs.declared.env.Env.{Env}
use Rattle.td_eval.specs.model.DatabaseWorlds.{world_of}
use Rattle.td_eval.specs.code.NewColumns.{AreColumnsFor, named_columns, with_values}
use Rattle.td_eval.specs.model.OperatorValues.{column_values, on_relation, on_truth, truth_value}
use Rattle.td_eval.specs.code.LentWorlds.{other_in, world_in}
use Rattle.td_eval.specs.model.Worlds.{World}
use Rattle.td_plan.specs.declared.plan.step.Step.{Step}
use Rattle.td_plan.specs.declared.running.plan_world.ValuedRelvar.{ValuedRelvar}
use Rattle.td_plan.specs.code.Hands.{AreValued, IsValued}
use Rattle.td_plan.specs.code.Plans.{Slots, where_as_many}
use Rattle.td_plan.specs.code.Runs.{step_value, step_values, value_in, values_in}
use Rattle.td_tree.specs.declared.cause.Cause.TheVariants as causes
use Rattle.td_tree.specs.declared.fault.Fault.{Fault}
use Rattle.td_tree.specs.declared.fault.Fault.TheVariants as faults
use Rattle.td_tree.specs.model.Outcomes.{Answers, Outcome, Valued, Refused, Only, gathered, with_value}
use Rattle.td_types.specs.declared.ty.Ty.{Ty}
use Rattle.td_types.specs.model.Types.{Attribute}
use Rattle.td_types.specs.code.Views.{pairs_view, type_view}
use Rattle.td_value.specs.model.Values.{Relation, Tuple, Val, boolean, char, integer, relation, tuple, user}

-- the values of steps are those of each
pub values_found : (w : World) (s : Slots) (ps : List Step) → step_values w s ps ≡ map (step_value w s) ps
values_found w s [] = refl
values_found w s (p ∷ ps) = ap (λ os. step_value w s p ∷ os) (values_found w s ps)

-- of an attribute and the step that it is set to
abbrev pub column_found : World → Slots → ℕ → List Tuple → (List ℕ × Ty) × Step → Outcome NamedColumn
column_found w s k tuples z = with_values (z.0.0, type_view z.0.1) (column_values (type_view z.0.1) (value_in w s k z.1) tuples)

pub columns_are : (w : World) (s : Slots) (k : ℕ) (tuples : List Tuple) (xs : List (List ℕ × Ty)) (steps : List Step)
    → map (column_found w s k tuples) (zip xs steps) ≡ named_columns (pairs_view xs) (values_in w s k steps) tuples
columns_are w s k tuples [] steps = refl
columns_are w s k tuples (x ∷ xs) [] = refl
columns_are w s k tuples (x ∷ xs) (p ∷ steps) = ap (λ ys. column_found w s k tuples (x, p) ∷ ys) (columns_are w s k tuples xs steps)

-- the answer for a relvar of that name
pub valued_at : (w : World) (rs : List ValuedRelvar) (i : ℕ) (r : ValuedRelvar) → i < length rs → r ≡ get_or rs i r → AreValued w rs → IsValued w r
valued_at w [] i r inside is h = absurd (omega (arith, inside))
valued_at w (s ∷ rs) zero r inside is h = subst (IsValued w) (sym is) h.0
valued_at w (s ∷ rs) (suc i) r inside is h = valued_at w rs i r (omega (arith, inside)) is h.1

-- the types that are known are those of the database
pub types_known : {B : Type 0} (env : Env B) → (world_in env).scope.types ≡ env.catalog.now.database.types
types_known env =
    ap (λ s. s.types) (other_scope (other_in env) (world_of env.catalog.now.database) ∙ world_scope env.catalog.now.database)

-- there are as many pairs as the shorter list has elements
pub zip_shorter : {X Y : Type 0} (xs : List X) (ys : List Y) → length xs ≤ length ys → length (zip xs ys) ≡ length xs
zip_shorter [] ys e = refl
zip_shorter (x ∷ xs) [] e = absurd (omega (arith, e))
zip_shorter (x ∷ xs) (y ∷ ys) e = ap suc (zip_shorter xs ys (omega (arith, e)))

pub zip_longer : {X Y : Type 0} (xs : List X) (ys : List Y) → length ys ≤ length xs → length (zip xs ys) ≡ length ys
zip_longer [] [] e = refl
zip_longer [] (y ∷ ys) e = absurd (omega (arith, e))
zip_longer (x ∷ xs) [] e = refl
zip_longer (x ∷ xs) (y ∷ ys) e = ap suc (zip_longer xs ys (omega (arith, e)))

-- there are as many columns as steps
pub as_many_columns : (w : World) (s : Slots) (k : ℕ) (steps : List Step) → length (values_in w s k steps) ≡ length steps
as_many_columns w s k [] = refl
as_many_columns w s k (p ∷ steps) = ap suc (as_many_columns w s k steps)

-- where there are as many new attributes as parts, and where not
pub where_equal : {A : Type 0} (attributes : List Attribute) (parts : List A) (o : Outcome Val) → length attributes ≡ length parts
    → where_as_many attributes parts o ≡ o
where_equal attributes parts o e = rw (eq-eqb (length attributes) (length parts) e) refl

pub where_unequal : {A : Type 0} (attributes : List Attribute) (parts : List A) (o : Outcome Val) → length attributes ≢ length parts
    → where_as_many attributes parts o ≡ Refused (Only causes.Heading)
where_unequal attributes parts o e = rw (ne_eqb (length attributes) (length parts) e) refl

-- columns that are answered are those of some values
pub columns_for : (r : Result (Vec (List ℕ × Column)) Fault) (attributes : List Attribute) (fs : List (Tuple → Outcome Val)) (tuples : List Tuple)
    → length attributes ≡ length fs → Answers (λ cs. columns_view cs.items) r (gathered (named_columns attributes fs tuples))
    → IfOk r (λ cs. AreColumnsFor attributes tuples (columns_view cs.items))
columns_for (Ok cs) attributes fs tuples lengths a = (fs, lengths, a)
columns_for (Err e) attributes fs tuples lengths a = tt

-- a condition without a truth value leaves nothing to choose
pub choice_refused : (o : Outcome Val) (k : Bool → Outcome Val) (f : Fault) → Answers {X = Bool} (λ b. b) (Err f) (truth_value o)
    → Answers {X = Val} (λ v. v) (Err f) (with_value o (λ v. on_truth v k))
choice_refused o k faults.Memory a = tt
choice_refused (Refused cs) k (faults.Refused c) a = a
choice_refused (Valued (boolean b)) k (faults.Refused c) a = absurd (cc)
choice_refused (Valued (integer z)) k (faults.Refused c) a = a
choice_refused (Valued (char t)) k (faults.Refused c) a = a
choice_refused (Valued (user n ps)) k (faults.Refused c) a = a
choice_refused (Valued (tuple fs)) k (faults.Refused c) a = a
choice_refused (Valued (relation h rs)) k (faults.Refused c) a = a

-- a value that is not a relation
pub unrelated : {X : Type 0} (view : X → Relation) (f : Fault) (v : Val) (k : Relation → Outcome Val)
    → Answers view (Err f) (on_relation v Valued) → Answers {X = Val} (λ v. v) (Err f) (on_relation v k)
unrelated view faults.Memory v k a = tt
unrelated view (faults.Refused c) (boolean b) k a = a
unrelated view (faults.Refused c) (integer z) k a = a
unrelated view (faults.Refused c) (char t) k a = a
unrelated view (faults.Refused c) (user n ps) k a = a
unrelated view (faults.Refused c) (tuple fs) k a = a
unrelated view (faults.Refused c) (relation h rs) k a = absurd (cc)
