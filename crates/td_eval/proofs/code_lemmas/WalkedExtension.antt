-- What EXTEND answers, by what is answered of its new attributes and of their columns.
use Rattle.std.proofs.Common.{◌≡◌, ◌∙◌, Bool, true, false, List, Some, Result, Err, ap, length, refl, subst, sym}
use Rattle.std.specs.Prelude.{◌&&◌, not}
use Rattle.std.specs.List.{list_all}
use Rattle.td_algebra.specs.code.Columns.{AreColumns, AreColumnsOf, NamedColumn, column_attributes}
use Rattle.td_algebra.specs.model.Operators.{extended_relation}
use Rattle.td_check.specs.model.OperatorTypes.{extended_by}
use Rattle.td_eval.proofs.code_lemmas.WalkedColumns.{attributes_given, columns_cause, columns_given}
use Rattle.td_eval.specs.code.NewColumns.{named_columns}
use Rattle.td_eval.specs.model.OperatorValues.{additions_of, columns_values, extended_value, of_relation, on_relation}
use Rattle.td_tree.specs.declared.cause.Cause.{Cause}
use Rattle.td_tree.specs.declared.cause.Cause.TheVariants as causes
use Rattle.td_tree.specs.declared.fault.Fault.{Fault}
use Rattle.td_tree.specs.declared.fault.Fault.TheVariants as faults
use Rattle.td_tree.specs.model.Outcomes.{Answers, Outcome, Valued, Refused, gathered, named_cause, with_value}
use Rattle.td_types.proofs.OutcomeLaws.{valued_is, value_of_test, value_of_with}
use Rattle.td_types.specs.model.Headings.{are_distinct, has_attribute, have_no_common}
use Rattle.td_types.specs.model.Types.{Attribute, Heading, attribute_names}
use Rattle.td_value.specs.model.Values.{Relation, Tuple, Val, boolean, char, integer, relation, tuple, user}

-- what follows of the relation that a value is
pub related : {A : Type 0} (v : Val) (r : Relation) (f : Relation → Outcome A) → on_relation v Valued ≡ Valued r → on_relation v f ≡ f r
related (boolean b) r f e = absurd (cc)
related (integer z) r f e = absurd (cc)
related (char t) r f e = absurd (cc)
related (user n ps) r f e = absurd (cc)
related (tuple fs) r f e = absurd (cc)
related (relation h rs) r f e = ap f (valued_is _ _ e)

pub answers_related : {X : Type 0} (view : X → Val) (v : Val) (r : Relation) (f : Relation → Outcome Val) (x : Result X Fault)
    → on_relation v Valued ≡ Valued r → Answers view x (f r) → Answers view x (on_relation v f)
answers_related view v r f x e a = subst (Answers view x) (sym (related v r f e)) a

-- what is refused stays so
pub refused_still : {A B : Type 0} (o : Outcome A) (f : A → Outcome B) (c : Cause) → named_cause o ≡ Some c → named_cause (with_value o f) ≡ Some c
refused_still (Valued x) f c e = absurd (cc)
refused_still (Refused cs) f c e = e

-- the attributes where they are new
abbrev pub checked_new : Heading → Outcome (List Attribute) → Outcome (List Attribute)
checked_new h types = with_value types (λ attributes. with_value (extended_by h attributes) (λ heading. Valued attributes))

-- so of attributes whose types are known, where a heading is another by which they were asked
pub checked_of : (h : Heading) (attributes : List Attribute) (g : Heading) → h ≡ g
    → with_value {B = List Attribute} (extended_by g attributes) (λ heading. Valued attributes) ≡ Valued attributes
    → checked_new h (Valued attributes) ≡ Valued attributes
checked_of h attributes g same e = ap (λ k. checked_new k (Valued attributes)) same ∙ e

module _ (types : Outcome (List Attribute)) (fs : List (Tuple → Outcome Val)) (r : Relation) where
  -- attributes that have no types
  pub types_refused : {X : Type 0} (view : X → List Attribute) (f : Fault) → Answers view (Err f) types
      → Answers {X = Val} (λ v. v) (Err f) (extended_value types fs r)
  types_refused view faults.Memory a = tt
  types_refused view (faults.Refused c) a =
      refused_still types (λ attributes. with_value (extended_by r.heading attributes)
      (λ heading. with_value (gathered (columns_values attributes fs r.body))
      (λ columns. of_relation (extended_relation (additions_of attributes fs) r)))) c a

  module _ (attributes : List Attribute) (new : checked_new r.heading types ≡ Valued attributes) where
    found : (types ≡ Valued attributes) × (h : Heading) × (extended_by r.heading attributes ≡ Valued h)
    found =
        let known = value_of_with types (λ attributes. with_value (extended_by r.heading attributes) (λ heading. Valued attributes)) attributes new in
        let headed = value_of_with (extended_by r.heading known.0) (λ heading. Valued known.0) attributes known.2 in
        let same : known.0 ≡ attributes = valued_is known.0 attributes headed.2 in
        (known.1 ∙ ap Valued same, headed.0, ap (extended_by r.heading) (sym same) ∙ headed.1)

    first_true : (a b : Bool) → (a && b) ≡ true → a ≡ true
    first_true true b e = refl
    first_true false b e = e

    second_true : (a b : Bool) → (a && b) ≡ true → b ≡ true
    second_true true b e = e
    second_true false b e = absurd (cc)

    pub types_given : types ≡ Valued attributes
    types_given = found.0

    are_new : (are_distinct (attribute_names attributes) && list_all (λ a. not (has_attribute a.0 r.heading)) attributes) ≡ true
    are_new = (value_of_test _ _ found.1 causes.Heading found.2).0

    pub distinct_given : are_distinct (attribute_names attributes) ≡ true
    distinct_given = first_true _ _ are_new

    pub apart_given : have_no_common attributes r.heading ≡ true
    apart_given = second_true _ _ are_new

    -- columns that are refused
    pub columns_refused : {X : Type 0} (view : X → List NamedColumn) (f : Fault) (xs : List Attribute) → xs ≡ attributes
        → Answers view (Err f) (gathered (named_columns xs fs r.body)) → Answers {X = Val} (λ v. v) (Err f) (extended_value types fs r)
    columns_refused view faults.Memory xs same a = tt
    columns_refused view (faults.Refused c) xs same a =
        rw (types_given, found.2)
        (refused_still (gathered (columns_values attributes fs r.body)) (λ columns. of_relation (extended_relation (additions_of attributes fs) r)) c
        (sym (columns_cause attributes fs r.body) ∙ ap (λ ys. named_cause (gathered (named_columns ys fs r.body))) (sym same) ∙ a))

    module _ (cs : List NamedColumn) (given : gathered (named_columns attributes fs r.body) ≡ Valued cs) where
      -- the relation with the columns
      pub extended_given : (x : Result Val Fault) → Answers (λ v. v) x (of_relation (extended_relation (additions_of attributes fs) r))
          → Answers (λ v. v) x (extended_value types fs r)
      extended_given x a = rw (types_given, found.2, (columns_given attributes fs r.body cs given).0) a

      pub columns_of_additions : AreColumnsOf cs r.body (additions_of attributes fs)
      columns_of_additions = (columns_given attributes fs r.body cs given).1

      pub columns_fit : AreColumns cs r.body
      columns_fit = (columns_given attributes fs r.body cs given).2

      pub same_attributes : length attributes ≡ length fs → column_attributes cs ≡ attributes
      same_attributes lengths = ap column_attributes columns_of_additions ∙ attributes_given attributes fs r.body lengths
