-- What is answered of attributes that are set, by what is answered of their columns.
use Rattle.std.proofs.Common.{◌≡◌, ◌∙◌, Bool, true, false, List, Err, Result, Some, ap, length, sym}
use Rattle.std.specs.Prelude.{⊤}
use Rattle.td_algebra.specs.code.Columns.{AreColumns, AreColumnsOf, NamedColumn, column_attributes}
use Rattle.td_algebra.specs.model.Operators.{set_relation}
use Rattle.td_check.specs.model.OperatorTypes.{set_heading}
use Rattle.td_eval.proofs.code_lemmas.WalkedColumns.{attributes_given, columns_cause, columns_given}
use Rattle.td_eval.proofs.code_lemmas.WalkedExtension.{refused_still}
use Rattle.td_eval.specs.code.NewColumns.{named_columns}
use Rattle.td_eval.specs.model.OperatorValues.{additions_of, columns_values, extended_by_settings, of_relation, set_value}
use Rattle.td_tree.specs.declared.cause.Cause.TheVariants as causes
use Rattle.td_tree.specs.declared.fault.Fault.{Fault}
use Rattle.td_tree.specs.declared.fault.Fault.TheVariants as faults
use Rattle.td_tree.specs.model.Outcomes.{Answers, Outcome, Valued, gathered, named_cause, value_if, with_value}
use Rattle.td_types.specs.model.Headings.{are_distinct, heading_union, outside}
use Rattle.td_types.specs.model.Types.{Attribute, attribute_names}
use Rattle.td_value.specs.model.Values.{Relation, Tuple, Val}

module _ (attributes : List Attribute) (fs : List (Tuple → Outcome Val)) (r : Relation) where
  -- columns that are refused
  pub setting_refused : {X : Type 0} (view : X → List NamedColumn) (f : Fault) → Answers view (Err f) (gathered (named_columns attributes fs r.body))
      → Answers {X = Relation} (λ q. q) (Err f) (set_value attributes fs r)
  setting_refused view faults.Memory a = tt
  setting_refused view (faults.Refused c) a =
      refused_still (gathered (columns_values attributes fs r.body)) (λ columns. Valued (set_relation (additions_of attributes fs) r)) c
      (sym (columns_cause attributes fs r.body) ∙ a)

  module _ (cs : List NamedColumn) (given : gathered (named_columns attributes fs r.body) ≡ Valued cs) where
    pub set_columns : AreColumnsOf cs r.body (additions_of attributes fs)
    set_columns = (columns_given attributes fs r.body cs given).1

    pub set_columns_fit : AreColumns cs r.body
    set_columns_fit = (columns_given attributes fs r.body cs given).2

    pub set_names : length attributes ≡ length fs → column_attributes cs ≡ attributes
    set_names lengths = ap column_attributes set_columns ∙ attributes_given attributes fs r.body lengths

    -- the relation with the attributes set
    pub setting_given : set_value attributes fs r ≡ Valued (set_relation (additions_of attributes fs) r)
    setting_given =
        ap (λ o. with_value o (λ columns. Valued (set_relation (additions_of attributes fs) r))) (columns_given attributes fs r.body cs given).0

-- ---- EXTEND with settings

-- attributes that have no types
pub types_unset : {X : Type 0} (types : Outcome (List Attribute)) (fs : List (Tuple → Outcome Val)) (r : Relation) (view : X → List Attribute) (f : Fault)
    → Answers view (Err f) types → Answers {X = Val} (λ v. v) (Err f) (extended_by_settings types fs r)
types_unset types fs r view faults.Memory a = tt
types_unset types fs r view (faults.Refused c) a =
    refused_still types (λ attributes. with_value (set_heading r.heading attributes) (λ heading. with_value (set_value attributes fs r) of_relation)) c a

module _ (attributes : List Attribute) (fs : List (Tuple → Outcome Val)) (r : Relation) where
  -- a name that comes twice
  pub settings_refused : (f : Fault) → Answers {X = ⊤} (λ u. u) (Err f) (value_if (are_distinct (attribute_names attributes)) tt causes.Heading)
      → Answers {X = Val} (λ v. v) (Err f) (extended_by_settings (Valued attributes) fs r)
  settings_refused faults.Memory a = tt
  settings_refused (faults.Refused c) a = by_test (are_distinct (attribute_names attributes)) a
    where
      by_test : (b : Bool) → named_cause (value_if {A = ⊤} b tt causes.Heading) ≡ Some c
          → named_cause (with_value (value_if b (heading_union (outside attributes r.heading) attributes) causes.Heading)
          (λ heading. with_value (set_value attributes fs r) of_relation)) ≡ Some c
      by_test true e = absurd (cc)
      by_test false e = e

  module _ (distinct : are_distinct (attribute_names attributes) ≡ true) where
    -- columns that are refused
    pub settings_unset : {X : Type 0} (view : X → List NamedColumn) (f : Fault) → Answers view (Err f) (gathered (named_columns attributes fs r.body))
        → Answers {X = Val} (λ v. v) (Err f) (extended_by_settings (Valued attributes) fs r)
    settings_unset view faults.Memory a = tt
    settings_unset view (faults.Refused c) a =
        rw distinct (refused_still (set_value attributes fs r) of_relation c (setting_refused attributes fs r view (faults.Refused c) a))

    -- the relation with the attributes set
    pub settings_given : (cs : List NamedColumn) → gathered (named_columns attributes fs r.body) ≡ Valued cs → (x : Result Val Fault)
        → Answers (λ v. v) x (of_relation (set_relation (additions_of attributes fs) r)) → Answers (λ v. v) x (extended_by_settings (Valued attributes) fs r)
    settings_given cs given x a = rw (distinct, setting_given attributes fs r cs given) a
