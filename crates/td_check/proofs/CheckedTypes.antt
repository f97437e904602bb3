-- The type of an expression by the answers for its parts, node by node.
use Rattle.std.proofs.Common.{◌≡◌, ◌∙◌, List, Option, Some, None, Result, map, refl, subst, sym}
use Rattle.std.specs.Global.{Vec}
use Rattle.td_check.specs.code.CheckViews.{Added, choice_of, headed_view, by_summary, per_summary, three_types_view, types_view}
use Rattle.td_check.specs.model.OperatorTypes as own
use Rattle.td_check.specs.model.OperatorTypes.{headed_type, over_relation}
use Rattle.td_check.specs.model.StaticTypes.{both_types}
use Rattle.td_check.proofs.Gives.{Gives, answers_paired, paired_first, with_pair}
use Rattle.td_tree.specs.code.Gatherings.{both_answers}
use Rattle.td_tree.specs.declared.fault.Fault.{Fault}
use Rattle.td_tree.specs.model.Outcomes.{Answers, Outcome, Valued, Refused, with_both, with_value}
use Rattle.td_tree.specs.model.Trees.{Attributes}
use Rattle.td_types.specs.model.Types.{Type', boolean, integer, char, user, tuple, relation, Attribute, Heading}
use Rattle.td_types.specs.code.Views.{type_view}
use Rattle.td_types.specs.declared.ty.Ty.{Ty}

-- ---- two parts, and three

pub two_typed : (f : Type' → Type' → Outcome Type') (o p : Outcome Type') (x y z : Result Ty Fault) → Answers type_view x o → Answers type_view y p
    → Gives types_view (both_answers x y) (λ both. f both.0 both.1) type_view z → Answers type_view z (with_both o p f)
two_typed f o p x y z h i gives =
    subst (Answers type_view z) (paired_first o p f) (gives (with_both o p with_pair) (answers_paired type_view type_view x y o p h i))

pub headed_typed : (o : Outcome Heading) (p : Outcome (List Type')) (x : Result Heading Fault) (y : Result (Vec Ty) Fault) (z : Result Ty Fault)
    → Answers (λ h. h) x o → Answers (λ ts. map type_view ts.items) y p
    → Gives headed_view (both_answers x y) (λ parts. headed_type parts.0 parts.1) type_view z → Answers type_view z (with_both o p headed_type)
headed_typed o p x y z h i gives =
    subst (Answers type_view z) (paired_first o p headed_type)
    (gives (with_both o p with_pair) (answers_paired (λ h. h) (λ ts. map type_view ts.items) x y o p h i))

pub choice_typed : (o p q : Outcome Type') (w x y z : Result Ty Fault) → Answers type_view w o → Answers type_view x p → Answers type_view y q
    → Gives three_types_view (both_answers w (both_answers x y)) choice_of type_view z
    → Answers type_view z (with_both o (both_types p q) (λ c both. own.choice_type c both.0 both.1))
choice_typed o p q w x y z h i j gives =
    subst (Answers type_view z) (paired_first o (with_both p q with_pair) (λ c both. own.choice_type c both.0 both.1))
    (gives (with_both o (with_both p q with_pair) with_pair)
    (answers_paired type_view types_view w (both_answers x y) o (with_both p q with_pair) h (answers_paired type_view type_view x y p q i j)))

-- ---- what stands in an operand's tuples

-- what follows in the tuples follows of what was found there
over_relation_then : {A B : Type 0} (s : Type') (found : Heading → Outcome A) (f : A → Outcome B)
    → over_relation s (λ h. with_value (found h) f) ≡ with_value (over_relation s found) f
over_relation_then boolean found f = refl
over_relation_then integer found f = refl
over_relation_then char found f = refl
over_relation_then (user name) found f = refl
over_relation_then (tuple h) found f = refl
over_relation_then (relation h) found f = refl

over_relation_each : {A B : Type 0} (s : Type') (found : Heading → Outcome A) (f : Heading → A → Outcome B)
    → over_relation s (λ h. with_value (found h) (f h)) ≡ with_value (over_relation s found) (λ x. over_relation s (λ h. f h x))
over_relation_each boolean found f = refl
over_relation_each integer found f = refl
over_relation_each char found f = refl
over_relation_each (user name) found f = refl
over_relation_each (tuple h) found f = refl
over_relation_each (relation h) found f = refl

-- of an operand of this type
pub inside_typed : {A : Type 0} (o : Outcome Type') (s : Type') → o ≡ Valued s → (found : Heading → Outcome A) (f : Type' → A → Outcome Type')
    → with_value (over_relation s found) (f s) ≡ with_value o (λ s. over_relation s (λ h. with_value (found h) (f s)))
inside_typed o s is found f = rw is (sym (over_relation_then s found (f s)))

-- with attributes that a rule adds to the operand's heading
pub inside_extended : (rule : Heading → List Attribute → Outcome Type') (o : Outcome Type') (s : Type') → o ≡ Valued s → (found : Heading → Outcome (List Attribute))
    → with_value (over_relation s found) (λ attributes. over_relation s (λ h. rule h attributes))
    ≡ with_value o (λ s. over_relation s (λ h. with_value (found h) (rule h)))
inside_extended rule o s is found = rw is (sym (over_relation_each s found rule))

-- ---- SUMMARIZE

pub summary_by_typed : (by : Attributes) (o : Outcome (Option Added))
    → with_value o (by_summary by)
    ≡ with_value o (λ added. elim added as (λ _. Outcome Type') [ Some both ↦ own.summary_type (own.named_part by both.0) both.1 | None ↦ own.mismatch ])
summary_by_typed by (Valued (Some both)) = refl
summary_by_typed by (Valued None) = refl
summary_by_typed by (Refused cs) = refl

summary_per_typed : (o : Outcome (Option Added)) (p : Outcome Type')
    → with_both o p (λ added t. per_summary (added, t))
    ≡ with_both o p (λ added t. elim added as (λ _. Outcome Type') [ Some both ↦ own.summary_type (own.per_heading both.0 t) both.1 | None ↦ own.mismatch ])
summary_per_typed (Valued (Some both)) (Valued t) = refl
summary_per_typed (Valued None) (Valued t) = refl
summary_per_typed (Valued added) (Refused ds) = refl
summary_per_typed (Refused cs) (Valued t) = refl
summary_per_typed (Refused cs) (Refused ds) = refl

pub per_typed : {X : Type 0} (view : X → Option Added) (o : Outcome (Option Added)) (p : Outcome Type') (x : Result X Fault) (y z : Result Ty Fault)
    → Answers view x o → Answers type_view y p
    → Gives {X = X × Ty} (λ b. (view b.0, type_view b.1)) (both_answers x y) per_summary type_view z
    → Answers type_view z
    (with_both o p (λ added t. elim added as (λ _. Outcome Type') [ Some both ↦ own.summary_type (own.per_heading both.0 t) both.1 | None ↦ own.mismatch ]))
per_typed view o p x y z h i gives =
    subst (Answers type_view z) (paired_first o p (λ added t. per_summary (added, t)) ∙ summary_per_typed o p)
    (gives (with_both o p with_pair) (answers_paired view type_view x y o p h i))
