-- The relations that assignments make of relations in which each user value has a property: each user value in them has it.
use Rattle.std.proofs.Common.{◌≡◌, ℕ, Bool, List, [], ◌∷◌, refl, subst}
use Rattle.std.specs.List.{Contains}
use Rattle.td_algebra.specs.model.Operators.{restriction, union}
use Rattle.td_check.proofs.OperatorLaws.{Gives}
use Rattle.td_eval.proofs.law_lemmas.MetOperators.{GivesMet, HasOnly, PartsMeet, relation_gives, set_value_meets}
use Rattle.td_eval.proofs.law_lemmas.MetRelations.{RelationMeets, met_relation, relation_meets, restriction_meets, union_meets}
use Rattle.td_eval.specs.model.MetConstraints.{MeetConstraint}
use Rattle.td_eval.specs.laws.MetConstraintLaws.{AssignedRelationsMeetConstraints, EachInValues}
use Rattle.td_eval.specs.model.OperatorValues.{on_relation, set_value}
use Rattle.td_tree.specs.model.Outcomes.{Outcome, Valued, Refused}
use Rattle.td_types.specs.model.Types.{Attribute}
use Rattle.td_value.specs.model.Values.{Val, Parts, Relation, Tuple, relation_value}

module _ (P : List ℕ → Parts → Type 0) where
  -- what has such a value, if it has one
  pub gives_met : (o : Outcome Val) → ((v : Val) → o ≡ Valued v → HasOnly P v) → GivesMet P o
  gives_met (Valued v) h = h v refl
  gives_met (Refused cs) h = tt

  pub met_given : (o : Outcome Val) (v : Val) → GivesMet P o → o ≡ Valued v → HasOnly P v
  met_given o v m e = subst (GivesMet P) e m

  -- the relation that such a value is
  pub related_meets : (v : Val) (r : Relation) → HasOnly P v → on_relation v Valued ≡ Valued r → HasOnly P (relation_value r)
  related_meets v r m e =
      relation_meets P r (subst (Gives (RelationMeets P)) e (relation_gives P (RelationMeets P) v Valued m (λ q a. a)))

  pub united_values_meet : (r s : Relation) → HasOnly P (relation_value r) → HasOnly P (relation_value s) → HasOnly P (relation_value (union r s))
  united_values_meet r s m n = relation_meets P (union r s) (union_meets P r s (met_relation P r m) (met_relation P s n))

  pub restricted_values_meet : (p : Tuple → Bool) (r : Relation) → HasOnly P (relation_value r) → HasOnly P (relation_value (restriction p r))
  restricted_values_meet p r m = relation_meets P (restriction p r) (restriction_meets P p r (met_relation P r m))

  parts_meet : (r : Relation) (fs : List (Tuple → Outcome Val)) → EachInValues P r fs → (t : Tuple) → Contains r.body t → PartsMeet P fs t
  parts_meet r [] h t c = tt
  parts_meet r (f ∷ fs) h t c = (gives_met (f t) (λ v e. h.0 t v c e), parts_meet r fs h.1 t c)

  pub set_values_meet : (attributes : List Attribute) (fs : List (Tuple → Outcome Val)) (r q : Relation) → HasOnly P (relation_value r)
      → EachInValues P r fs → set_value attributes fs r ≡ Valued q → HasOnly P (relation_value q)
  set_values_meet attributes fs r q m h e =
      relation_meets P q
      (subst (Gives (RelationMeets P)) e (set_value_meets P attributes fs r (met_relation P r m) (parts_meet r fs h)))

pub assigned_relations_meet_constraints : AssignedRelationsMeetConstraints
assigned_relations_meet_constraints =
    record {
      related = λ ds. related_meets (MeetConstraint ds);
      united = λ ds. united_values_meet (MeetConstraint ds);
      restricted = λ ds. restricted_values_meet (MeetConstraint ds);
      set = λ ds. set_values_meet (MeetConstraint ds);
    }
