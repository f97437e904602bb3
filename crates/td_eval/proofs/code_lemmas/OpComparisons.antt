-- What is answered of two values that are compared.
use Rattle.std.proofs.Common.{◌≡◌, ◌∙◌, Global, Bool, true, false, Some, refl, sym}
use Rattle.std.specs.declared.rc.Rc.{Rc}
use Rattle.std.specs.Prelude.{◌↔◌, IsTrue}
use Rattle.std.proofs.lemmas.Cmp.{eq_by_cmp_equiv}
use Rattle.std.specs.Ordering.{eq_by_cmp}
use Rattle.td_algebra.specs.model.Operators.{is_subset}
use Rattle.td_check.specs.model.OperatorTypes.{equality_type, same_heading, same_type}
use Rattle.td_check.proofs.Comparisons.{equal_valued}
use Rattle.td_eval.specs.model.OperatorValues.{at_most, equality_value, membership_value, of_truth}
use Rattle.td_tree.specs.declared.cause.Cause.TheVariants as causes
use Rattle.td_tree.specs.model.Outcomes.{Outcome, Valued, Refused, named_cause, value_if, with_value}
use Rattle.td_types.specs.code.TypeCode.{unpack_pack}
use Rattle.td_types.specs.code.TypeOrder.{type_cmp_total, type_eq-Decides}
use Rattle.td_types.specs.model.Types as types
use Rattle.td_types.specs.model.Types.{Type', Attrs}
use Rattle.td_value.specs.model.Sets.{has}
use Rattle.td_value.specs.code.ValueCode.{unpack_pack_fields, unpack_pack_rows}
use Rattle.td_value.specs.model.Values.{Val, boolean, Relation, Tuple, heading_of, relation_value, tuple_cmp, tuple_value, type_of, value_cmp}
use Rattle.td_value.specs.code.Views.{node_view}
use Rattle.td_value.specs.declared.value.Node.{Node}
use Rattle.td_value.specs.declared.value.Node.TheVariants as nodes

-- ---- of one type or not

-- types are one whichever stands first
flips : (s t : Type') → same_type s t ≡ same_type t s
flips s t = (eq_by_cmp_equiv type_cmp_total).symm s t

-- two relations of two types
pub relations_unlike : (g h : Attrs) → same_type (types.relation g) (types.relation h) ≡ false
    → named_cause (equality_type (types.relation g) (types.relation h)) ≡ Some causes.Heading
relations_unlike g h e = rw e refl

-- of two types, the first no relation's
pub first_unlike : (m : Node) (t : Type') → ((r : Rc Relation Global) → m ≡ nodes.Rel r → ⊥) → same_type (type_of (node_view m)) t ≡ false
    → named_cause (equality_type (type_of (node_view m)) t) ≡ Some causes.TypeMismatch
first_unlike (nodes.Bool b) t other e = rw (flips t types.boolean ∙ e) refl
first_unlike (nodes.Int z) t other e = rw (flips t types.integer ∙ e) refl
first_unlike (nodes.Text s) t other e = rw (flips t types.char ∙ e) refl
first_unlike (nodes.User u) t other e = rw (flips t (types.user u.value.name) ∙ e) refl
first_unlike (nodes.Tup u) t other e = rw (flips t (type_of (node_view (nodes.Tup u))) ∙ e) refl
first_unlike (nodes.Rel r) t other e = absurd (other r refl)

-- of two types, the first a relation's and the second none
pub second_unlike : (g : Attrs) (n : Node) → ((r : Rc Relation Global) → n ≡ nodes.Rel r → ⊥)
    → named_cause (equality_type (types.relation g) (type_of (node_view n))) ≡ Some causes.TypeMismatch
second_unlike g (nodes.Bool b) other = refl
second_unlike g (nodes.Int z) other = refl
second_unlike g (nodes.Text s) other = refl
second_unlike g (nodes.User u) other = refl
second_unlike g (nodes.Tup u) other = refl
second_unlike g (nodes.Rel r) other = absurd (other r refl)

-- a test tells whether types are one
pub type_test : (s t : Type') (b : Bool) → (IsTrue b ↔ (s ≡ t)) → b ≡ same_type s t
type_test s t true h = sym ((type_eq-Decides s t).1 (h.0 refl))
type_test s t false h = by_test (same_type s t) refl
  where
    by_test : (c : Bool) → same_type s t ≡ c → false ≡ c
    by_test true e = h.1 ((type_eq-Decides s t).0 e)
    by_test false e = refl

-- ---- equality

-- whether values of one type are one
pub equality_valued : (v w : Val) → same_type (type_of v) (type_of w) ≡ true
    → with_value (equality_type (type_of v) (type_of w)) (λ t. Valued (eq_by_cmp value_cmp v w)) ≡ Valued (eq_by_cmp value_cmp v w)
equality_valued v w e = rw (equal_valued (type_of v) (type_of w) e) refl

-- what follows of it
pub equality_then : (v w : Val) (f : Bool → Bool)
    → with_value (with_value (equality_type (type_of v) (type_of w)) (λ t. Valued (eq_by_cmp value_cmp v w))) (λ b. of_truth (f b)) ≡ equality_value v w f
equality_then v w f = by_outcome (equality_type (type_of v) (type_of w))
  where
    by_outcome : (o : Outcome Type')
        → with_value (with_value o (λ t. Valued (eq_by_cmp value_cmp v w))) (λ b. of_truth (f b)) ≡ with_value o (λ t. of_truth (f (eq_by_cmp value_cmp v w)))
    by_outcome (Valued t) = refl
    by_outcome (Refused cs) = refl

-- ---- inclusion and membership

-- two relations
pub at_most_relations : (r s : Relation) → at_most (relation_value r) (relation_value s) ≡ value_if (same_heading r.heading s.heading) (is_subset r s) causes.Heading
at_most_relations r s = rw (unpack_pack r.heading, unpack_pack_rows r.body, unpack_pack s.heading, unpack_pack_rows s.body) refl

-- a tuple and a relation
pub membership_of : (t : Tuple) (r : Relation)
    → membership_value (tuple_value t) (relation_value r) ≡ value_if (same_heading (heading_of t) r.heading) (boolean (has tuple_cmp t r.body)) causes.Heading
membership_of t r = rw (unpack_pack_fields t, unpack_pack r.heading, unpack_pack_rows r.body) refl
