-- What is answered of two operands that are compared, by whether their types are one.
use Rattle.std.proofs.Common.{◌≡◌, ◌∙◌, true, false, Some, refl}
use Rattle.std.proofs.lemmas.Cmp.{eq_by_cmp_equiv}
use Rattle.td_check.specs.model.OperatorTypes.{equality_type, same_type}
use Rattle.td_tree.specs.declared.cause.Cause.TheVariants as causes
use Rattle.td_tree.specs.model.Outcomes.{Valued, named_cause}
use Rattle.td_types.specs.code.TypeOrder.{type_cmp_total}
use Rattle.td_types.specs.model.Types.{Type', Heading, boolean, integer, char, user, tuple, relation, pack}
use Rattle.td_types.specs.code.Views.{type_view}
use Rattle.td_types.specs.declared.ty.Ty.{Ty}
use Rattle.td_types.specs.declared.ty.Ty.TheVariants as t

-- types are one whichever stands first
same_type-flips : (s t : Type') → same_type s t ≡ same_type t s
same_type-flips s t = (eq_by_cmp_equiv type_cmp_total).symm s t

-- operands of one type are equal or not
pub equal_valued : (s t : Type') → same_type s t ≡ true → equality_type s t ≡ Valued boolean
equal_valued boolean t e = rw (same_type-flips t boolean ∙ e) refl
equal_valued integer t e = rw (same_type-flips t integer ∙ e) refl
equal_valued char t e = rw (same_type-flips t char ∙ e) refl
equal_valued (user n) t e = rw (same_type-flips t (user n) ∙ e) refl
equal_valued (tuple g) t e = rw (same_type-flips t (tuple g) ∙ e) refl
equal_valued (relation g) boolean e = absurd (cc)
equal_valued (relation g) integer e = absurd (cc)
equal_valued (relation g) char e = absurd (cc)
equal_valued (relation g) (user n) e = absurd (cc)
equal_valued (relation g) (tuple h) e = absurd (cc)
equal_valued (relation g) (relation h) e = rw e refl

-- operands of two types, of which the first is no relation type, are refused by TYPE_MISMATCH
pub unlike_refused : (a b : Ty) → ((h : Heading) → a ≡ t.Rel h → ⊥) → same_type (type_view a) (type_view b) ≡ false
    → named_cause (equality_type (type_view a) (type_view b)) ≡ Some causes.TypeMismatch
unlike_refused t.Bool b other e = rw (same_type-flips (type_view b) boolean ∙ e) refl
unlike_refused t.Int b other e = rw (same_type-flips (type_view b) integer ∙ e) refl
unlike_refused t.Text b other e = rw (same_type-flips (type_view b) char ∙ e) refl
unlike_refused (t.User n) b other e = rw (same_type-flips (type_view b) (user n) ∙ e) refl
unlike_refused (t.Tup g) b other e = rw (same_type-flips (type_view b) (tuple (pack g)) ∙ e) refl
unlike_refused (t.Rel g) b other e = absurd (other g refl)

-- so are a relation and what is none
pub relation_refused : (a b : Ty) (g : Heading) → a ≡ t.Rel g → ((h : Heading) → b ≡ t.Rel h → ⊥)
    → named_cause (equality_type (type_view a) (type_view b)) ≡ Some causes.TypeMismatch
relation_refused a t.Bool g is other = rw is refl
relation_refused a t.Int g is other = rw is refl
relation_refused a t.Text g is other = rw is refl
relation_refused a (t.User n) g is other = rw is refl
relation_refused a (t.Tup h) g is other = rw is refl
relation_refused a (t.Rel h) g is other = absurd (other h refl)
