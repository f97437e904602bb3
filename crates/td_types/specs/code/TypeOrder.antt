-- The order of types and of headings (this project's own: no output shows it) is total, and only equal ones tie in it.
use Rattle.std.specs.Prelude.{◌≡◌, true, ℕ, zero, suc, List, [], refl}
use Rattle.std.specs.declared.cmp.Ordering.{Ordering}
use Rattle.std.specs.declared.cmp.Ordering.TheVariants.{Less, Equal, Greater}
use Rattle.std.specs.Ordering.{nat_cmp, ordering_then, on, eq_by_cmp, as_partial_cmp}
use Rattle.std.specs.Bool.{Decides}
use Rattle.std.specs.Cmp.{Equal-is, IsTotalOrder, IsEquivalence, IsPartialEquivalence, IsPartialOrder, partial_equiv_from_equiv, partial_order_from_agreeing_total}
use Rattle.std.specs.Cmp.Lexicographic.{slice_cmp}
use Rattle.std.proofs.Common.{ap, sym, ◌∙◌, subst}
use Rattle.std.proofs.lemmas.Cmp.{on_total, eq_by_cmp_equiv}
use Rattle.td_types.specs.declared.ty.Ty.{Ty}
use Rattle.td_types.specs.code.Views.{type_view}
use Rattle.td_types.specs.code.Keys.{Key, key, Keys, no_keys, more, key_cmp, keys_cmp, key_cmp_total, key_same}
use Rattle.td_types.specs.model.Types.{Type', boolean, integer, char, user, tuple, relation, Attrs, no_attrs, attr, Heading, pack, unpack, type_cmp, attrs_cmp, heading_cmp}
use Rattle.td_types.specs.code.TypeCode.{attrs_keys, type_key, unpack_pack}

then_equal_right : (o : Ordering) → ordering_then o Equal ≡ o
then_equal_right Less = refl
then_equal_right Equal = refl
then_equal_right Greater = refl

mutual
  -- the order of types is that of their keys
  pub type_cmp-key : (s t : Type') → type_cmp s t ≡ key_cmp (type_key s) (type_key t)
  type_cmp-key (user m) (user n) = sym (then_equal_right (slice_cmp nat_cmp m n))
  type_cmp-key (tuple xs) (tuple ys) = attrs_cmp-keys xs ys
  type_cmp-key (relation xs) (relation ys) = attrs_cmp-keys xs ys
  type_cmp-key boolean boolean = refl
  type_cmp-key boolean integer = refl
  type_cmp-key boolean char = refl
  type_cmp-key boolean (user n) = refl
  type_cmp-key boolean (tuple ys) = refl
  type_cmp-key boolean (relation ys) = refl
  type_cmp-key integer boolean = refl
  type_cmp-key integer integer = refl
  type_cmp-key integer char = refl
  type_cmp-key integer (user n) = refl
  type_cmp-key integer (tuple ys) = refl
  type_cmp-key integer (relation ys) = refl
  type_cmp-key char boolean = refl
  type_cmp-key char integer = refl
  type_cmp-key char char = refl
  type_cmp-key char (user n) = refl
  type_cmp-key char (tuple ys) = refl
  type_cmp-key char (relation ys) = refl
  type_cmp-key s t = refl

  pub attrs_cmp-keys : (xs ys : Attrs) → attrs_cmp xs ys ≡ keys_cmp (attrs_keys xs) (attrs_keys ys)
  attrs_cmp-keys no_attrs no_attrs = refl
  attrs_cmp-keys no_attrs (attr n t ys) = refl
  attrs_cmp-keys (attr m s xs) no_attrs = refl
  attrs_cmp-keys (attr m s xs) (attr n t ys) =
      rw (type_cmp-key s t, attrs_cmp-keys xs ys, then_equal_right (slice_cmp nat_cmp m n))

pub type_cmp_total : IsTotalOrder type_cmp
type_cmp_total = record {
  antisymm = λ s t. rw (type_cmp-key s t, type_cmp-key t s) (key_cmp_total.antisymm (type_key s) (type_key t));
  trans = λ s t u p q. type_cmp-key s u ∙ key_cmp_total.trans (type_key s) (type_key t) (type_key u) (sym (type_cmp-key s t) ∙ p) (sym (type_cmp-key t u) ∙ q);
  congr = λ s t u p. type_cmp-key s u ∙ key_cmp_total.congr (type_key s) (type_key t) (type_key u) (sym (type_cmp-key s t) ∙ p) ∙ sym (type_cmp-key t u);
}

-- ---- the key of a type gives the type back

abbrev pub key_bytes : Key → List ℕ
key_bytes (key a x s ks) = s

abbrev mutual
  pub type_from_key : Key → Type'
  type_from_key (key zero x s ks) = boolean
  type_from_key (key (suc zero) x s ks) = integer
  type_from_key (key (suc (suc zero)) x s ks) = char
  type_from_key (key (suc (suc (suc zero))) x s ks) = user s
  type_from_key (key (suc (suc (suc (suc zero)))) x s ks) = tuple (attrs_from_keys ks)
  type_from_key (key (suc (suc (suc (suc (suc n))))) x s ks) = relation (attrs_from_keys ks)

  pub attrs_from_keys : Keys → Attrs
  attrs_from_keys no_keys = no_attrs
  attrs_from_keys (more k no_keys) = no_attrs
  attrs_from_keys (more k (more l ks)) = attr (key_bytes k) (type_from_key l) (attrs_from_keys ks)

mutual
  pub type_from_key-type_key : (t : Type') → type_from_key (type_key t) ≡ t
  type_from_key-type_key boolean = refl
  type_from_key-type_key integer = refl
  type_from_key-type_key char = refl
  type_from_key-type_key (user n) = refl
  type_from_key-type_key (tuple xs) = ap tuple (attrs_from_keys-attrs_keys xs)
  type_from_key-type_key (relation xs) = ap relation (attrs_from_keys-attrs_keys xs)

  pub attrs_from_keys-attrs_keys : (xs : Attrs) → attrs_from_keys (attrs_keys xs) ≡ xs
  attrs_from_keys-attrs_keys no_attrs = refl
  attrs_from_keys-attrs_keys (attr n t xs) = λ i. attr n (type_from_key-type_key t i) (attrs_from_keys-attrs_keys xs i)

-- only equal types tie
pub type_same : (s t : Type') → type_cmp s t ≡ Equal → s ≡ t
type_same s t e =
    sym (type_from_key-type_key s) ∙ ap type_from_key (key_same (type_key s) (type_key t) (sym (type_cmp-key s t) ∙ e)) ∙ type_from_key-type_key t

-- two types pass the test of the order exactly where they are the same
pub type_eq-Decides : (s t : Type') → Decides (eq_by_cmp type_cmp s t) (s ≡ t)
type_eq-Decides s t =
    (λ e. type_same s t ((Equal-is (type_cmp s t)).0 e), λ e. subst (λ u. eq_by_cmp type_cmp s u ≡ true) e ((eq_by_cmp_equiv type_cmp_total).refl s))

-- ---- types of the code

abbrev pub ty_cmp : Ty → Ty → Ordering
ty_cmp = on type_view type_cmp

pub ty_cmp_total : IsTotalOrder ty_cmp
ty_cmp_total = on_total type_view type_cmp_total

pub ty_eq_equiv : IsEquivalence (eq_by_cmp ty_cmp)
ty_eq_equiv = eq_by_cmp_equiv ty_cmp_total

pub ty_eq_laws : IsPartialEquivalence (eq_by_cmp ty_cmp)
ty_eq_laws = partial_equiv_from_equiv ty_eq_equiv

pub ty_partial_laws : IsPartialOrder (eq_by_cmp ty_cmp) (as_partial_cmp ty_cmp)
ty_partial_laws = partial_order_from_agreeing_total ty_cmp ty_cmp_total (λ x y. refl) (λ x y. refl)

-- ---- headings: as the tuple types that they make

pub heading_cmp_total : IsTotalOrder heading_cmp
heading_cmp_total = on_total (λ h. tuple (pack h)) type_cmp_total

headings_of : Type' → Heading
headings_of (tuple xs) = unpack xs
headings_of t = []

pub heading_same : (g h : Heading) → heading_cmp g h ≡ Equal → g ≡ h
unfolding headings_of
heading_same g h e = sym (unpack_pack g) ∙ ap headings_of (type_same (tuple (pack g)) (tuple (pack h)) e) ∙ unpack_pack h

-- two headings pass the test of the order exactly where they are the same
pub heading_eq-Decides : (g h : Heading) → Decides (eq_by_cmp heading_cmp g h) (g ≡ h)
heading_eq-Decides g h =
    (λ e. heading_same g h ((Equal-is (heading_cmp g h)).0 e), λ e. subst (λ k. eq_by_cmp heading_cmp g k ≡ true) e ((eq_by_cmp_equiv heading_cmp_total).refl g))

pub heading_eq_equiv : IsEquivalence (eq_by_cmp heading_cmp)
heading_eq_equiv = eq_by_cmp_equiv heading_cmp_total

pub heading_eq_laws : IsPartialEquivalence (eq_by_cmp heading_cmp)
heading_eq_laws = partial_equiv_from_equiv heading_eq_equiv

pub heading_partial_laws : IsPartialOrder (eq_by_cmp heading_cmp) (as_partial_cmp heading_cmp)
heading_partial_laws = partial_order_from_agreeing_total heading_cmp heading_cmp_total (λ x y. refl) (λ x y. refl)
