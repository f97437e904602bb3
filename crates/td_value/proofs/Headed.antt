-- Whether a tuple, by its names and values, has a heading.
use Rattle.std.proofs.Common.{◌≡◌, ◌∙◌, ◌+◌, ◌<◌, ◌≤◌, ap, sym, refl, arith, ℕ, zero, suc, List, [], ◌∷◌, length, get_or, drop, false, Option, Some, None}
use Rattle.std.specs.Prelude.{◌&&◌, ◌↔◌, IsTrue, is_none}
use Rattle.std.specs.declared.cmp.Ordering.{Ordering}
use Rattle.std.specs.declared.cmp.Ordering.TheVariants.{Less, Equal, Greater}
use Rattle.std.specs.Ordering.{eq_by_cmp, is_eq, nat_cmp, ordering_then}
use Rattle.std.specs.Cmp.Lexicographic.{slice_cmp, texts_ties}
use Rattle.std.specs.List.{slice_get}
use Rattle.std.proofs.lemmas.List.{at_drop_more, drop_all}
use Rattle.std.proofs.lemmas.Option.{get_or_from_slice_get, slice_get_within}
use Rattle.td_types.specs.model.Types.{Attribute, Heading, Attrs, tuple, Type', attrs_cmp, no_attrs, pack, same_name, type_cmp}
use Rattle.std.proofs.lemmas.Cmp.{tied_itself}
use Rattle.td_types.specs.code.TypeOrder.{type_cmp_total, type_same}
use Rattle.td_value.specs.code.ValueOrder.{equal_from}
use Rattle.td_value.specs.model.Values.{Val, type_of}
use Rattle.td_value.specs.code.Zipped.{entries_fit}

eq_then : (o p : Ordering) → is_eq (ordering_then o p) ≡ (is_eq o && is_eq p)
eq_then Less p = refl
eq_then Equal p = refl
eq_then Greater p = refl

fits_first : (m : List ℕ) (v : Val) (a : Attribute) (ns : List (List ℕ)) (vs : List Val) (h : Heading)
    → entries_fit (m ∷ ns) (v ∷ vs) (a ∷ h) ≡ (same_name m a.0 && (eq_by_cmp type_cmp (type_of v) a.1 && entries_fit ns vs h))
fits_first m v a ns vs h =
    eq_then (slice_cmp nat_cmp m a.0) _ ∙ ap (λ b. is_eq (slice_cmp nat_cmp m a.0) && b) (eq_then (type_cmp (type_of v) a.1) _)
    ∙ ap (λ b. b && (eq_by_cmp type_cmp (type_of v) a.1 && entries_fit ns vs h)) (sym (texts_ties m a.0))

item_first : {X : Type 0} (xs : List X) (i : ℕ) (x : X) → i < length xs → x ≡ get_or xs i x → drop i xs ≡ x ∷ drop (i + 1) xs
item_first xs i x h e = at_drop_more (λ r. r) xs i x h ∙ ap (λ y. y ∷ drop (i + 1) xs) (sym e)

got_first : {X : Type 0} (xs : List X) (i : ℕ) (x : X) → slice_get xs i ≡ Some x → drop i xs ≡ x ∷ drop (i + 1) xs
got_first xs i x e = item_first xs i x (slice_get_within xs i x e) (sym (get_or_from_slice_get xs i x x e))

-- one more attribute
pub fits_more : (ns : List (List ℕ)) (vs : List Val) (h : Heading) (i : ℕ) (m : List ℕ) (v : Val) (a : Attribute)
    → length ns ≡ length vs → i < length vs → m ≡ get_or ns i m → v ≡ get_or vs i v → slice_get h i ≡ Some a
    → entries_fit (drop i ns) (drop i vs) (drop i h) ≡ (same_name m a.0 && (eq_by_cmp type_cmp (type_of v) a.1 && entries_fit (drop (i + 1) ns) (drop (i + 1) vs) (drop (i + 1) h)))
fits_more ns vs h i m v a e k p q g =
    rw (item_first ns i m (omega (arith, e, k)) p, item_first vs i v k q, got_first h i a g) (fits_first m v a (drop (i + 1) ns) (drop (i + 1) vs) (drop (i + 1) h))

past : {X : Type 0} (xs : List X) (i : ℕ) → slice_get xs i ≡ None → drop i xs ≡ []
past [] zero e = refl
past [] (suc i) e = refl
past (x ∷ xs) zero e = absurd (cc)
past (x ∷ xs) (suc i) e = past xs i e

-- where the heading ends first
pub fits_short : (ns : List (List ℕ)) (vs : List Val) (h : Heading) (i : ℕ) (v : Val)
    → length ns ≡ length vs → i < length vs → v ≡ get_or vs i v → slice_get h i ≡ None → entries_fit (drop i ns) (drop i vs) (drop i h) ≡ false
fits_short ns vs h i v e k q g =
    rw (at_drop_more (λ r. r) ns i [] (omega (arith, e, k)), item_first vs i v k q, past h i g) refl

-- where the values end
pub fits_end : (ns : List (List ℕ)) (vs : List Val) (h : Heading) (i : ℕ)
    → length ns ≡ length vs → length vs ≤ i → entries_fit (drop i ns) (drop i vs) (drop i h) ≡ is_none (slice_get h i)
fits_end ns vs h i e k = rw (drop_all i ns (omega (arith, e, k))) (by_item (slice_get h i) refl)
  where
    by_item : (o : Option Attribute) → slice_get h i ≡ o → is_eq (attrs_cmp no_attrs (pack (drop i h))) ≡ is_none (slice_get h i)
    by_item (Some a) g = rw (got_first h i a g, g) refl
    by_item None g = rw (past h i g, g) refl

-- types tie where they are the same
pub types_tie : (s t : Type') → IsTrue (eq_by_cmp type_cmp s t) ↔ (s ≡ t)
types_tie s t = (λ e. type_same s t (equal_from (type_cmp s t) e), λ e. rw (e, tied_itself type_cmp_total t) refl)

tuple_in : Type' → Attrs
tuple_in (tuple h) = h
tuple_in t = no_attrs

pub headings_tie : (g h : Attrs) → IsTrue (is_eq (attrs_cmp g h)) ↔ (g ≡ h)
unfolding tuple_in
headings_tie g h = (λ e. ap tuple_in ((types_tie (tuple g) (tuple h)).0 e), λ e. (types_tie (tuple g) (tuple h)).1 (ap tuple e))
