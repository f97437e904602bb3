-- What the operations on headings make: each is ascending, and gives each name the type that it should.
-- A heading is one of std's sorted lists of entries, whose lemmas show most of it.
use Rattle.std.proofs.Common.{◌≡◌, ℕ, ◌+◌, suc, Bool, true, false, cond, List, [], ◌∷◌, refl, sym, subst, ap, ◌∙◌, arith, Option, None, Some}
use Rattle.std.specs.Prelude.{if◌then◌else◌, is_some, map, T, not, ◌&&◌, ◌||◌}
use Rattle.std.specs.declared.cmp.Ordering.{Ordering}
use Rattle.std.specs.declared.cmp.Ordering.TheVariants.{Less, Equal, Greater}
use Rattle.std.specs.Ordering.{nat_cmp, eq_by_cmp, is_lt, ordering_reverse}
use Rattle.std.specs.Cmp.Lexicographic.{same_text, slice_cmp, texts_ties}
use Rattle.std.specs.List.{AllByRecursion, filter, insert, list_all, prefix_len}
use Rattle.std.specs.List.Sorted.{IsStrictlySortedBy}
use Rattle.std.specs.FinMap.Entries.{by_order, find, is_sorted, below_all, is_sorted-put, is_sorted-where_key, find-put, find-where_key, same_entries}
use Rattle.std.proofs.lemmas.Cmp.{nat_list_cmp_total, eq_by_cmp_equiv}
use Rattle.std.proofs.lemmas.Map.Lookups.{exact_bytes}
use Rattle.td_types.specs.laws.HeadingLaws.{AgreementIsOneType, RenamingKeepsTypes, TypesDetermineHeading}
use Rattle.td_types.specs.model.Headings.{are_distinct, new_name, add_missing, agree, common_part, has_attribute, has_attributes, has_name, have_no_common, heading_union, is_type_or_none, outside, projection, renamed_attributes, with_attribute, without_attribute}
use Rattle.td_tree.specs.model.Names.{IsName}
use Rattle.td_types.specs.code.TypeOrder.{type_eq-Decides}
use Rattle.td_types.specs.model.Types.{Type', Attribute, Heading, IsAscending, IsBefore, IsHeading, IsType, pack, attribute_names, same_name, type_at}

abbrev pub name_cmp : List ℕ → List ℕ → Ordering
name_cmp = slice_cmp nat_cmp

-- the same names tie
pub same_name-ties : (m n : List ℕ) → same_name m n ≡ eq_by_cmp name_cmp n m
same_name-ties m n = texts_ties m n ∙ (eq_by_cmp_equiv nat_list_cmp_total).symm m n

-- the type of a name is what std's look-up finds
pub find-type_at : (n : List ℕ) (xs : Heading) → find name_cmp n xs ≡ type_at n xs
find-type_at n [] = refl
find-type_at n (x ∷ xs) = rw (same_name-ties x.0 n, find-type_at n xs) refl

less_is : (o : Ordering) → o ≡ Less → T (is_lt o)
less_is Less e = tt
less_is Equal e = cc
less_is Greater e = cc

is_less : (o : Ordering) → T (is_lt o) → o ≡ Less
is_less Less h = refl
is_less Equal h = absurd h
is_less Greater h = absurd h

both : (a b : Bool) → T a → T b → T (a && b)
both true b p q = q
both false b p q = p

first : (a b : Bool) → T (a && b) → T a
first true b p = tt
first false b p = p

second : (a b : Bool) → T (a && b) → T b
second true b p = p
second false b p = absurd p

above_first : (n : List ℕ) (xs : Heading) → AllByRecursion (λ m. name_cmp n m ≡ Less) (attribute_names xs) → T (below_all name_cmp n xs)
above_first n [] h = tt
above_first n (x ∷ xs) h = both _ _ (less_is (name_cmp n x.0) h.0) (above_first n xs h.1)

above_first_back : (n : List ℕ) (xs : Heading) → T (below_all name_cmp n xs) → AllByRecursion (λ m. name_cmp n m ≡ Less) (attribute_names xs)
above_first_back n [] h = tt
above_first_back n (x ∷ xs) h = (is_less (name_cmp n x.0) (first _ _ h), above_first_back n xs (second _ _ h))

-- ascending names are sorted entries
pub sorted_from_ascending : (xs : Heading) → IsAscending xs → T (is_sorted name_cmp xs)
unfolding IsStrictlySortedBy
sorted_from_ascending [] h = tt
sorted_from_ascending (x ∷ xs) h = both _ _ (above_first x.0 xs h.0) (sorted_from_ascending xs h.1)

pub ascending_from_sorted : (xs : Heading) → T (is_sorted name_cmp xs) → IsAscending xs
unfolding IsStrictlySortedBy
ascending_from_sorted [] h = tt
ascending_from_sorted (x ∷ xs) h = (above_first_back x.0 xs (first _ _ h), ascending_from_sorted xs (second _ _ h))

-- ---- an attribute put in its place

pub IsAscending-with : (n : List ℕ) (t : Type') (xs : Heading) → IsAscending xs → IsAscending (with_attribute xs (n, t))
IsAscending-with n t xs h = ascending_from_sorted _ (is_sorted-put name_cmp nat_list_cmp_total n t xs (sorted_from_ascending xs h))

pub type_at-with : (m n : List ℕ) (t : Type') (xs : Heading) → type_at m (with_attribute xs (n, t)) ≡ (if same_name n m then Some t else type_at m xs)
type_at-with m n t xs = sym (find-type_at m (with_attribute xs (n, t))) ∙ find-put name_cmp nat_list_cmp_total m n t xs ∙ rw (find-type_at m xs, same_name-ties n m) refl

-- ---- what every heading is

before_all : (n : List ℕ) (xs : Heading) → IsBefore n (pack xs) → AllByRecursion (λ m. name_cmp n m ≡ Less) (attribute_names xs)
before_all n [] h = tt
before_all n (x ∷ xs) h = (h.0, before_all n xs h.1)

-- its names ascend
pub ascending_from_heading : (xs : Heading) → IsHeading (pack xs) → IsAscending xs
unfolding IsStrictlySortedBy
ascending_from_heading [] h = tt
ascending_from_heading (x ∷ xs) h = (before_all x.0 xs h.2, ascending_from_heading xs h.3)

before_filter : (n : List ℕ) (p : Attribute → Bool) (xs : Heading) → IsBefore n (pack xs) → IsBefore n (pack (filter p xs))
before_filter n p [] h = tt
before_filter n p (x ∷ xs) h = by_test (p x) (before_filter n p xs h.1)
  where
    by_test : (b : Bool) → IsBefore n (pack (filter p xs)) → IsBefore n (pack (if b then x ∷ filter p xs else filter p xs))
    by_test true rest = (h.0, rest)
    by_test false rest = rest

-- so is what a filter keeps of it
pub IsHeading-filter : (p : Attribute → Bool) (xs : Heading) → IsHeading (pack xs) → IsHeading (pack (filter p xs))
IsHeading-filter p [] h = tt
IsHeading-filter p (x ∷ xs) h = by_test (p x) (before_filter x.0 p xs h.2) (IsHeading-filter p xs h.3)
  where
    by_test : (b : Bool) → IsBefore x.0 (pack (filter p xs)) → IsHeading (pack (filter p xs)) → IsHeading (pack (if b then x ∷ filter p xs else filter p xs))
    by_test true before rest = (h.0, h.1, before, rest)
    by_test false before rest = rest

before_with : (m n : List ℕ) (t : Type') (xs : Heading) → name_cmp m n ≡ Less → IsBefore m (pack xs) → IsBefore m (pack (with_attribute xs (n, t)))
before_with m n t [] e h = (e, tt)
before_with m n t (x ∷ xs) e h = by_place (name_cmp n x.0) (before_with m n t xs e h.1)
  where
    by_place : (o : Ordering) → IsBefore m (pack (with_attribute xs (n, t))) → IsBefore m (pack (by_order o ((n, t) ∷ x ∷ xs) ((x.0, t) ∷ xs) (x ∷ with_attribute xs (n, t))))
    by_place Less rest = (e, h)
    by_place Equal rest = h
    by_place Greater rest = (h.0, rest)

before_further : (m n : List ℕ) (xs : Heading) → name_cmp m n ≡ Less → IsBefore n (pack xs) → IsBefore m (pack xs)
before_further m n [] e h = tt
before_further m n (x ∷ xs) e h = (nat_list_cmp_total.trans m n x.0 e h.0, before_further m n xs e h.1)

-- so is it with one more attribute
pub IsHeading-with : (n : List ℕ) (t : Type') (xs : Heading) → IsName n → IsType t → IsHeading (pack xs) → IsHeading (pack (with_attribute xs (n, t)))
IsHeading-with n t [] a b h = (a, b, tt, tt)
IsHeading-with n t (x ∷ xs) a b h = by_place (name_cmp n x.0) refl (IsHeading-with n t xs a b h.3)
  where
    by_place : (o : Ordering) → name_cmp n x.0 ≡ o → IsHeading (pack (with_attribute xs (n, t)))
        → IsHeading (pack (by_order o ((n, t) ∷ x ∷ xs) ((x.0, t) ∷ xs) (x ∷ with_attribute xs (n, t))))
    by_place Less e rest = (a, b, (e, before_further n x.0 xs e h.2), h)
    by_place Equal e rest = (h.0, b, h.2, h.3)
    by_place Greater e rest = (h.0, h.1, before_with x.0 n t xs (nat_list_cmp_total.antisymm x.0 n ∙ ap ordering_reverse e) h.2, rest)

-- two headings with the same types are the same
pub types_determine_heading : TypesDetermineHeading
types_determine_heading g h a b e =
    same_entries name_cmp nat_list_cmp_total exact_bytes g h (sorted_from_ascending g a) (sorted_from_ascending h b) (λ n. find-type_at n g ∙ e n ∙ sym (find-type_at n h))

-- an attribute inserted before the first that does not stand before its name is put in its place
pub insert-with : (n : List ℕ) (t : Type') (xs : Heading) → is_some (type_at n xs) ≡ false
    → insert xs (prefix_len (λ a. is_lt (name_cmp a.0 n)) xs) (n, t) ≡ with_attribute xs (n, t)
insert-with n t [] h = refl
insert-with n t (x ∷ xs) h = by_first (insert-with n t xs) (name_cmp x.0 n) refl (nat_list_cmp_total.antisymm n x.0)
  where
    by_first : (is_some (type_at n xs) ≡ false → insert xs (prefix_len (λ a. is_lt (name_cmp a.0 n)) xs) (n, t) ≡ with_attribute xs (n, t))
        → (o : Ordering) → name_cmp x.0 n ≡ o → name_cmp n x.0 ≡ ordering_reverse (name_cmp x.0 n)
        → insert (x ∷ xs) (prefix_len (λ a. is_lt (name_cmp a.0 n)) (x ∷ xs)) (n, t) ≡ with_attribute (x ∷ xs) (n, t)
    by_first rest Less e r =
        let above : name_cmp n x.0 ≡ Greater = r ∙ ap ordering_reverse e in
        let none : is_some (type_at n xs) ≡ false = rw (same_name-ties x.0 n, above) at h in
        let next : 1 + prefix_len (λ a. is_lt (name_cmp a.0 n)) xs ≡ suc (prefix_len (λ a. is_lt (name_cmp a.0 n)) xs) = omega arith in
        rw (e, above, next) (ap (λ r. x ∷ r) (rest none))
    by_first rest Equal e r =
        let tied : name_cmp n x.0 ≡ Equal = r ∙ ap ordering_reverse e in
        let some : true ≡ false = rw (same_name-ties x.0 n, tied) at h in
        cc
    by_first rest Greater e r =
        let below : name_cmp n x.0 ≡ Less = r ∙ ap ordering_reverse e in
        rw (e, below) refl

-- ---- the attributes of some names

pub IsAscending-filter : (p : List ℕ → Bool) (xs : Heading) → IsAscending xs → IsAscending (filter (λ a. p a.0) xs)
IsAscending-filter p xs h = ascending_from_sorted _ (is_sorted-where_key name_cmp p xs (sorted_from_ascending xs h))

pub type_at-filter : (p : List ℕ → Bool) (n : List ℕ) (xs : Heading) → type_at n (filter (λ a. p a.0) xs) ≡ (if p n then type_at n xs else None)
type_at-filter p n xs =
    sym (find-type_at n (filter (λ a. p a.0) xs)) ∙ find-where_key name_cmp p n (λ m e. ap p (sym (exact_bytes n m e))) xs ∙ ap (λ t. if p n then t else None) (find-type_at n xs)

pub same_name-flips : (m n : List ℕ) → same_name m n ≡ same_name n m
same_name-flips m n = texts_ties m n ∙ (eq_by_cmp_equiv nat_list_cmp_total).symm m n ∙ sym (texts_ties n m)

if_not : {A : Type 0} (b : Bool) (x y : A) → (if not b then x else y) ≡ (if b then y else x)
if_not true x y = refl
if_not false x y = refl

pub type_at-without : (name n : List ℕ) (xs : Heading) → type_at n (without_attribute name xs) ≡ (if same_name name n then None else type_at n xs)
type_at-without name n xs =
    type_at-filter (λ m. not (same_name m name)) n xs ∙ rw (same_name-flips name n) (if_not (same_name n name) (type_at n xs) None)

-- ---- the attributes of one heading, and those of another that it lacks

same_when_found : {A : Type 0} (o : Option A) → (if is_some o then o else None) ≡ o
same_when_found None = refl
same_when_found (Some a) = refl

type_at-add_missing : (n : List ℕ) (h xs : Heading) (a : Attribute) (there : Bool) → there ≡ has_attribute a.0 h
    → (same : Bool) → same ≡ same_name a.0 n
    → (if is_some (type_at n (add_missing h a)) then type_at n (add_missing h a) else type_at n xs) ≡ (if is_some (type_at n h) then type_at n h else type_at n (a ∷ xs))
type_at-add_missing n h xs a true e true f =
    let there : true ≡ has_attribute n h = subst (λ m. true ≡ has_attribute m h) (same_text a.0 n f) e in
    rw (← e, ← there) refl
type_at-add_missing n h xs a true e false f = rw (← e, ← f) refl
type_at-add_missing n h xs a false e true f =
    let lacking : false ≡ has_attribute n h = subst (λ m. false ≡ has_attribute m h) (same_text a.0 n f) e in
    rw (← e, type_at-with n a.0 a.1 h, ← f, ← lacking) refl
type_at-add_missing n h xs a false e false f = rw (← e, type_at-with n a.0 a.1 h, ← f) refl

pub type_at-union : (n : List ℕ) (h xs : Heading) → type_at n (heading_union h xs) ≡ (if has_attribute n h then type_at n h else type_at n xs)
type_at-union n h [] = sym (same_when_found (type_at n h))
type_at-union n h (a ∷ xs) = type_at-union n (add_missing h a) xs ∙ type_at-add_missing n h xs a _ refl _ refl

pub IsAscending-without : (name : List ℕ) (xs : Heading) → IsAscending xs → IsAscending (without_attribute name xs)
IsAscending-without name = IsAscending-filter (λ n. not (same_name n name))

pub IsAscending-projection : (names : List (List ℕ)) (xs : Heading) → IsAscending xs → IsAscending (projection names xs)
IsAscending-projection names = IsAscending-filter (λ n. has_name n names)

pub type_at-projection : (names : List (List ℕ)) (n : List ℕ) (xs : Heading) → type_at n (projection names xs) ≡ (if has_name n names then type_at n xs else None)
type_at-projection names = type_at-filter (λ n. has_name n names)

pub IsAscending-common : (g h : Heading) → IsAscending g → IsAscending (common_part g h)
IsAscending-common g h = IsAscending-filter (λ n. has_attribute n h) g

pub type_at-common : (n : List ℕ) (g h : Heading) → type_at n (common_part g h) ≡ (if has_attribute n h then type_at n g else None)
type_at-common n g h = type_at-filter (λ m. has_attribute m h) n g

pub type_at-outside : (n : List ℕ) (part h : Heading) → type_at n (outside part h) ≡ (if has_attribute n part then None else type_at n h)
type_at-outside n part h = type_at-filter (λ m. not (has_attribute m part)) n h ∙ if_not (has_attribute n part) (type_at n h) None

IsAscending-add_missing : (h : Heading) (a : Attribute) (there : Bool) → there ≡ has_attribute a.0 h → IsAscending h → IsAscending (add_missing h a)
IsAscending-add_missing h a true e i = rw (← e) i
IsAscending-add_missing h a false e i = rw (← e) (IsAscending-with a.0 a.1 h i)

pub IsAscending-union : (h xs : Heading) → IsAscending h → IsAscending (heading_union h xs)
IsAscending-union h [] i = i
IsAscending-union h (a ∷ xs) i = IsAscending-union (add_missing h a) xs (IsAscending-add_missing h a _ refl i)

pub IsAscending-renamed : (renamings : List (List ℕ × List ℕ)) (h : Heading) → IsAscending (heading_union [] (renamed_attributes renamings h))
unfolding IsStrictlySortedBy
IsAscending-renamed renamings h = IsAscending-union [] (renamed_attributes renamings h) tt

pub type_at-renamed : (renamings : List (List ℕ × List ℕ)) (n : List ℕ) (h : Heading) → type_at n (heading_union [] (renamed_attributes renamings h)) ≡ type_at n (renamed_attributes renamings h)
type_at-renamed renamings n h = type_at-union n [] (renamed_attributes renamings h)

-- ---- agreement

and_first : (a b : Bool) → (a && b) ≡ true → a ≡ true
and_first true b h = refl
and_first false b h = cc

and_second : (a b : Bool) → (a && b) ≡ true → b ≡ true
and_second true b h = h
and_second false b h = cc

agreed : (s t : Type') (found : Option Type') → is_type_or_none s found ≡ true → found ≡ Some t → s ≡ t
agreed s t None h e = cc
agreed s t (Some u) h e = let same : u ≡ s = (type_eq-Decides u s).0 h in cc

one_type : (g h : Heading) → agree g h ≡ true → (n : List ℕ) (s t : Type') → type_at n g ≡ Some s → type_at n h ≡ Some t → s ≡ t
one_type [] h a n s t e f = cc
one_type (x ∷ g) h a n s t e f = by_name (one_type g h (and_second _ _ a) n s t) (same_name x.0 n) refl
  where
    by_name : (type_at n g ≡ Some s → type_at n h ≡ Some t → s ≡ t) → (same : Bool) → same ≡ same_name x.0 n → s ≡ t
    by_name rest true is =
        let here : Some x.1 ≡ Some s = rw (← is) at e in
        let type : x.1 ≡ s = cc in
        let found : type_at x.0 h ≡ Some t = subst (λ m. type_at m h ≡ Some t) (sym (same_text x.0 n is)) f in
        sym type ∙ agreed x.1 t (type_at x.0 h) (and_first _ _ a) found
    by_name rest false is = rest (rw (← is) at e) f

absent : (n : List ℕ) (xs : Heading) → AllByRecursion (λ m. name_cmp n m ≡ Less) (attribute_names xs) → type_at n xs ≡ None
absent n [] h = refl
absent n (x ∷ xs) h = rw (same_name-ties x.0 n, h.0) (absent n xs h.1)

agrees : (s : Type') (found : Option Type') → ((t : Type') → found ≡ Some t → s ≡ t) → is_type_or_none s found ≡ true
agrees s None h = refl
agrees s (Some t) h = (type_eq-Decides t s).1 (sym (h t refl))

and_both : (a b : Bool) → a ≡ true → b ≡ true → (a && b) ≡ true
and_both true b p q = q
and_both false b p q = cc

agree_from_one_type : (g h : Heading) → IsAscending g → ((n : List ℕ) (s t : Type') → type_at n g ≡ Some s → type_at n h ≡ Some t → s ≡ t) → agree g h ≡ true
unfolding IsStrictlySortedBy
agree_from_one_type [] h i one = refl
agree_from_one_type (x ∷ g) h i one =
    and_both _ _ (agrees x.1 (type_at x.0 h) (λ t. one x.0 x.1 t (rw (same_name-ties x.0 x.0, (eq_by_cmp_equiv nat_list_cmp_total).refl x.0) refl)))
    (agree_from_one_type g h i.1 (λ n s t e f. one n s t (later n s e (same_name x.0 n) refl) f))
  where
    later : (n : List ℕ) (s : Type') → type_at n g ≡ Some s → (same : Bool) → same ≡ same_name x.0 n → type_at n (x ∷ g) ≡ Some s
    later n s e true is =
        let none : type_at n g ≡ None = subst (λ m. type_at m g ≡ None) (same_text x.0 n is) (absent x.0 g i.0) in
        cc
    later n s e false is = rw (← is) e

pub agreement_is_one_type : AgreementIsOneType
agreement_is_one_type g h i = (one_type g h, agree_from_one_type g h i)

-- ---- what every attribute is

-- the names of a heading are names, and its types are types
pub attribute_from_heading : (n : List ℕ) (t : Type') (xs : Heading) → IsHeading (pack xs) → type_at n xs ≡ Some t → IsName n × IsType t
attribute_from_heading n t [] h e = cc
attribute_from_heading n t (x ∷ xs) h e = by_name (attribute_from_heading n t xs h.3) (same_name x.0 n) refl
  where
    by_name : (type_at n xs ≡ Some t → IsName n × IsType t) → (same : Bool) → same ≡ same_name x.0 n → IsName n × IsType t
    by_name rest true is =
        let here : Some x.1 ≡ Some t = rw (← is) at e in
        let type : x.1 ≡ t = cc in
        (subst IsName (same_text x.0 n is) h.0, subst IsType type h.1)
    by_name rest false is = rest (rw (← is) at e)

-- ---- renaming

pub same_name-itself : (n : List ℕ) → same_name n n ≡ true
same_name-itself n = same_name-ties n n ∙ (eq_by_cmp_equiv nat_list_cmp_total).refl n

or_true : (a b : Bool) → b ≡ true → (a || b) ≡ true
or_true true b e = refl
or_true false b e = e

-- the new name of an attribute is one of the new names
new_name_there : (rs : List (List ℕ × List ℕ)) (n : List ℕ) (h : Heading) → has_attribute n h ≡ true → has_name (new_name rs n) (attribute_names (renamed_attributes rs h)) ≡ true
new_name_there rs n [] e = cc
new_name_there rs n (a ∷ h) e = by_name (new_name_there rs n h) (same_name a.0 n) refl
  where
    by_name : (has_attribute n h ≡ true → has_name (new_name rs n) (attribute_names (renamed_attributes rs h)) ≡ true)
        → (same : Bool) → same ≡ same_name a.0 n → has_name (new_name rs n) (attribute_names (renamed_attributes rs (a ∷ h))) ≡ true
    by_name rest true is = subst (λ m. has_name (new_name rs m) (attribute_names (renamed_attributes rs (a ∷ h))) ≡ true) (same_text a.0 n is) (rw (same_name-itself (new_name rs a.0)) refl)
    by_name rest false is = or_true _ _ (rest (rw (← is) at e))

kept_types : (rs : List (List ℕ × List ℕ)) (h : Heading) → are_distinct (attribute_names (renamed_attributes rs h)) ≡ true
    → (n : List ℕ) → has_attribute n h ≡ true → type_at (new_name rs n) (renamed_attributes rs h) ≡ type_at n h
kept_types rs [] d n e = cc
kept_types rs (a ∷ h) d n e = by_name (kept_types rs h (and_second _ _ d) n) (same_name a.0 n) refl (same_name (new_name rs a.0) (new_name rs n)) refl
  where
    by_name : (has_attribute n h ≡ true → type_at (new_name rs n) (renamed_attributes rs h) ≡ type_at n h)
        → (same : Bool) → same ≡ same_name a.0 n → (tied : Bool) → tied ≡ same_name (new_name rs a.0) (new_name rs n)
        → type_at (new_name rs n) (renamed_attributes rs (a ∷ h)) ≡ type_at n (a ∷ h)
    by_name rest true is true new = rw (← is, ← new) refl
    by_name rest true is false new =
        let tied : same_name (new_name rs a.0) (new_name rs n) ≡ true = subst (λ m. same_name (new_name rs a.0) (new_name rs m) ≡ true) (same_text a.0 n is) (same_name-itself (new_name rs a.0)) in
        cc
    by_name rest false is true new =
        let there : has_attribute n h ≡ true = rw (← is) at e in
        let taken : has_name (new_name rs a.0) (attribute_names (renamed_attributes rs h)) ≡ true =
        subst (λ m. has_name m (attribute_names (renamed_attributes rs h)) ≡ true) (sym (same_text (new_name rs a.0) (new_name rs n) new)) (new_name_there rs n h there) in
        let free : not (has_name (new_name rs a.0) (attribute_names (renamed_attributes rs h))) ≡ true = and_first _ _ d in
        let clash = rw taken at free in
        cc
    by_name rest false is false new = rw (← is, ← new) (rest (rw (← is) at e))

old_name_there : (rs : List (List ℕ × List ℕ)) (m : List ℕ) (h : Heading) → has_attribute m (renamed_attributes rs h) ≡ true → (n : List ℕ) × (has_attribute n h ≡ true) × (new_name rs n ≡ m)
old_name_there rs m [] e = cc
old_name_there rs m (a ∷ h) e = by_name (old_name_there rs m h) (same_name (new_name rs a.0) m) refl
  where
    later : (n : List ℕ) → has_attribute n h ≡ true → (same : Bool) → same ≡ same_name a.0 n → has_attribute n (a ∷ h) ≡ true
    later n there true is = rw (← is) refl
    later n there false is = rw (← is) there

    by_name : (has_attribute m (renamed_attributes rs h) ≡ true → (n : List ℕ) × (has_attribute n h ≡ true) × (new_name rs n ≡ m))
        → (same : Bool) → same ≡ same_name (new_name rs a.0) m → (n : List ℕ) × (has_attribute n (a ∷ h) ≡ true) × (new_name rs n ≡ m)
    by_name rest true is = (a.0, rw (same_name-itself a.0) refl, same_text (new_name rs a.0) m is)
    by_name rest false is =
        let found = rest (rw (← is) at e) in
        (found.0, later found.0 found.1 _ refl, found.2)

pub renaming_keeps_types : RenamingKeepsTypes
renaming_keeps_types rs h e =
    let old = has_attributes (map (λ r. r.0) rs) h && are_distinct (map (λ r. r.0) rs) in
    (kept_types rs h (and_second old (are_distinct (attribute_names (renamed_attributes rs h))) e), λ m. old_name_there rs m h)

-- ---- which names a heading has

-- those of its attributes
pub has_attribute-names : (n : List ℕ) (xs : Heading) → has_attribute n xs ≡ has_name n (attribute_names xs)
has_attribute-names n [] = refl
has_attribute-names n (x ∷ xs) = by_name (same_name x.0 n) (has_attribute-names n xs)
  where
    by_name : (same : Bool) → has_attribute n xs ≡ has_name n (attribute_names xs) → is_some (if same then Some x.1 else type_at n xs) ≡ (same || has_name n (attribute_names xs))
    by_name true rest = refl
    by_name false rest = rest

-- with one more attribute, its name too
pub has_attribute-with : (m n : List ℕ) (t : Type') (xs : Heading) → has_attribute m (with_attribute xs (n, t)) ≡ (same_name n m || has_attribute m xs)
has_attribute-with m n t xs = ap is_some (type_at-with m n t xs) ∙ by_name (same_name n m)
  where
    by_name : (same : Bool) → is_some (if same then Some t else type_at m xs) ≡ (same || has_attribute m xs)
    by_name true = refl
    by_name false = refl

-- no attribute but that of the name is common: no attribute of the rest is
pub apart_but_for : (name : List ℕ) (g h : Heading) → list_all (λ a. same_name a.0 name || not (has_attribute a.0 g)) h
    ≡ have_no_common (without_attribute name h) g
apart_but_for name g [] = refl
apart_but_for name g (a ∷ h) = by_test (apart_but_for name g h) (same_name a.0 name)
  where
    by_test : list_all (λ b. same_name b.0 name || not (has_attribute b.0 g)) h ≡ have_no_common (without_attribute name h) g → (b : Bool)
        → ((b || not (has_attribute a.0 g)) && list_all (λ b. same_name b.0 name || not (has_attribute b.0 g)) h)
        ≡ have_no_common (cond (not b) (a ∷ without_attribute name h) (without_attribute name h)) g
    by_test rest true = rest
    by_test rest false = ap (λ t. not (has_attribute a.0 g) && t) rest
