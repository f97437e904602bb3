-- Attributes set at once.
use Rattle.std.proofs.Common.{◌≡◌, ◌∙◌, ◌<◌, ap, sym, refl, subst, arith, ℕ, zero, suc, Bool, true, false, List, [], ◌∷◌, ◌++◌, Option, Some, None, filter, get_or, length, map, true≢false}
use Rattle.std.specs.Prelude.{◌&&◌, if◌then◌else◌, is_some, not, option_map}
use Rattle.std.specs.Cmp.Lexicographic.{same_text}
use Rattle.std.specs.List.{All, AllByRecursion, Contains}
use Rattle.std.specs.List.Sorted.{IsPermutation, IsStrictlySortedBy}
use Rattle.std.proofs.lemmas.List.Elements.{All-from_recursion, All-map, recursion_from_All}
use Rattle.td_types.specs.model.Headings.{are_distinct, has_attribute, has_name, have_no_common, heading_union, outside}
use Rattle.td_types.specs.model.Types.{Heading, IsHeading, Type', attribute_names, pack, same_name, type_at}
use Rattle.td_types.proofs.HeadingLaws.{IsAscending-filter, IsAscending-union, IsHeading-filter, ascending_from_heading, has_attribute-names, same_name-itself, type_at-outside, type_at-union, types_determine_heading}
use Rattle.td_value.specs.model.Agreement.{AgreeOn}
use Rattle.td_value.specs.model.Values.{IsTuple, IsTupleOf, Tuple, Val, tuple_cmp, tuple_names, tuple_of, type_of, value_at}
use Rattle.td_value.proofs.Agreement.{entries_of_values, names_ascend, value_at-filter}
use Rattle.td_value.proofs.Kept.{IsTuple-filter}
use Rattle.td_value.proofs.Maps.{value_at-tuple_of}
use Rattle.td_value.proofs.Members.{set_members}
use Rattle.td_algebra.specs.code.Columns.{AreColumns, AreColumnsOf, IsColumn, NamedColumn, column_attributes, columns_view}
use Rattle.td_algebra.specs.declared.extension.Column.{Column}
use Rattle.td_algebra.specs.code.Layouts.{Sources, sources_with}
use Rattle.td_algebra.specs.laws.Membership.{IsIn, IsSet, SettingByMembership, other_names, set_heading_of}
use Rattle.td_algebra.specs.model.Operators.{Addition, added_attributes, added_values, set_relation, set_tuple}
use Rattle.td_algebra.proofs.Entries.{distinct_append, has_value, no_value, no_value_outside, tuple_distinct, tuple_heading, tuple_of-ascends, typed_values, value_at-append}
use Rattle.td_algebra.proofs.Extensions.{IsTupleOf-extended, added_distinct, additions_attributes, all_distinct, entries_outside, given_values, has_name-added, row_with, rows_beside, taken_beside, typed_from, values_given}
use Rattle.td_algebra.proofs.Fitting.{additions_of, columns_of_additions}
use Rattle.td_algebra.proofs.Lists.{contains_first, contains_later, contains_map}
use Rattle.td_algebra.proofs.Relations.{member_headed}
use Rattle.td_algebra.proofs.Sources.{has_attribute-outside}
use Rattle.td_algebra.proofs.Taken.{headed_by}

-- ---- what is left of a heading, and of its tuples

-- headings of the same names leave the same
pub outside_alike : (p q h : Heading) → ((n : List ℕ) → has_attribute n p ≡ has_attribute n q) → outside p h ≡ outside q h
outside_alike p q h e = λ i. filter (λ a. not (e a.0 i)) h

-- the attributes that are set are not left
pub none_left : (xs part h : Heading) → ((n : List ℕ) → has_attribute n xs ≡ true → has_attribute n part ≡ true) → have_no_common xs (outside part h) ≡ true
none_left [] part h among = refl
none_left (x ∷ xs) part h among =
    let first : has_attribute x.0 part ≡ true = among x.0 (rw (same_name-itself x.0) refl) in
    let none : type_at x.0 (outside part h) ≡ None = type_at-outside x.0 part h ∙ rw first refl in
    let gone : has_attribute x.0 (outside part h) ≡ false = ap is_some none in
    rw gone (none_left xs part h (λ n there. among n (later n there (same_name x.0 n))))
  where
    later : (n : List ℕ) → has_attribute n xs ≡ true → (b : Bool) → is_some (if b then Some x.1 else type_at n xs) ≡ true
    later n there true = refl
    later n there false = there

-- the entries that are left of a tuple of a heading are a tuple of what is left of the heading
pub IsTupleOf-outside : (part h : Heading) (t : Tuple) → IsTupleOf h t → IsTupleOf (outside part h) (entries_outside part t)
IsTupleOf-outside part h t p =
    tuple_heading (outside part h) (entries_outside part t) (IsTuple-filter (λ e. not (has_attribute e.0 part)) t p.0)
    (IsHeading-filter (λ a. not (has_attribute a.0 part)) h p.2)
    (λ n. ap (option_map type_of) (value_at-filter (λ m. not (has_attribute m part)) n t) ∙ by_name n (has_attribute n part) ∙ sym (type_at-outside n part h))
  where
    by_name : (n : List ℕ) (b : Bool) → option_map type_of (if not b then value_at n t else None) ≡ (if b then None else type_at n h)
    by_name n true = refl
    by_name n false = typed_values h t p n

-- ---- attributes set to what they are in one tuple are additions to what is left of it

fixed : List Addition → Tuple → List Addition
fixed [] t = []
fixed (b ∷ bs) t = record { name = b.name; kind = b.kind; value = λ u. b.value t } ∷ fixed bs t

fixed_attributes : (bs : List Addition) (t : Tuple) → added_attributes (fixed bs t) ≡ added_attributes bs
unfolding fixed
fixed_attributes [] t = refl
fixed_attributes (b ∷ bs) t = ap (λ r. (b.name, b.kind) ∷ r) (fixed_attributes bs t)

fixed_values : (bs : List Addition) (t u : Tuple) → added_values (fixed bs t) u ≡ added_values bs t
unfolding fixed
fixed_values [] t u = refl
fixed_values (b ∷ bs) t u = ap (λ r. (b.name, b.value t) ∷ r) (fixed_values bs t u)

fixed_types : (bs : List Addition) (t u : Tuple) → AllByRecursion (λ (a : Addition). type_of (a.value t) ≡ a.kind) bs
    → AllByRecursion (λ (a : Addition). type_of (a.value u) ≡ a.kind) (fixed bs t)
unfolding fixed
fixed_types [] t u h = tt
fixed_types (b ∷ bs) t u h = (h.0, fixed_types bs t u h.1)

-- ---- a tuple with attributes set

module _ (bs : List Addition) (h : Heading) (t : Tuple) (p : IsTupleOf h t) (d : are_distinct (attribute_names (added_attributes bs)) ≡ true) where
  abbrev left : Tuple
  left = entries_outside (added_attributes bs) t

  left_value : (n : List ℕ) → value_at n left ≡ (if has_attribute n (added_attributes bs) then None else value_at n t)
  left_value n = value_at-filter (λ m. not (has_attribute m (added_attributes bs))) n t ∙ turned (has_attribute n (added_attributes bs))
    where
      turned : (b : Bool) → (if not b then value_at n t else None) ≡ (if b then None else value_at n t)
      turned true = refl
      turned false = refl

  -- its names are distinct
  pub set_distinct : are_distinct (tuple_names (left ++ added_values bs t)) ≡ true
  set_distinct =
      distinct_append left (added_values bs t) (tuple_distinct left (IsTuple-filter (λ e. not (has_attribute e.0 (added_attributes bs))) t p.0)) (added_distinct bs t d)
      (λ n there. by_name n there (has_attribute n (added_attributes bs)) refl)
    where
      by_name : (n : List ℕ) → has_name n (tuple_names left) ≡ true → (b : Bool) → has_attribute n (added_attributes bs) ≡ b → has_name n (tuple_names (added_values bs t)) ≡ false
      by_name n there true e =
          let no : value_at n left ≡ None = left_value n ∙ rw e refl in
          absurd (true≢false (sym there ∙ sym (has_value n left) ∙ ap is_some no))
      by_name n there false e = has_name-added n bs t ∙ e

  -- it has the values of the attributes that are set, and its own under the other names
  pub set_values : (n : List ℕ) → value_at n (set_tuple bs t) ≡ (if has_attribute n (added_attributes bs) then value_at n (added_values bs t) else value_at n t)
  set_values n =
      value_at-tuple_of n (left ++ added_values bs t) set_distinct ∙ value_at-append n left (added_values bs t)
      ∙ by_name (has_attribute n (added_attributes bs)) refl (has_name n (tuple_names left)) refl
    where
      by_name : (b : Bool) → has_attribute n (added_attributes bs) ≡ b → (c : Bool) → has_name n (tuple_names left) ≡ c
          → (if c then value_at n left else value_at n (added_values bs t)) ≡ (if b then value_at n (added_values bs t) else value_at n t)
      by_name true e true f =
          let no : value_at n left ≡ None = left_value n ∙ rw e refl in
          absurd (true≢false (sym f ∙ sym (has_value n left) ∙ ap is_some no))
      by_name true e false f = refl
      by_name false e true f = left_value n ∙ rw e refl
      by_name false e false f = no_value n (added_values bs t) (has_name-added n bs t ∙ e) ∙ sym (no_value n left f) ∙ left_value n ∙ rw e refl

  -- it is one of the heading with the attributes set
  pub IsTupleOf-set : IsTuple (set_tuple bs t) → AllByRecursion (λ (a : Addition). type_of (a.value t) ≡ a.kind) bs
      → IsHeading (pack (heading_union (outside (added_attributes bs) h) (added_attributes bs)))
      → IsTupleOf (heading_union (outside (added_attributes bs) h) (added_attributes bs)) (set_tuple bs t)
  IsTupleOf-set valid typed q =
      subst (λ xs. IsTupleOf (heading_union (outside (added_attributes bs) h) xs) (set_tuple bs t)) same
      (subst (λ es. IsTupleOf (heading_union (outside (added_attributes bs) h) (added_attributes cs)) (tuple_of (left ++ es))) values
      (IsTupleOf-extended cs (outside (added_attributes bs) h) left (IsTupleOf-outside (added_attributes bs) h t p)
      (ap (λ xs. are_distinct (attribute_names xs)) same ∙ d)
      (ap (λ xs. have_no_common xs (outside (added_attributes bs) h)) same ∙ none_left (added_attributes bs) (added_attributes bs) h (λ n e. e))
      (subst (λ es. IsTuple (tuple_of (left ++ es))) (sym values) valid) (fixed_types bs t left typed)
      (subst (λ xs. IsHeading (pack (heading_union (outside (added_attributes bs) h) xs))) (sym same) q)))
    where
      cs : List Addition
      cs = fixed bs t

      same : added_attributes cs ≡ added_attributes bs
      same = fixed_attributes bs t

      values : added_values cs left ≡ added_values bs t
      values = fixed_values bs t left

-- ---- by membership

pub setting_members : SettingByMembership
setting_members bs r t p new q = (some_set, sets)
  where
    A : Heading
    A = added_attributes bs

    some_set : IsIn t (set_relation bs r) → (u : Tuple) × IsIn u r × IsSet bs r u t
    some_set c = (u, d.1, (agree, All-from_recursion (λ (a : Addition). value_at a.name t ≡ Some (a.value u)) bs (values_given t u bs new given)))
      where
        d : (v : Tuple) × Contains r.body v × (set_tuple bs v ≡ t)
        d = (contains_map (set_tuple bs) r.body t).0 ((set_members (map (set_tuple bs) r.body) t).0 c)

        u : Tuple
        u = d.0

        is : (n : List ℕ) → value_at n t ≡ (if has_attribute n A then value_at n (added_values bs u) else value_at n u)
        is n = ap (value_at n) (sym d.2) ∙ set_values bs r.heading u (member_headed r u p d.1) new n

        agree : AgreeOn (other_names bs r) t u
        agree n there = is n ∙ by_name (has_attribute n A) refl
          where
            left : (has_attribute n r.heading && not (has_attribute n A)) ≡ true
            left = sym (has_attribute-outside A r.heading n) ∙ has_attribute-names n (outside A r.heading) ∙ there

            gone : (b : Bool) → (b && false) ≡ false
            gone true = refl
            gone false = refl

            by_name : (b : Bool) → has_attribute n A ≡ b → (if b then value_at n (added_values bs u) else value_at n u) ≡ value_at n u
            by_name true e = absurd (true≢false (sym left ∙ rw e (gone (has_attribute n r.heading))))
            by_name false e = refl

        given : (n : List ℕ) → has_name n (tuple_names (added_values bs u)) ≡ true → value_at n t ≡ value_at n (added_values bs u)
        given n there =
            let set : has_attribute n A ≡ true = sym (has_name-added n bs u) ∙ there in
            is n ∙ rw set refl

    sets : (u : Tuple) × IsIn u r × IsSet bs r u t → IsIn t (set_relation bs r)
    sets d = (set_members (map (set_tuple bs) r.body) t).1 ((contains_map (set_tuple bs) r.body t).1 (u, d.1, made))
      where
        u : Tuple
        u = d.0

        member : IsTupleOf r.heading u
        member = member_headed r u p d.1

        other : (n : List ℕ) → has_attribute n A ≡ false → (b : Bool) → has_attribute n r.heading ≡ b → value_at n u ≡ value_at n t
        other n e true there =
            let left : has_name n (other_names bs r) ≡ true = sym (has_attribute-names n (outside A r.heading)) ∙ has_attribute-outside A r.heading n ∙ rw (there, e) refl in
            sym (d.2.0 n left)
        other n e false there =
            let gone : has_attribute n (outside A r.heading) ≡ false = has_attribute-outside A r.heading n ∙ rw there refl in
            let nowhere : has_attribute n (set_heading_of bs r) ≡ false = ap is_some (type_at-union n (outside A r.heading) A) ∙ rw gone e in
            no_value_outside r.heading u member n there ∙ sym (no_value_outside (set_heading_of bs r) t q n nowhere)

        by_name : (n : List ℕ) (b : Bool) → has_attribute n A ≡ b → (if b then value_at n (added_values bs u) else value_at n u) ≡ value_at n t
        by_name n true e = sym (given_values t u bs (recursion_from_All (λ (a : Addition). value_at a.name t ≡ Some (a.value u)) bs d.2.1) n (has_name-added n bs u ∙ e))
        by_name n false e = other n e (has_attribute n r.heading) refl

        made : set_tuple bs u ≡ t
        made =
            entries_of_values (set_tuple bs u) t (tuple_of-ascends (entries_outside A u ++ added_values bs u) (set_distinct bs r.heading u member new)) (names_ascend t q.0)
            (λ n. set_values bs r.heading u member new n ∙ by_name n (has_attribute n A) refl)

-- ---- attributes that are there, set to values of their own types

same_types : (bs : List Addition) (h : Heading) → ((a : Addition) → Contains bs a → type_at a.name h ≡ Some a.kind)
    → (n : List ℕ) → has_attribute n (added_attributes bs) ≡ true → type_at n (added_attributes bs) ≡ type_at n h
same_types [] h own n there = absurd (true≢false (sym there))
same_types (b ∷ bs) h own n there =
    by_name (same_name b.name n) refl (same_types bs h (λ a c. own a (contains_later b bs a c)) n)
  where
    by_name : (same : Bool) → same_name b.name n ≡ same → (has_attribute n (added_attributes bs) ≡ true → type_at n (added_attributes bs) ≡ type_at n h)
        → (if same then Some b.kind else type_at n (added_attributes bs)) ≡ type_at n h
    by_name true is rest = sym (subst (λ m. type_at m h ≡ Some b.kind) (same_text b.name n (sym is)) (own b (contains_first b bs)))
    by_name false is rest = rest (rw is at there)

-- they keep the heading
pub set_heading : (h : Heading) (additions : List Addition) → IsHeading (pack h) → ((a : Addition) → Contains additions a → type_at a.name h ≡ Some a.kind)
    → heading_union (outside (added_attributes additions) h) (added_attributes additions) ≡ h
set_heading h bs p own =
    types_determine_heading (heading_union (outside A h) A) h
    (IsAscending-union (outside A h) A (IsAscending-filter (λ m. not (has_attribute m A)) h (ascending_from_heading h p))) (ascending_from_heading h p)
    (λ n. type_at-union n (outside A h) A ∙ by_name n (has_attribute n A) refl (has_attribute n (outside A h)) refl)
  where
    A : Heading
    A = added_attributes bs

    by_name : (n : List ℕ) (b : Bool) → has_attribute n A ≡ b → (c : Bool) → has_attribute n (outside A h) ≡ c
        → (if c then type_at n (outside A h) else type_at n A) ≡ type_at n h
    by_name n true e true f =
        let gone : type_at n (outside A h) ≡ None = type_at-outside n A h ∙ rw e refl in
        absurd (true≢false (sym f ∙ ap is_some gone))
    by_name n true e false f = same_types bs h own n e
    by_name n false e true f = type_at-outside n A h ∙ rw e refl
    by_name n false e false f =
        let same : type_at n (outside A h) ≡ type_at n h = type_at-outside n A h ∙ rw e refl in
        none (type_at n A) (type_at n h) e (sym (ap is_some same) ∙ f)
      where
        none : (s t : Option Type') → is_some s ≡ false → is_some t ≡ false → s ≡ t
        none None None k l = refl
        none None (Some t) k l = absurd (true≢false l)
        none (Some s) t k l = absurd (true≢false k)

-- ---- what is asked of columns, as the code hands it on

-- the code makes a heading of the columns' attributes
pub made_alike : (xs part : Heading) → part ≡ heading_union [] xs → (n : List ℕ) → has_attribute n part ≡ has_attribute n xs
made_alike xs part e n = ap (has_attribute n) e ∙ ap is_some (type_at-union n [] xs)

pub setting_distinct : (part h : Heading) (cs : List (List ℕ × Column)) (names : List (List ℕ)) → part ≡ heading_union [] (column_attributes (columns_view cs))
    → names ≡ map (λ c. c.0) cs → IsHeading (pack h) → are_distinct (attribute_names (column_attributes (columns_view cs))) ≡ true
    → are_distinct (attribute_names (outside part h) ++ names) ≡ true
setting_distinct part h cs names e is p d =
    all_distinct (outside part h) (outside part h) cs names refl is (IsHeading-filter (λ a. not (has_attribute a.0 part)) h p) d
    (none_left (column_attributes (columns_view cs)) part h (λ n there. made_alike (column_attributes (columns_view cs)) part e n ∙ there))

-- the rows are the tuples with the attributes set
pub setting_rows : (part : Heading) (cs ds : List (List ℕ × Column)) (bs : List Addition) (h : Heading) (body ts made : List Tuple) (names : List (List ℕ)) (layout : Sources)
    → part ≡ heading_union [] (column_attributes (columns_view ds)) → cs ≡ ds → ts ≡ body → AreColumnsOf (columns_view ds) body bs → names ≡ map (λ c. c.0) ds → All (IsTupleOf h) ts
    → IsPermutation (sources_with part h names) layout
    → ((sources : Sources) (additions : List Addition) → IsPermutation sources layout → AreColumnsOf (columns_view cs) ts additions → made ≡ map (row_with sources additions) ts)
    → made ≡ map (set_tuple bs) body
setting_rows part cs ds bs h body ts made names layout whole same rows e is a p m =
    rows_beside part cs ds bs h body ts made names layout same rows e is a p m (set_tuple bs)
    (λ t q. taken_beside part bs h t q ∙ (λ i. tuple_of (filter (λ (f : List ℕ × Val). not (alike f.0 i)) t ++ added_values bs t)))
  where
    alike : (n : List ℕ) → has_attribute n part ≡ has_attribute n (added_attributes bs)
    alike n = made_alike (column_attributes (columns_view ds)) part whole n ∙ ap (has_attribute n) (additions_attributes (columns_view ds) body bs e)

pub setting_heading : (part others h g made : Heading) (cs : List (List ℕ × Column)) (bs : List Addition) (ts : List Tuple) → AreColumnsOf (columns_view cs) ts bs
    → part ≡ heading_union [] (column_attributes (columns_view cs)) → others ≡ outside part h → h ≡ g → made ≡ heading_union others (column_attributes (columns_view cs))
    → made ≡ heading_union (outside (added_attributes bs) g) (added_attributes bs)
setting_heading part others h g made cs bs ts e whole left same is =
    let added : column_attributes (columns_view cs) ≡ added_attributes bs = additions_attributes (columns_view cs) ts bs e in
    let alike : outside part h ≡ outside (added_attributes bs) h =
    outside_alike part (added_attributes bs) h (λ n. made_alike (column_attributes (columns_view cs)) part whole n ∙ ap (has_attribute n) added) in
    is ∙ (λ i. heading_union (left i) (added i)) ∙ (λ i. heading_union (alike i) (added_attributes bs)) ∙ (λ i. heading_union (outside (added_attributes bs) (same i)) (added_attributes bs))

-- they are of the heading
set_headed : (cs : List NamedColumn) (bs : List Addition) (h : Heading) (ts : List Tuple) → AreColumnsOf cs ts bs → All (λ c. IsColumn c.1 c.2 ts) cs
    → are_distinct (attribute_names (added_attributes bs)) ≡ true → IsHeading (pack (heading_union (outside (added_attributes bs) h) (added_attributes bs)))
    → All (IsTupleOf h) ts → All IsTuple (map (set_tuple bs) ts) → All (IsTupleOf (heading_union (outside (added_attributes bs) h) (added_attributes bs))) (map (set_tuple bs) ts)
set_headed cs bs h ts e fit d q headed valid =
    All-map (IsTupleOf (heading_union (outside (added_attributes bs) h) (added_attributes bs))) (set_tuple bs) ts
    (λ k x l. IsTupleOf-set bs h (get_or ts k x) (headed k x l) d (valid_at ts k x valid l)
    (typed_from cs ts bs k x e (recursion_from_All (λ c. IsColumn c.1 c.2 ts) cs fit) l) q)
  where
    valid_at : (us : List Tuple) (k : ℕ) (x : Tuple) → All IsTuple (map (set_tuple bs) us) → k < length us → IsTuple (set_tuple bs (get_or us k x))
    valid_at [] k x a l = absurd (omega arith)
    valid_at (u ∷ us) zero x a l = a 0 (set_tuple bs u) (omega arith)
    valid_at (u ∷ us) (suc k) x a l = valid_at us k x (λ n y m. a (suc n) y (omega arith)) (omega arith)

pub setting_headed : (cs : List (List ℕ × Column)) (g made : Heading) (body rows : List Tuple)
    → IsStrictlySortedBy tuple_cmp body → AreColumns (columns_view cs) body → are_distinct (attribute_names (column_attributes (columns_view cs))) ≡ true
    → IsHeading (pack made) → All (IsTupleOf g) body → All IsTuple rows
    → ((bs : List Addition) → AreColumnsOf (columns_view cs) body bs
    → (made ≡ heading_union (outside (added_attributes bs) g) (added_attributes bs)) × (rows ≡ map (set_tuple bs) body))
    → All (IsTupleOf made) rows
setting_headed cs g made body rows up fit d p a valid are =
    let bs : List Addition = additions_of (columns_view cs) body in
    let e : AreColumnsOf (columns_view cs) body bs = columns_of_additions (columns_view cs) body up (recursion_from_All (λ c. IsColumn c.1 c.2 body) (columns_view cs) fit) in
    let both = are bs e in
    let added : column_attributes (columns_view cs) ≡ added_attributes bs = additions_attributes (columns_view cs) body bs e in
    headed_by made (heading_union (outside (added_attributes bs) g) (added_attributes bs)) rows (map (set_tuple bs) body) both.0 both.1
    (set_headed (columns_view cs) bs g body e fit (ap (λ h. are_distinct (attribute_names h)) (sym added) ∙ d)
    (subst (λ h. IsHeading (pack h)) both.0 p) a (subst (All IsTuple) both.1 valid))
