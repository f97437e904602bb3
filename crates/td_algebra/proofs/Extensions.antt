-- The extended tuples of a relation.
use Rattle.std.proofs.Common.{◌≡◌, ◌∙◌, ◌+◌, ◌<◌, ◌≤◌, ap, drop, take, sym, refl, subst, arith, ℕ, zero, suc, Bool, true, false, List, [], ◌∷◌, ◌++◌, Some, filter, get_or, length, map, true≢false}
use Rattle.std.specs.Prelude.{if◌then◌else◌, is_some, not, option_map}
use Rattle.std.specs.List.Sorted.{IsStrictlySortedBy}
use Rattle.std.proofs.lemmas.List.Sorted.{All-permutation}
use Rattle.std.specs.Cmp.Lexicographic.{same_text}
use Rattle.std.specs.List.{All, AllByRecursion, Contains, zip}
use Rattle.std.specs.List.Sorted.{IsPermutation}
use Rattle.std.proofs.lemmas.List.{append-nil, at_drop_more, drop_all, length-append, length-map, map-append, take_more}
use Rattle.std.proofs.lemmas.List.Elements.{All-append, All-from_recursion, All-map, recursion_from_All}
use Rattle.td_types.specs.model.Headings.{add_missing, are_distinct, has_attribute, has_name, have_no_common, heading_union, outside}
use Rattle.td_types.specs.model.Types.{Heading, IsHeading, Type', attribute_names, pack, same_name, type_at}
use Rattle.td_types.specs.code.Views.{type_view}
use Rattle.td_types.proofs.DistinctNames.{first_of, second_of}
use Rattle.td_types.proofs.HeadingLaws.{has_attribute-names, same_name-itself, type_at-union}
use Rattle.td_value.specs.model.Agreement.{AgreeOn}
use Rattle.td_value.specs.model.Values.{IsTuple, IsTupleOf, Tuple, Val, boolean, tuple_cmp, tuple_names, tuple_of, type_of, value_at}
use Rattle.td_value.specs.code.Views.{values_of}
use Rattle.td_value.proofs.Agreement.{entries_of_values, names_ascend}
use Rattle.td_value.proofs.Maps.{value_at-tuple_of}
use Rattle.td_value.proofs.Members.{set_members}
use Rattle.td_algebra.specs.code.Columns.{AreColumns, AreColumnsOf, IsColumn, NamedColumn, cells_at, column_attributes, column_of, columns_view}
use Rattle.td_algebra.specs.declared.extension.Column.{Column}
use Rattle.td_algebra.specs.code.Layouts.{AreInRange, Sources, numbered_sources, sources_outside, sources_with, placed_tuple, entries_taken}
use Rattle.td_algebra.specs.laws.Membership.{ExtensionByMembership, IsExtended, IsIn}
use Rattle.td_algebra.specs.model.Operators.{Addition, added_attributes, added_values, extended_relation, extended_tuple, relation_names}
use Rattle.td_algebra.proofs.Entries.{as_many, distinct_append, heading_distinct, has_name-heading, names_apart, names_of_heading, no_value, no_value_outside, tuple_distinct, tuple_heading, tuple_of-ascends, typed_values, value_at-append}
use Rattle.td_algebra.proofs.Fitting.{additions_of, columns_of_additions}
use Rattle.td_algebra.proofs.Lists.{all_kept, contains_map}
use Rattle.td_algebra.proofs.Relations.{member_headed}
use Rattle.td_algebra.proofs.Sources.{names_outside, outside_in_range, taken-append, taken_outside}
use Rattle.td_algebra.proofs.Taken.{headed_by, map_alike, names_numbered, numbered_in_range, taken_numbered}

-- ---- the new entries

names_added : (bs : List Addition) (t : Tuple) → tuple_names (added_values bs t) ≡ attribute_names (added_attributes bs)
names_added [] t = refl
names_added (a ∷ bs) t = ap (λ ns. a.name ∷ ns) (names_added bs t)

pub added_distinct : (bs : List Addition) (t : Tuple) → are_distinct (attribute_names (added_attributes bs)) ≡ true → are_distinct (tuple_names (added_values bs t)) ≡ true
added_distinct bs t d = ap are_distinct (names_added bs t) ∙ d

pub has_name-added : (n : List ℕ) (bs : List Addition) (t : Tuple) → has_name n (tuple_names (added_values bs t)) ≡ has_attribute n (added_attributes bs)
has_name-added n bs t = ap (has_name n) (names_added bs t) ∙ sym (has_attribute-names n (added_attributes bs))

-- where no new name is in the heading, none of the heading's is new
pub apart : (g h : Heading) → have_no_common g h ≡ true → (n : List ℕ) → has_attribute n h ≡ true → has_attribute n g ≡ false
apart [] h e n there = refl
apart (a ∷ g) h e n there = by_name (same_name a.0 n) refl (apart g h (second_of _ _ e) n there)
  where
    by_name : (b : Bool) → same_name a.0 n ≡ b → has_attribute n g ≡ false → is_some (if b then Some a.1 else type_at n g) ≡ false
    by_name true is rest =
        let lacking : has_attribute n h ≡ false = subst (λ m. has_attribute m h ≡ false) (same_text a.0 n (sym is)) (first_of _ _ e) in
        absurd (true≢false (sym there ∙ lacking))
    by_name false is rest = rest

pub AreNewNames : List Addition → Heading → Type 0
AreNewNames bs h = (are_distinct (attribute_names (added_attributes bs)) ≡ true) × (have_no_common (added_attributes bs) h ≡ true)

module _ (bs : List Addition) (h : Heading) (t : Tuple) (p : IsTupleOf h t) (distinct : are_distinct (attribute_names (added_attributes bs)) ≡ true)
    (new : have_no_common (added_attributes bs) h ≡ true) where
  -- all names are distinct
  pub extended_distinct : are_distinct (tuple_names (t ++ added_values bs t)) ≡ true
  extended_distinct =
      distinct_append t (added_values bs t) (tuple_distinct t p.0) (ap are_distinct (names_added bs t) ∙ distinct)
      (λ n there. has_name-added n bs t ∙ apart (added_attributes bs) h new n (sym (has_name-heading h t p n) ∙ there))

  -- an extended tuple has the tuple's values, and those of the new names
  pub extended_values : (n : List ℕ) → value_at n (extended_tuple bs t) ≡ (if has_name n (tuple_names t) then value_at n t else value_at n (added_values bs t))
  extended_values n = value_at-tuple_of n (t ++ added_values bs t) extended_distinct ∙ value_at-append n t (added_values bs t)

  added_types : AllByRecursion (λ (a : Addition). type_of (a.value t) ≡ a.kind) bs → (n : List ℕ) → option_map type_of (value_at n (added_values bs t)) ≡ type_at n (added_attributes bs)
  added_types typed n = go bs typed
    where
      go : (cs : List Addition) → AllByRecursion (λ (a : Addition). type_of (a.value t) ≡ a.kind) cs → option_map type_of (value_at n (added_values cs t)) ≡ type_at n (added_attributes cs)
      go [] h = refl
      go (b ∷ cs) h = by_name (same_name b.name n) (go cs h.1)
        where
          by_name : (same : Bool) → option_map type_of (value_at n (added_values cs t)) ≡ type_at n (added_attributes cs)
              → option_map type_of (if same then Some (b.value t) else value_at n (added_values cs t)) ≡ (if same then Some b.kind else type_at n (added_attributes cs))
          by_name true rest = ap Some h.0
          by_name false rest = rest

  -- it is one of the heading with the new attributes
  pub IsTupleOf-extended : IsTuple (extended_tuple bs t) → AllByRecursion (λ (a : Addition). type_of (a.value t) ≡ a.kind) bs
      → IsHeading (pack (heading_union h (added_attributes bs))) → IsTupleOf (heading_union h (added_attributes bs)) (extended_tuple bs t)
  IsTupleOf-extended valid typed q =
      tuple_heading (heading_union h (added_attributes bs)) (extended_tuple bs t) valid q
      (λ n. ap (option_map type_of) (extended_values n) ∙ by_name n (has_name n (tuple_names t)) refl ∙ sym (type_at-union n h (added_attributes bs)))
    where
      by_name : (n : List ℕ) (b : Bool) → has_name n (tuple_names t) ≡ b → option_map type_of (if b then value_at n t else value_at n (added_values bs t))
          ≡ (if has_attribute n h then type_at n h else type_at n (added_attributes bs))
      by_name n true e = let there : has_attribute n h ≡ true = sym (has_name-heading h t p n) ∙ e in rw there (typed_values h t p n)
      by_name n false e = let there : has_attribute n h ≡ false = sym (has_name-heading h t p n) ∙ e in rw there (added_types typed n)

-- ---- what is taken of a tuple's values and the new ones

zip_added : (bs : List Addition) (t : Tuple) → zip (attribute_names (added_attributes bs)) (map (λ (a : Addition). a.value t) bs) ≡ added_values bs t
zip_added [] t = refl
zip_added (a ∷ bs) t = ap (λ r. (a.name, a.value t) ∷ r) (zip_added bs t)

same_count : (bs : List Addition) (t : Tuple) → length (attribute_names (added_attributes bs)) ≡ length (map (λ (a : Addition). a.value t) bs)
same_count [] t = refl
same_count (a ∷ bs) t = ap suc (same_count bs t)

-- the entries of a tuple whose names a part lacks
abbrev pub entries_outside : Heading → Tuple → Tuple
entries_outside part t = filter (λ e. not (has_attribute e.0 part)) t

pub taken_beside : (part : Heading) (bs : List Addition) (h : Heading) (t : Tuple) → IsTupleOf h t
    → placed_tuple (sources_with part h (attribute_names (added_attributes bs))) (values_of t ++ map (λ (a : Addition). a.value t) bs)
    ≡ tuple_of (entries_outside part t ++ added_values bs t)
taken_beside part bs h t p = ap tuple_of (taken-append (sources_outside part 0 h) (numbered_sources (length h) names) (values_of t ++ cells) ∙ (λ i. old i ++ new i))
  where
    names : List (List ℕ)
    names = attribute_names (added_attributes bs)

    cells : List Val
    cells = map (λ (a : Addition). a.value t) bs

    old : entries_taken (sources_outside part 0 h) (values_of t ++ cells) ≡ entries_outside part t
    old = taken_outside part h t 0 (values_of t ++ cells) cells (names_of_heading h t p) refl

    new : entries_taken (numbered_sources (length h) names) (values_of t ++ cells) ≡ added_values bs t
    new =
        ap (λ n. entries_taken (numbered_sources n names) (values_of t ++ cells)) (as_many h t p)
        ∙ ap (λ vs. entries_taken (numbered_sources (length (values_of t)) names) (values_of t ++ vs)) (sym (append-nil cells))
        ∙ taken_numbered (values_of t) names cells [] (same_count bs t) ∙ zip_added bs t

taken_extension : (bs : List Addition) (h : Heading) (t : Tuple) → IsTupleOf h t
    → placed_tuple (sources_with [] h (attribute_names (added_attributes bs))) (values_of t ++ map (λ (a : Addition). a.value t) bs) ≡ extended_tuple bs t
taken_extension bs h t p =
    taken_beside [] bs h t p ∙ ap (λ es. tuple_of (es ++ added_values bs t)) (all_kept (λ (e : List ℕ × Val). not (has_attribute e.0 [])) t (λ e. refl))

-- ---- the line by membership

module _ (t u : Tuple) where
  pub given_values : (bs : List Addition) → AllByRecursion (λ (a : Addition). value_at a.name t ≡ Some (a.value u)) bs
      → (n : List ℕ) → has_name n (tuple_names (added_values bs u)) ≡ true → value_at n t ≡ value_at n (added_values bs u)
  given_values [] h n there = absurd (true≢false (sym there))
  given_values (a ∷ bs) h n there = by_name (same_name a.name n) refl (given_values bs h.1 n)
    where
      by_name : (b : Bool) → same_name a.name n ≡ b → (has_name n (tuple_names (added_values bs u)) ≡ true → value_at n t ≡ value_at n (added_values bs u))
          → value_at n t ≡ (if b then Some (a.value u) else value_at n (added_values bs u))
      by_name true is rest = subst (λ m. value_at m t ≡ Some (a.value u)) (same_text a.name n (sym is)) h.0
      by_name false is rest = rest (rw is at there)

  pub values_given : (bs : List Addition) → are_distinct (attribute_names (added_attributes bs)) ≡ true
      → ((n : List ℕ) → has_name n (tuple_names (added_values bs u)) ≡ true → value_at n t ≡ value_at n (added_values bs u))
      → AllByRecursion (λ (a : Addition). value_at a.name t ≡ Some (a.value u)) bs
  values_given [] d h = tt
  values_given (a ∷ bs) d h =
      (h a.name (rw (same_name-itself a.name) refl) ∙ rw (same_name-itself a.name) refl, values_given bs (second_of _ _ d) rest)
    where
      rest : (n : List ℕ) → has_name n (tuple_names (added_values bs u)) ≡ true → value_at n t ≡ value_at n (added_values bs u)
      rest n there = by_name (same_name a.name n) refl
        where
          by_name : (b : Bool) → same_name a.name n ≡ b → value_at n t ≡ value_at n (added_values bs u)
          by_name true is =
              let absent : has_name a.name (attribute_names (added_attributes bs)) ≡ false = first_of _ _ d in
              let none : has_name n (tuple_names (added_values bs u)) ≡ false =
              subst (λ m. has_name m (tuple_names (added_values bs u)) ≡ false) (same_text a.name n (sym is)) (ap (has_name a.name) (names_added bs u) ∙ absent) in
              absurd (true≢false (sym there ∙ none))
          by_name false is = h n (rw is there) ∙ rw is refl

pub extension_members : ExtensionByMembership
extension_members bs r t p new q = (some_extended, extends)
  where
    some_extended : IsIn t (extended_relation bs r) → (u : Tuple) × IsIn u r × IsExtended bs r u t
    some_extended c = (u, d.1, (agree, All-from_recursion (λ (a : Addition). value_at a.name t ≡ Some (a.value u)) bs (values_given t u bs new.0 given)))
      where
        d : (v : Tuple) × Contains r.body v × (extended_tuple bs v ≡ t)
        d = (contains_map (extended_tuple bs) r.body t).0 ((set_members (map (extended_tuple bs) r.body) t).0 c)

        u : Tuple
        u = d.0

        member : IsTupleOf r.heading u
        member = member_headed r u p d.1

        is : (n : List ℕ) → value_at n t ≡ (if has_name n (tuple_names u) then value_at n u else value_at n (added_values bs u))
        is n = ap (value_at n) (sym d.2) ∙ extended_values bs r.heading u member new.0 new.1 n

        agree : AgreeOn (relation_names r) t u
        agree n there =
            let named : has_name n (tuple_names u) ≡ true = ap (has_name n) (names_of_heading r.heading u member) ∙ there in
            is n ∙ rw named refl

        given : (n : List ℕ) → has_name n (tuple_names (added_values bs u)) ≡ true → value_at n t ≡ value_at n (added_values bs u)
        given n there = is n ∙ by_name (has_name n (tuple_names u)) refl
          where
            by_name : (b : Bool) → has_name n (tuple_names u) ≡ b → (if b then value_at n u else value_at n (added_values bs u)) ≡ value_at n (added_values bs u)
            by_name true e =
                let free = apart (added_attributes bs) r.heading new.1 n (sym (has_name-heading r.heading u member n) ∙ e) in
                absurd (true≢false (sym there ∙ has_name-added n bs u ∙ free))
            by_name false e = refl

    extends : (u : Tuple) × IsIn u r × IsExtended bs r u t → IsIn t (extended_relation bs r)
    extends d = (set_members (map (extended_tuple bs) r.body) t).1 ((contains_map (extended_tuple bs) r.body t).1 (u, d.1, made))
      where
        u : Tuple
        u = d.0

        member : IsTupleOf r.heading u
        member = member_headed r u p d.1

        added : (n : List ℕ) → has_attribute n r.heading ≡ false → (b : Bool) → has_name n (tuple_names (added_values bs u)) ≡ b → value_at n (added_values bs u) ≡ value_at n t
        added n lacking true e = sym (given_values t u bs (recursion_from_All (λ (a : Addition). value_at a.name t ≡ Some (a.value u)) bs d.2.1) n e)
        added n lacking false e =
            let none : has_attribute n (added_attributes bs) ≡ false = sym (has_name-added n bs u) ∙ e in
            let nowhere : has_attribute n (heading_union r.heading (added_attributes bs)) ≡ false = ap is_some (type_at-union n r.heading (added_attributes bs)) ∙ rw lacking none in
            no_value n (added_values bs u) e ∙ sym (no_value_outside (heading_union r.heading (added_attributes bs)) t q n nowhere)

        by_name : (n : List ℕ) (b : Bool) → has_name n (tuple_names u) ≡ b → (if b then value_at n u else value_at n (added_values bs u)) ≡ value_at n t
        by_name n true e = sym (d.2.0 n (sym (ap (has_name n) (names_of_heading r.heading u member)) ∙ e))
        by_name n false e = added n (sym (has_name-heading r.heading u member n) ∙ e) (has_name n (tuple_names (added_values bs u))) refl

        made : extended_tuple bs u ≡ t
        made =
            entries_of_values (extended_tuple bs u) t (tuple_of-ascends (u ++ added_values bs u) (extended_distinct bs r.heading u member new.0 new.1)) (names_ascend t q.0)
            (λ n. extended_values bs r.heading u member new.0 new.1 n ∙ by_name n (has_name n (tuple_names u)) refl)

-- ---- columns

pub item_first : {X : Type 0} (xs : List X) (i : ℕ) (x : X) → i < length xs → x ≡ get_or xs i x → drop i xs ≡ x ∷ drop (i + 1) xs
item_first xs i x h e = at_drop_more (λ r. r) xs i x h ∙ ap (λ y. y ∷ drop (i + 1) xs) (sym e)

pub names_of_all : (h : Heading) → attribute_names (outside [] h) ≡ attribute_names h
names_of_all [] = refl
names_of_all (a ∷ h) = ap (λ ns. a.0 ∷ ns) (names_of_all h)

pub names_with : (part h : Heading) (ns : List (List ℕ)) → map (λ s. s.0) (sources_with part h ns) ≡ attribute_names (outside part h) ++ ns
names_with part h ns =
    map-append (λ (s : List ℕ × ℕ). s.0) (sources_outside part 0 h) (numbered_sources (length h) ns)
    ∙ (λ i. names_outside part 0 h i ++ names_numbered (length h) ns i)

pub with_in_range : (part h : Heading) (ns : List (List ℕ)) (n : ℕ) → length h + length ns ≤ n → All (λ s. s.1 < n) (sources_with part h ns)
with_in_range part h ns n l =
    All-append (λ s. s.1 < n) (sources_outside part 0 h) (numbered_sources (length h) ns) (outside_in_range part 0 n h (omega arith)) (numbered_in_range (length h) n ns l)

-- the columns' values at a place are those that the new attributes have in the tuple there
pub cells_are : (cs : List (List ℕ × Column)) (ts : List Tuple) (bs : List Addition) (i : ℕ) (t : Tuple) → AreColumnsOf (columns_view cs) ts bs → i < length ts
    → cells_at i cs ≡ map (λ (a : Addition). a.value (get_or ts i t)) bs
cells_are [] ts [] i t e l = refl
cells_are [] ts (b ∷ bs) i t e l = absurd (cc)
cells_are (c ∷ cs) ts [] i t e l = absurd (cc)
cells_are (c ∷ cs) ts (b ∷ bs) i t e l =
    let first : (c.0, type_view c.1.ty, c.1.values.items) ≡ column_of ts b = cc in
    let rest : columns_view cs ≡ map (column_of ts) bs = cc in
    let value : get_or c.1.values.items i (boolean false) ≡ b.value (get_or ts i t) = ap (λ (x : NamedColumn). get_or x.2 i (boolean false)) first ∙ get_or-map_within b.value ts i (boolean false) t l in
    λ k. value k ∷ cells_are cs ts bs i t rest l k
  where
    get_or-map_within : {X Y : Type 0} (f : X → Y) (xs : List X) (i : ℕ) (d : Y) (x : X) → i < length xs → get_or (map f xs) i d ≡ f (get_or xs i x)
    get_or-map_within f [] i d x l = absurd (omega arith)
    get_or-map_within f (y ∷ ys) zero d x l = refl
    get_or-map_within f (y ∷ ys) (suc i) d x l = get_or-map_within f ys i d x (omega arith)

-- one more column's attribute
pub attribute_more : (cs : List (List ℕ × Column)) (i : ℕ) (c : List ℕ × Column) (old new whole : Heading) → i < length cs → c ≡ get_or cs i c
    → new ≡ add_missing old (c.0, type_view c.1.ty) → heading_union old (column_attributes (columns_view (drop i cs))) ≡ whole
    → heading_union new (column_attributes (columns_view (drop (i + 1) cs))) ≡ whole
attribute_more cs i c old new whole l here is inv =
    ap (λ h. heading_union h (column_attributes (columns_view (drop (i + 1) cs)))) is
    ∙ sym (ap (λ ds. heading_union old (column_attributes (columns_view ds))) (item_first cs i c l here)) ∙ inv

pub attributes_end : (cs : List (List ℕ × Column)) (i : ℕ) (old whole : Heading) → length cs ≤ i
    → heading_union old (column_attributes (columns_view (drop i cs))) ≡ whole → old ≡ whole
attributes_end cs i old whole past inv = sym (ap (λ ds. heading_union old (column_attributes (columns_view ds))) (drop_all i cs past)) ∙ inv

pub column_names : (cs : List (List ℕ × Column)) → map (λ c. c.0) cs ≡ attribute_names (column_attributes (columns_view cs))
column_names [] = refl
column_names (c ∷ cs) = ap (λ ns. c.0 ∷ ns) (column_names cs)

pub attributes_of_additions : (ts : List Tuple) (bs : List Addition) → column_attributes (map (column_of ts) bs) ≡ added_attributes bs
attributes_of_additions ts [] = refl
attributes_of_additions ts (b ∷ bs) = ap (λ r. (b.name, b.kind) ∷ r) (attributes_of_additions ts bs)

-- ---- the new attributes' values have the types of their columns

pub typed_from : (cs : List NamedColumn) (ts : List Tuple) (bs : List Addition) (i : ℕ) (t : Tuple) → AreColumnsOf cs ts bs → AllByRecursion (λ c. IsColumn c.1 c.2 ts) cs → i < length ts
    → AllByRecursion (λ (a : Addition). type_of (a.value (get_or ts i t)) ≡ a.kind) bs
typed_from [] ts [] i t e h l = tt
typed_from [] ts (b ∷ bs) i t e h l = absurd (cc)
typed_from (c ∷ cs) ts [] i t e h l = absurd (cc)
typed_from (c ∷ cs) ts (b ∷ bs) i t e h l =
    let first : c ≡ column_of ts b = cc in
    let rest : cs ≡ map (column_of ts) bs = cc in
    let typed : All (λ v. type_of v ≡ b.kind) (map b.value ts) = (subst (λ (x : NamedColumn). IsColumn x.1 x.2 ts) first h.0).1 in
    (at_value b.value b.kind ts i t typed l, typed_from cs ts bs i t rest h.1 l)
  where
    at_value : (f : Tuple → Val) (k : Type') (us : List Tuple) (i : ℕ) (t : Tuple) → All (λ v. type_of v ≡ k) (map f us) → i < length us → type_of (f (get_or us i t)) ≡ k
    at_value f k [] i t a l = absurd (omega arith)
    at_value f k (u ∷ us) zero t a l = a 0 (f u) (omega arith)
    at_value f k (u ∷ us) (suc i) t a l = at_value f k us i t (λ n d m. a (suc n) d (omega arith)) (omega arith)

-- the extended tuples of a relation are of the heading with the new attributes
pub extended_headed : (cs : List NamedColumn) (bs : List Addition) (h : Heading) (ts : List Tuple) → AreColumnsOf cs ts bs → All (λ c. IsColumn c.1 c.2 ts) cs
    → are_distinct (attribute_names (added_attributes bs)) ≡ true → have_no_common (added_attributes bs) h ≡ true → IsHeading (pack (heading_union h (added_attributes bs)))
    → All (IsTupleOf h) ts → All IsTuple (map (extended_tuple bs) ts) → All (IsTupleOf (heading_union h (added_attributes bs))) (map (extended_tuple bs) ts)
extended_headed cs bs h ts e fit distinct new q headed valid =
    All-map (IsTupleOf (heading_union h (added_attributes bs))) (extended_tuple bs) ts
    (λ k d l. IsTupleOf-extended bs h (get_or ts k d) (headed k d l) distinct new (valid_at ts k d valid l)
    (typed_from cs ts bs k d e (recursion_from_All (λ c. IsColumn c.1 c.2 ts) cs fit) l) q)
  where
    valid_at : (us : List Tuple) (k : ℕ) (d : Tuple) → All IsTuple (map (extended_tuple bs) us) → k < length us → IsTuple (extended_tuple bs (get_or us k d))
    valid_at [] k d a l = absurd (omega arith)
    valid_at (u ∷ us) zero d a l = a 0 (extended_tuple bs u) (omega arith)
    valid_at (u ∷ us) (suc k) d a l = valid_at us k d (λ n x m. a (suc n) x (omega arith)) (omega arith)

-- ---- the rows, one after another

pub cells_long : (cs : List (List ℕ × Column)) (ts : List Tuple) (i : ℕ) → AreColumns (columns_view cs) ts → i < length ts → All (λ c. i < length c.1.values.items) cs
cells_long [] ts i h l k d m = absurd (omega arith)
cells_long (c ∷ cs) ts i h l zero d m =
    let long = (h 0 (c.0, type_view c.1.ty, c.1.values.items) (omega arith)).0 in
    omega (arith, long)
cells_long (c ∷ cs) ts i h l (suc k) d m = cells_long cs ts i (λ n x b. h (suc n) x (omega arith)) l k d (omega arith)

pub row_in_range : (layout : Sources) (rows : List Tuple) (m i : ℕ) (t : Tuple) (vs ws : List Val) → All (λ u. All (λ s. s.1 < length (values_of u) + m) layout) rows
    → i < length rows → t ≡ get_or rows i t → vs ≡ values_of t → length ws ≡ m → AreInRange layout (vs ++ ws)
row_in_range layout rows m i t vs ws h l here is count =
    let both : length (vs ++ ws) ≡ length vs + length ws = length-append vs ws in
    let first : length vs ≡ length (values_of (get_or rows i t)) = ap length is ∙ ap (λ u. length (values_of u)) here in
    let same : length (values_of (get_or rows i t)) + m ≡ length (vs ++ ws) = omega arith in
    subst (λ n. All (λ s. s.1 < n) layout) same (h i t l)

-- the extended tuple by a layout's sources
abbrev pub row_with : Sources → List Addition → Tuple → Tuple
row_with sources bs t = placed_tuple sources (values_of t ++ map (λ (a : Addition). a.value t) bs)

pub row_more : (sources : Sources) (bs : List Addition) (cs : List (List ℕ × Column)) (rows : List Tuple) (i : ℕ) (t made : Tuple) (vs ws : List Val) (old new : List Tuple)
    → AreColumnsOf (columns_view cs) rows bs → i < length rows → t ≡ get_or rows i t → vs ≡ values_of t → ws ≡ cells_at i cs → made ≡ tuple_of (entries_taken sources (vs ++ ws))
    → old ≡ map (row_with sources bs) (take i rows) → new ≡ old ++ made ∷ [] → new ≡ map (row_with sources bs) (take (i + 1) rows)
row_more sources bs cs rows i t made vs ws old new columns l here is cells tuple inv more =
    let values : ws ≡ map (λ (a : Addition). a.value t) bs = cells ∙ cells_are cs rows bs i t columns l ∙ ap (λ u. map (λ (a : Addition). a.value u) bs) (sym here) in
    let whole : made ≡ row_with sources bs t = tuple ∙ (λ k. tuple_of (entries_taken sources (is k ++ values k))) in
    let last : made ≡ row_with sources bs (get_or rows i t) = whole ∙ ap (row_with sources bs) here in
    more ∙ (λ k. inv k ++ last k ∷ [])
    ∙ sym (ap (map (row_with sources bs)) (take_more rows i t l) ∙ map-append (row_with sources bs) (take i rows) (get_or rows i t ∷ []))

-- ---- what is asked of columns, as the code hands it on

pub all_distinct : (h g : Heading) (cs : List (List ℕ × Column)) (names : List (List ℕ)) → h ≡ g → names ≡ map (λ c. c.0) cs → IsHeading (pack h)
    → are_distinct (attribute_names (column_attributes (columns_view cs))) ≡ true → have_no_common (column_attributes (columns_view cs)) g ≡ true
    → are_distinct (attribute_names h ++ names) ≡ true
all_distinct h g cs names same is p d new =
    let added : names ≡ attribute_names (column_attributes (columns_view cs)) = is ∙ column_names cs in
    let free : have_no_common (column_attributes (columns_view cs)) h ≡ true = ap (have_no_common (column_attributes (columns_view cs))) same ∙ new in
    names_apart (attribute_names h) names (heading_distinct h p) (ap are_distinct added ∙ d)
    (λ n there. ap (has_name n) added ∙ sym (has_attribute-names n (column_attributes (columns_view cs)))
    ∙ apart (column_attributes (columns_view cs)) h free n (has_attribute-names n h ∙ there))

pub layout_range : (part h : Heading) (cs : List (List ℕ × Column)) (names : List (List ℕ)) (layout : Sources) (ts : List Tuple) → names ≡ map (λ c. c.0) cs
    → IsPermutation (sources_with part h names) layout → All (IsTupleOf h) ts → All (λ t. All (λ s. s.1 < length (values_of t) + length cs) layout) ts
layout_range part h cs names layout ts is p a k d l =
    let wide : length h ≡ length (values_of (get_or ts k d)) = as_many h (get_or ts k d) (a k d l) in
    let count : length names ≡ length cs = ap length is ∙ length-map cs (λ c. c.0) in
    All-permutation (λ s. s.1 < length (values_of (get_or ts k d)) + length cs) (sources_with part h names) layout p
    (with_in_range part h names (length (values_of (get_or ts k d)) + length cs) (omega arith))

pub columns_moved : (cs ds : List (List ℕ × Column)) (ss ts : List Tuple) → cs ≡ ds → ss ≡ ts → AreColumns (columns_view ds) ts → AreColumns (columns_view cs) ss
columns_moved cs ds ss ts e f = subst (λ us. AreColumns (columns_view ds) ts → AreColumns us ss) (ap columns_view (sym e)) (subst (λ us. AreColumns (columns_view ds) ts → AreColumns (columns_view ds) us) (sym f) (λ h. h))

pub additions_attributes : (cs : List NamedColumn) (ts : List Tuple) (bs : List Addition) → AreColumnsOf cs ts bs → column_attributes cs ≡ added_attributes bs
additions_attributes cs ts bs e = ap column_attributes e ∙ attributes_of_additions ts bs

-- the rows are the tuples of their entries that a part lacks, and the new ones
pub rows_beside : (part : Heading) (cs ds : List (List ℕ × Column)) (bs : List Addition) (h : Heading) (body ts made : List Tuple) (names : List (List ℕ)) (layout : Sources)
    → cs ≡ ds → ts ≡ body → AreColumnsOf (columns_view ds) body bs → names ≡ map (λ c. c.0) ds → All (IsTupleOf h) ts → IsPermutation (sources_with part h names) layout
    → ((sources : Sources) (additions : List Addition) → IsPermutation sources layout → AreColumnsOf (columns_view cs) ts additions → made ≡ map (row_with sources additions) ts)
    → (f : Tuple → Tuple) → ((t : Tuple) → IsTupleOf h t → row_with (sources_with part h (attribute_names (added_attributes bs))) bs t ≡ f t) → made ≡ map f body
rows_beside part cs ds bs h body ts made names layout same rows e is a p m f each =
    let columns : AreColumnsOf (columns_view cs) ts bs = ap columns_view same ∙ e ∙ ap (λ us. map (column_of us) bs) (sym rows) in
    let named : names ≡ attribute_names (added_attributes bs) = is ∙ column_names ds ∙ ap attribute_names (additions_attributes (columns_view ds) body bs e) in
    m (sources_with part h names) bs p columns ∙ ap (λ ns. map (row_with (sources_with part h ns) bs) ts) named
    ∙ map_alike (IsTupleOf h) (row_with (sources_with part h (attribute_names (added_attributes bs))) bs) f ts a each ∙ ap (map f) rows

-- with no part, they are the extended tuples
pub extension_rows : (nothing : Heading) (cs ds : List (List ℕ × Column)) (bs : List Addition) (h : Heading) (body ts made : List Tuple) (names : List (List ℕ)) (layout : Sources)
    → nothing ≡ [] → cs ≡ ds → ts ≡ body → AreColumnsOf (columns_view ds) body bs → names ≡ map (λ c. c.0) ds → All (IsTupleOf h) ts → IsPermutation (sources_with nothing h names) layout
    → ((sources : Sources) (additions : List Addition) → IsPermutation sources layout → AreColumnsOf (columns_view cs) ts additions → made ≡ map (row_with sources additions) ts)
    → made ≡ map (extended_tuple bs) body
extension_rows nothing cs ds bs h body ts made names layout none same rows e is a p m =
    rows_beside [] cs ds bs h body ts made names layout same rows e is a (subst (λ g. IsPermutation (sources_with g h names) layout) none p) m (extended_tuple bs) (taken_extension bs h)

pub extension_heading : (cs : List (List ℕ × Column)) (bs : List Addition) (h g made : Heading) (ts : List Tuple) → AreColumnsOf (columns_view cs) ts bs → h ≡ g
    → made ≡ heading_union h (column_attributes (columns_view cs)) → made ≡ heading_union g (added_attributes bs)
extension_heading cs bs h g made ts e same is = is ∙ (λ i. heading_union (same i) (additions_attributes (columns_view cs) ts bs e i))

-- they are of the heading, since the columns are those of some new attributes
pub extension_headed : (cs : List (List ℕ × Column)) (g made : Heading) (body rows : List Tuple)
    → IsStrictlySortedBy tuple_cmp body → AreColumns (columns_view cs) body → are_distinct (attribute_names (column_attributes (columns_view cs))) ≡ true
    → have_no_common (column_attributes (columns_view cs)) g ≡ true → IsHeading (pack made) → All (IsTupleOf g) body → All IsTuple rows
    → ((bs : List Addition) → AreColumnsOf (columns_view cs) body bs → (made ≡ heading_union g (added_attributes bs)) × (rows ≡ map (extended_tuple bs) body))
    → All (IsTupleOf made) rows
extension_headed cs g made body rows up fit d new p a valid are =
    let bs : List Addition = additions_of (columns_view cs) body in
    let e : AreColumnsOf (columns_view cs) body bs = columns_of_additions (columns_view cs) body up (recursion_from_All (λ c. IsColumn c.1 c.2 body) (columns_view cs) fit) in
    let both = are bs e in
    let added : column_attributes (columns_view cs) ≡ added_attributes bs = additions_attributes (columns_view cs) body bs e in
    headed_by made (heading_union g (added_attributes bs)) rows (map (extended_tuple bs) body) both.0 both.1
    (extended_headed (columns_view cs) bs g body e fit (ap (λ h. are_distinct (attribute_names h)) (sym added) ∙ d) (ap (λ h. have_no_common h g) (sym added) ∙ new)
    (subst (λ h. IsHeading (pack h)) both.0 p) a (subst (All IsTuple) both.1 valid))
