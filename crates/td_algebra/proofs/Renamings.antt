-- The renamed tuples of a relation.
use Rattle.std.proofs.Common.{◌≡◌, ◌∙◌, ap, sym, refl, subst, ℕ, Bool, true, false, List, [], ◌∷◌, length, map}
use Rattle.std.specs.Prelude.{◌&&◌, ◌||◌, is_some, not}
use Rattle.std.specs.Cmp.Lexicographic.{same_text}
use Rattle.std.specs.List.{All, zip}
use Rattle.std.specs.List.Sorted.{IsPermutation}
use Rattle.std.proofs.lemmas.List.{append-nil, length-map}
use Rattle.td_types.specs.model.Headings.{are_distinct, can_rename, has_attribute, has_attributes, has_name, heading_union, new_name, new_names, renamed_attributes}
use Rattle.td_types.specs.model.Types.{Heading, IsHeading, pack, same_name, type_at}
use Rattle.td_types.proofs.HeadingLaws.{renaming_keeps_types, same_name-itself, type_at-renamed}
use Rattle.td_value.specs.model.Values.{IsTupleOf, Tuple, heading_of, tuple_names, tuple_of, type_of, value_at}
use Rattle.td_value.specs.code.Views.{values_of}
use Rattle.td_value.proofs.Maps.{value_at-tuple_of}
use Rattle.td_value.proofs.Members.{set_members}
use Rattle.td_algebra.specs.code.Layouts.{Sources, numbered_sources, placed_tuple, entries_taken}
use Rattle.td_algebra.specs.laws.Membership.{IsIn, IsRenamed, RenamingByMembership}
use Rattle.td_algebra.specs.model.Operators.{renamed_relation, renamed_tuple}
use Rattle.td_algebra.proofs.Entries.{HaveValues, IsTupleOf-made, as_many, has_name-heading, same_on_heading, type_at-heading_of, values_of_fields}
use Rattle.td_algebra.proofs.Lists.{contains_map}
use Rattle.td_algebra.proofs.Members.{first_true, second_true}
use Rattle.td_algebra.proofs.Relations.{member_headed}
use Rattle.td_algebra.proofs.Taken.{map_alike, taken_numbered}

module _ (rs : List (List ℕ × List ℕ)) where
  -- the entries with their names changed
  abbrev pub renamed_entries : Tuple → Tuple
  renamed_entries = map (λ e. (new_name rs e.0, e.1))

  heading_renamed : (t : Tuple) → heading_of (renamed_entries t) ≡ renamed_attributes rs (heading_of t)
  heading_renamed [] = refl
  heading_renamed (e ∷ t) = ap (λ h. (new_name rs e.0, type_of e.1) ∷ h) (heading_renamed t)

  names_renamed : (t : Tuple) → tuple_names (renamed_entries t) ≡ new_names rs (heading_of t)
  names_renamed [] = refl
  names_renamed (e ∷ t) = ap (λ ns. new_name rs e.0 ∷ ns) (names_renamed t)

  zip_renamed : (t : Tuple) → zip (new_names rs (heading_of t)) (values_of t) ≡ renamed_entries t
  zip_renamed [] = refl
  zip_renamed (e ∷ t) = ap (λ r. (new_name rs e.0, e.1) ∷ r) (zip_renamed t)

  values_renamed : (t : Tuple) → HaveValues t → HaveValues (renamed_entries t)
  values_renamed [] h = tt
  values_renamed (e ∷ t) h = (h.0, values_renamed t h.1)

  -- where the renamings can be done, the new names are distinct
  pub new_names_distinct : (h : Heading) → can_rename rs h ≡ true → are_distinct (new_names rs h) ≡ true
  new_names_distinct h e = second_true (has_attributes (map (λ r. r.0) rs) h && are_distinct (map (λ r. r.0) rs)) (are_distinct (new_names rs h)) e

  entries_distinct : (h : Heading) (t : Tuple) → IsTupleOf h t → can_rename rs h ≡ true → are_distinct (tuple_names (renamed_entries t)) ≡ true
  entries_distinct h t p e = ap are_distinct (names_renamed t ∙ ap (new_names rs) p.1) ∙ new_names_distinct h e

  -- a renamed tuple of a heading is one of the renamed heading
  pub IsTupleOf-renamed : (h : Heading) (t : Tuple) → IsTupleOf h t → can_rename rs h ≡ true → IsHeading (pack (heading_union [] (renamed_attributes rs h)))
      → IsTupleOf (heading_union [] (renamed_attributes rs h)) (renamed_tuple rs t)
  IsTupleOf-renamed h t p e q =
      IsTupleOf-made (heading_union [] (renamed_attributes rs h)) (renamed_entries t) (values_renamed t (values_of_fields t p.0.0)) (entries_distinct h t p e) q
      (λ n. sym (type_at-heading_of n (renamed_entries t)) ∙ ap (type_at n) (heading_renamed t ∙ ap (renamed_attributes rs) p.1) ∙ sym (type_at-renamed rs n h))

  -- what is taken under the new names is the renamed tuple
  pub placed_renaming : (h : Heading) (t : Tuple) → IsTupleOf h t → placed_tuple (numbered_sources 0 (new_names rs h)) (values_of t) ≡ renamed_tuple rs t
  placed_renaming h t p =
      let lengths : length (new_names rs h) ≡ length (values_of t) = length-map (renamed_attributes rs h) (λ a. a.0) ∙ length-map h (λ a. (new_name rs a.0, a.1)) ∙ as_many h t p in
      ap tuple_of (ap (entries_taken (numbered_sources 0 (new_names rs h))) (sym (append-nil (values_of t))) ∙ taken_numbered [] (new_names rs h) (values_of t) [] lengths
      ∙ ap (λ g. zip (new_names rs g) (values_of t)) (sym p.1) ∙ zip_renamed t)

  pub renaming_rows : (h : Heading) (ns : List (List ℕ)) (body made : List Tuple) (layout : Sources) → ns ≡ new_names rs h → All (IsTupleOf h) body
      → IsPermutation (numbered_sources 0 ns) layout → ((sources : Sources) → IsPermutation sources layout → made ≡ map (λ t. placed_tuple sources (values_of t)) body)
      → made ≡ map (renamed_tuple rs) body
  renaming_rows h ns body made layout is a p m =
      m _ p ∙ subst (λ ms. map (λ t. placed_tuple (numbered_sources 0 ms) (values_of t)) body ≡ map (renamed_tuple rs) body) (sym is)
      (map_alike (IsTupleOf h) _ _ body a (placed_renaming h))

  or_true : (a b : Bool) → b ≡ true → (a || b) ≡ true
  or_true true b e = refl
  or_true false b e = e

  -- the new name of an entry is one of the new names
  new_name_there : (n : List ℕ) (t : Tuple) → has_name n (tuple_names t) ≡ true → has_name (new_name rs n) (tuple_names (renamed_entries t)) ≡ true
  new_name_there n [] e = cc
  new_name_there n (a ∷ t) e = by_name (new_name_there n t) (same_name a.0 n) refl
    where
      by_name : (has_name n (tuple_names t) ≡ true → has_name (new_name rs n) (tuple_names (renamed_entries t)) ≡ true)
          → (same : Bool) → same ≡ same_name a.0 n → has_name (new_name rs n) (tuple_names (renamed_entries (a ∷ t))) ≡ true
      by_name rest true is = subst (λ m. has_name (new_name rs m) (tuple_names (renamed_entries (a ∷ t))) ≡ true) (same_text a.0 n is) (rw (same_name-itself (new_name rs a.0)) refl)
      by_name rest false is = or_true _ _ (rest (rw (← is) at e))

  -- each new name has the value of its old one
  kept_values : (t : Tuple) → are_distinct (tuple_names (renamed_entries t)) ≡ true
      → (n : List ℕ) → has_name n (tuple_names t) ≡ true → value_at (new_name rs n) (renamed_entries t) ≡ value_at n t
  kept_values [] d n e = cc
  kept_values (a ∷ t) d n e = by_name (kept_values t (second_true _ _ d) n) (same_name a.0 n) refl (same_name (new_name rs a.0) (new_name rs n)) refl
    where
      by_name : (has_name n (tuple_names t) ≡ true → value_at (new_name rs n) (renamed_entries t) ≡ value_at n t)
          → (same : Bool) → same ≡ same_name a.0 n → (tied : Bool) → tied ≡ same_name (new_name rs a.0) (new_name rs n)
          → value_at (new_name rs n) (renamed_entries (a ∷ t)) ≡ value_at n (a ∷ t)
      by_name rest true is true new = rw (← is, ← new) refl
      by_name rest true is false new =
          let tied : same_name (new_name rs a.0) (new_name rs n) ≡ true = subst (λ m. same_name (new_name rs a.0) (new_name rs m) ≡ true) (same_text a.0 n is) (same_name-itself (new_name rs a.0)) in
          cc
      by_name rest false is true new =
          let there : has_name n (tuple_names t) ≡ true = rw (← is) at e in
          let entries_taken : has_name (new_name rs a.0) (tuple_names (renamed_entries t)) ≡ true =
          subst (λ m. has_name m (tuple_names (renamed_entries t)) ≡ true) (sym (same_text (new_name rs a.0) (new_name rs n) new)) (new_name_there n t there) in
          let free : not (has_name (new_name rs a.0) (tuple_names (renamed_entries t))) ≡ true = first_true _ _ d in
          let clash = rw entries_taken at free in
          cc
      by_name rest false is false new = rw (← is, ← new) (rest (rw (← is) at e))

  pub renamed_values : (h : Heading) (t : Tuple) → IsTupleOf h t → can_rename rs h ≡ true → IsRenamed rs t (renamed_tuple rs t)
  renamed_values h t p e n there =
      value_at-tuple_of (new_name rs n) (renamed_entries t) (entries_distinct h t p e) ∙ kept_values t (entries_distinct h t p e) n there

pub renaming_members : RenamingByMembership
renaming_members rs r t p e q = (some_renamed, renames)
  where
    some_renamed : IsIn t (renamed_relation rs r) → (u : Tuple) × IsIn u r × IsRenamed rs u t
    some_renamed c =
        let d = (contains_map (renamed_tuple rs) r.body t).0 ((set_members (map (renamed_tuple rs) r.body) t).0 c) in
        (d.0, d.1, subst (IsRenamed rs d.0) d.2 (renamed_values rs r.heading d.0 (member_headed r d.0 p d.1) e))

    renames : (u : Tuple) × IsIn u r × IsRenamed rs u t → IsIn t (renamed_relation rs r)
    renames d =
        (set_members (map (renamed_tuple rs) r.body) t).1 ((contains_map (renamed_tuple rs) r.body t).1 (d.0, d.1, is))
      where
        member : IsTupleOf r.heading d.0
        member = member_headed r d.0 p d.1

        by_old : (n : List ℕ) → has_attribute n (heading_union [] (renamed_attributes rs r.heading)) ≡ true → value_at n (renamed_tuple rs d.0) ≡ value_at n t
        by_old n there =
            let old = (renaming_keeps_types rs r.heading e).1 n (sym (ap is_some (type_at-renamed rs n r.heading)) ∙ there) in
            let named : has_name old.0 (tuple_names d.0) ≡ true = has_name-heading r.heading d.0 member old.0 ∙ old.1 in
            subst (λ m. value_at m (renamed_tuple rs d.0) ≡ value_at m t) old.2
            (renamed_values rs r.heading d.0 member e old.0 named ∙ sym (d.2 old.0 named))

        is : renamed_tuple rs d.0 ≡ t
        is = same_on_heading (heading_union [] (renamed_attributes rs r.heading)) (renamed_tuple rs d.0) t (IsTupleOf-renamed rs r.heading d.0 member e q.2) q by_old
