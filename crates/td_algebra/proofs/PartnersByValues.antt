-- The values of tuples on the common names tell which are partners.
use Rattle.std.proofs.Common.{◌≡◌, ◌∙◌, ap, sym, refl, subst, ℕ, Bool, true, false, List, [], ◌∷◌, ◌++◌, filter, get_or, map}
use Rattle.std.specs.Prelude.{◌&&◌, ◌||◌, is_some, if◌then◌else◌, Option, None, Some}
use Rattle.std.specs.List.{All, list_any}
use Rattle.std.proofs.lemmas.List.Elements.{All-filter, All-head, All-tail}
use Rattle.td_types.specs.model.Headings.{has_attribute, has_name}
use Rattle.td_types.specs.model.Types.{type_at}
use Rattle.td_types.proofs.HeadingLaws.{has_attribute-names, type_at-common}
use Rattle.td_value.specs.model.Values.{IsTupleOf, Relation, Tuple, projected_tuple}
use Rattle.td_value.specs.code.Views.{values_of}
use Rattle.td_algebra.specs.code.Lookups.{ArePlacesOf, are_same, has_part, part_of, partners_in, values_on, wanted_answer}
use Rattle.td_algebra.specs.model.Operators.{are_partners, common_names, relation_names}
use Rattle.td_algebra.specs.code.Pairs.{IsPaired, pairs_with}
use Rattle.td_algebra.specs.code.Layouts.{Sources}
use Rattle.td_algebra.proofs.Entries.{has_name-heading}
use Rattle.td_algebra.proofs.Keys.{kept_alike}
use Rattle.td_algebra.proofs.OnNames.{agree_by_values, common_there, kept_same, same_names, stand_part}

some_where : {A : Type 0} (o : Option A) (b : Bool) → is_some (if b then o else None) ≡ (is_some o && b)
some_where None true = refl
some_where None false = refl
some_where (Some a) true = refl
some_where (Some a) false = refl

pub has_common : (r s : Relation) (n : List ℕ) → has_name n (common_names r s) ≡ (has_attribute n r.heading && has_attribute n s.heading)
has_common r s n =
    sym (has_attribute-names n _) ∙ ap is_some (type_at-common n r.heading s.heading) ∙ some_where (type_at n r.heading) (has_attribute n s.heading)

-- ---- two relations

module _ (r s : Relation) where
  -- a tuple's names that the other relation has are those that both have
  own_common : (t : Tuple) → IsTupleOf r.heading t → projected_tuple (relation_names s) t ≡ projected_tuple (common_names r s) t
  own_common t h =
      kept_alike (λ n. has_name n (relation_names s)) (λ n. has_name n (common_names r s)) t
      (λ n there. sym (has_attribute-names n s.heading)
      ∙ with_it (has_attribute n r.heading) (has_attribute n s.heading) (sym (has_name-heading r.heading t h n) ∙ there) ∙ sym (has_common r s n))
    where
      with_it : (b c : Bool) → b ≡ true → c ≡ (b && c)
      with_it true c e = refl
      with_it false c e = absurd (cc)

  their_common : (u : Tuple) → IsTupleOf s.heading u → projected_tuple (relation_names r) u ≡ projected_tuple (common_names r s) u
  their_common u h =
      kept_alike (λ n. has_name n (relation_names r)) (λ n. has_name n (common_names r s)) u
      (λ n there. sym (has_attribute-names n r.heading)
      ∙ with_it (has_attribute n r.heading) (has_attribute n s.heading) (sym (has_name-heading s.heading u h n) ∙ there) ∙ sym (has_common r s n))
    where
      with_it : (b c : Bool) → c ≡ true → b ≡ (b && c)
      with_it true c e = sym e
      with_it false c e = refl

  module _ (own theirs : List ℕ) (own_are : ArePlacesOf (relation_names s) r.heading own) (theirs_are : ArePlacesOf (relation_names r) s.heading theirs) where
    -- a tuple of the second has the values of one of the first where they are partners
    pub partners_by_values : (t u : Tuple) → IsTupleOf r.heading t → IsTupleOf s.heading u → has_part theirs (part_of own t) u ≡ are_partners r s t u
    partners_by_values t u p q =
        let first : part_of own t ≡ values_on (common_names r s) t = stand_part own (values_on (relation_names s) t) t (own_are t p) ∙ ap values_of (own_common t p) in
        let second : part_of theirs u ≡ values_on (common_names r s) u = stand_part theirs (values_on (relation_names r) u) u (theirs_are u q) ∙ ap values_of (their_common u q) in
        let there = common_there r.heading s.heading in
        (λ i. are_same (first i) (second i))
        ∙ agree_by_values (common_names r s) t u (same_names (common_names r s) r.heading s.heading t u there.1 there.0 p q)

    pub partners_found : (rows : List Tuple) → rows ≡ s.body → All (IsTupleOf s.heading) s.body → (t : Tuple) → IsTupleOf r.heading t
        → partners_in (theirs, rows) own t ≡ filter (are_partners r s t) s.body
    partners_found rows is all t p =
        ap (filter (has_part theirs (part_of own t))) is
        ∙ kept_same (IsTupleOf s.heading) (has_part theirs (part_of own t)) (are_partners r s t) s.body (λ u q. partners_by_values t u p q) all

    pub partner_there : (rows : List Tuple) → rows ≡ s.body → All (IsTupleOf s.heading) s.body → (t : Tuple) → IsTupleOf r.heading t
        → list_any (has_part theirs (part_of own t)) rows ≡ list_any (are_partners r s t) s.body
    partner_there rows is all t p =
        ap (list_any (has_part theirs (part_of own t))) is ∙ any_same s.body all
      where
        any_same : (us : List Tuple) → All (IsTupleOf s.heading) us → list_any (has_part theirs (part_of own t)) us ≡ list_any (are_partners r s t) us
        any_same [] all = refl
        any_same (u ∷ us) all =
            let here = partners_by_values t u p (All-head (IsTupleOf s.heading) u us all) in
            let rest = any_same us (All-tail (IsTupleOf s.heading) u us all) in
            λ i. here i || rest i

    -- rows kept by their partners in the look-up
    pub kept_by_values : (rows body kept : List Tuple) (there : Bool) → rows ≡ s.body → body ≡ r.body → All (IsTupleOf r.heading) r.body → All (IsTupleOf s.heading) s.body
        → kept ≡ filter (λ t. wanted_answer there (list_any (has_part theirs (part_of own t)) rows)) body
        → kept ≡ filter (λ t. wanted_answer there (list_any (are_partners r s t) s.body)) r.body
    kept_by_values rows body kept there is_rows is_body firsts seconds e =
        e ∙ ap (filter (λ t. wanted_answer there (list_any (has_part theirs (part_of own t)) rows))) is_body
        ∙ kept_same (IsTupleOf r.heading) (λ t. wanted_answer there (list_any (has_part theirs (part_of own t)) rows)) (λ t. wanted_answer there (list_any (are_partners r s t) s.body)) r.body
        (λ t p. ap (wanted_answer there) (partner_there rows is_rows seconds t p)) firsts

    -- the pairs of rows and their partners in the look-up
    pub pairs_by_values : (rows body : List Tuple) (f : Tuple → Tuple → Tuple) → rows ≡ s.body → body ≡ r.body
        → All (IsTupleOf r.heading) r.body → All (IsTupleOf s.heading) s.body
        → pairs_with (partners_in (theirs, rows) own) f body ≡ pairs_with (λ t. filter (are_partners r s t) s.body) f r.body
    pairs_by_values rows body f is_rows is_body firsts seconds =
        ap (pairs_with (partners_in (theirs, rows) own) f) is_body ∙ pairs_same r.body firsts
      where
        pairs_same : (ts : List Tuple) → All (IsTupleOf r.heading) ts
            → pairs_with (partners_in (theirs, rows) own) f ts ≡ pairs_with (λ t. filter (are_partners r s t) s.body) f ts
        pairs_same [] all = refl
        pairs_same (t ∷ ts) all =
            let here = partners_found rows is_rows seconds t (All-head (IsTupleOf r.heading) t ts all) in
            let rest = pairs_same ts (All-tail (IsTupleOf r.heading) t ts all) in
            λ i. map (f t) (here i) ++ rest i

    -- rows and their partners in the look-up have the layout's places
    pub all_paired : (layout : Sources) (rows body : List Tuple)
        → ((t u : Tuple) → IsTupleOf r.heading t → IsTupleOf s.heading u → IsPaired layout t u) → rows ≡ s.body → body ≡ r.body
        → All (IsTupleOf r.heading) r.body → All (IsTupleOf s.heading) s.body → All (λ t. All (IsPaired layout t) (partners_in (theirs, rows) own t)) body
    all_paired layout rows body paired is_rows is_body firsts seconds =
        subst (All (λ t. All (IsPaired layout t) (partners_in (theirs, rows) own t))) (sym is_body)
        (λ k d l. subst (All (IsPaired layout (get_or r.body k d))) (sym (partners_found rows is_rows seconds (get_or r.body k d) (firsts k d l)))
        (All-filter (are_partners r s (get_or r.body k d)) (IsPaired layout (get_or r.body k d)) s.body
        (λ k' d' l'. paired (get_or r.body k d) (get_or s.body k' d') (firsts k d l) (seconds k' d' l'))))
