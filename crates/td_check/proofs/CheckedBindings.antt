-- WITH's items as the code checks them: the headings that are found, and the names that are mentioned on the way.
use Rattle.std.proofs.Common.{◌≡◌, ◌∙◌, ◌∷◌, ◌++◌, ◌+◌, ◌<◌, ◌≤◌, ◌||◌, ℕ, Bool, true, false, List, [], Some, None, Err, ap, drop, get_or, length, refl, subst, sym}
use Rattle.std.proofs.lemmas.List.{append_assoc, drop_all, drop_more, reverse-append}
use Rattle.std.proofs.lemmas.List.Folds.{list_any-append}
use Rattle.std.specs.Global.{Vec}
use Rattle.std.specs.Prelude.{if◌then◌else◌, is_some}
use Rattle.td_check.specs.code.CheckViews.{Names, bound_found, bounds_found, with_names}
use Rattle.td_check.specs.code.PlaceViews.{is_bound, within_all}
use Rattle.td_check.specs.model.Mentions.{behind_item, relvars_in, relvars_where_bound, types_in, types_in_named}
use Rattle.td_check.specs.model.OperatorTypes as own
use Rattle.td_check.specs.model.Scopes.{Scope, bound_to, entered_with}
use Rattle.td_check.specs.model.StaticTypes.{type_of, type_where_bound}
use Rattle.td_check.proofs.CheckedNames.{names_twice, no_names}
use Rattle.td_tree.specs.declared.expression.NamedExpr.{NamedExpr}
use Rattle.td_tree.specs.declared.fault.Fault.{Fault}
use Rattle.td_tree.specs.model.Outcomes.{Answers, Outcome, Valued, Refused, with_value}
use Rattle.td_tree.specs.code.TreeViews.{named_view, tree_view}
use Rattle.td_types.specs.model.Headings.{has_attribute, has_name}
use Rattle.td_types.specs.model.Types.{Heading, Type', same_name}
use Rattle.td_types.proofs.OutcomeLaws.{valued_is, value_of_with}
use Rattle.td_types.proofs.Resolutions.{answers_still}

-- ---- one more heading

-- it is the innermost
within_more : (bounds : List Heading) (h : Heading) (s : Scope) → within_all (bounds ++ (h ∷ [])) s ≡ entered_with h (within_all bounds s)
within_more bounds h s =
    ap (λ hs. record { types = s.types; relvars = s.relvars; constraints = s.constraints; entered = hs ++ s.entered }) (reverse-append bounds (h ∷ []))

-- its attribute is bound too
bound_more : (n m : List ℕ) (t : Type') (bounds : List Heading) → is_bound m (bounds ++ (((n, t) ∷ []) ∷ [])) ≡ (same_name n m || is_bound m bounds)
bound_more n m t bounds =
    list_any-append (has_attribute m) bounds (((n, t) ∷ []) ∷ []) ∙ by_name (same_name n m) (is_bound m bounds)
  where
    by_name : (b c : Bool) → (c || (is_some (if b then Some t else None) || false)) ≡ (b || c)
    by_name true true = refl
    by_name true false = refl
    by_name false true = refl
    by_name false false = refl

-- an item that has one has a type
found_is : (bounds : List Heading) (s : Scope) (item : NamedExpr) (h : Heading) → bound_found bounds s item ≡ Valued h
    → (t : Type') × (type_of (within_all bounds s) (tree_view item.value) ≡ Valued t) × (h ≡ (item.name, t) ∷ [])
found_is bounds s item h e =
    let is = value_of_with (type_of (within_all bounds s) (tree_view item.value)) _ h e in
    (is.0, is.1, by_test is.0 (is_bound item.name bounds) is.2)
  where
    by_test : (t : Type') (b : Bool) → (if b then own.misfit else Valued ((item.name, t) ∷ [])) ≡ Valued h → h ≡ (item.name, t) ∷ []
    by_test t true f = absurd (cc)
    by_test t false f = sym (valued_is ((item.name, t) ∷ []) h f)

-- what stands behind the item stands within it too
behind_found : (bounds : List Heading) (s : Scope) (item : NamedExpr) (h : Heading) → bound_found bounds s item ≡ Valued h
    → behind_item item.name (type_of (within_all bounds s) (tree_view item.value)) (within_all bounds s) ≡ within_all (bounds ++ (h ∷ [])) s
behind_found bounds s item h e =
    let is = found_is bounds s item h e in
    ap (λ o. behind_item item.name o (within_all bounds s)) is.1 ∙ sym (within_more bounds ((item.name, is.0) ∷ []) s)
    ∙ ap (λ g. within_all (bounds ++ (g ∷ [])) s) (sym is.2)

-- ---- all of them

-- what stands behind the items has the type that it has within the headings that are found
typed_by_bounds : (s : Scope) (items : List NamedExpr) (before : List (List ℕ)) (bounds : List Heading) → ((n : List ℕ) → has_name n before ≡ is_bound n bounds)
    → (inside : Scope → Outcome Type')
    → type_where_bound before (within_all bounds s) (named_view items) inside ≡ with_value (bounds_found bounds s items) (λ bs. inside (within_all bs s))
typed_by_bounds s [] before bounds same inside = refl
typed_by_bounds s (item ∷ items) before bounds same inside =
    by_type (type_of (within_all bounds s) (tree_view item.value)) (has_name item.name before) (is_bound item.name bounds) (same item.name) (λ t.
    ap (λ u. type_where_bound (item.name ∷ before) u (named_view items) inside) (sym (within_more bounds ((item.name, t) ∷ []) s))
    ∙ typed_by_bounds s items (item.name ∷ before) (bounds ++ (((item.name, t) ∷ []) ∷ []))
    (λ m. ap (λ b. same_name item.name m || b) (same m) ∙ sym (bound_more item.name m t bounds)) inside)
  where
    next : Type' → Outcome Type'
    next t = type_where_bound (item.name ∷ before) (bound_to item.name t (within_all bounds s)) (named_view items) inside

    then_found : Outcome Heading → Outcome Type'
    then_found o = with_value (with_value o (λ h. bounds_found (bounds ++ (h ∷ [])) s items)) (λ bs. inside (within_all bs s))

    by_type : (o : Outcome Type') (b c : Bool) → b ≡ c → ((t : Type') → next t ≡ then_found (Valued ((item.name, t) ∷ [])))
        → with_value o (λ t. if b then own.misfit else next t) ≡ then_found (with_value o (λ t. if c then own.misfit else Valued ((item.name, t) ∷ [])))
    by_type (Refused cs) b c e rest = refl
    by_type (Valued t) true true e rest = refl
    by_type (Valued t) false false e rest = rest t
    by_type (Valued t) true false e rest = absurd (cc)
    by_type (Valued t) false true e rest = absurd (cc)

pub typed_behind : (s : Scope) (items : List NamedExpr) (inside : Scope → Outcome Type')
    → type_where_bound [] s (named_view items) inside ≡ with_value (bounds_found [] s items) (λ bs. inside (within_all bs s))
typed_behind s items inside = typed_by_bounds s items [] [] (λ n. refl) inside

-- and mentions the relvars that it mentions there
mentioned_by_bounds : (s : Scope) (items : List NamedExpr) (bounds bs : List Heading) (inside : Scope → List (List ℕ)) → bounds_found bounds s items ≡ Valued bs
    → relvars_where_bound (within_all bounds s) (named_view items) inside
    ≡ relvars_where_bound (within_all bounds s) (named_view items) (λ _. []) ++ inside (within_all bs s)
mentioned_by_bounds s [] bounds bs inside e = ap (λ hs. inside (within_all hs s)) (valued_is bounds bs e)
mentioned_by_bounds s (item ∷ items) bounds bs inside e =
    let is = value_of_with (bound_found bounds s item) (λ h. bounds_found (bounds ++ (h ∷ [])) s items) bs e in
    let own_relvars = relvars_in (within_all bounds s) (tree_view item.value) in
    let place = behind_found bounds s item is.0 is.1 in
    ap (λ t. own_relvars ++ relvars_where_bound t (named_view items) inside) place
    ∙ ap (λ ns. own_relvars ++ ns) (mentioned_by_bounds s items (bounds ++ (is.0 ∷ [])) bs inside is.2)
    ∙ sym (append_assoc own_relvars (relvars_where_bound (within_all (bounds ++ (is.0 ∷ [])) s) (named_view items) (λ _. [])) (inside (within_all bs s)))
    ∙ ap (λ t. (own_relvars ++ relvars_where_bound t (named_view items) (λ _. [])) ++ inside (within_all bs s)) (sym place)

pub mentioned_behind : (s : Scope) (items : List NamedExpr) (bs : List Heading) (inside : Scope → List (List ℕ)) → bounds_found [] s items ≡ Valued bs
    → relvars_where_bound s (named_view items) inside ≡ relvars_where_bound s (named_view items) (λ _. []) ++ inside (within_all bs s)
mentioned_behind s items bs inside e = mentioned_by_bounds s items [] bs inside e

-- ---- one item after another

-- what is found and mentioned in all is what is found and mentioned in the rest, behind the headings so far
pub record IsLeft (s : Scope) (items : List NamedExpr) (start : Names) (bounds : List Heading) (rest : List NamedExpr) (seen : Names) : Type 0 where
  pub found : bounds_found [] s items ≡ bounds_found bounds s rest
  pub names :
      with_names start (relvars_where_bound s (named_view items) (λ _. [])) (types_in_named (named_view items))
      ≡ with_names seen (relvars_where_bound (within_all bounds s) (named_view rest) (λ _. [])) (types_in_named (named_view rest))

pub all_left : (s : Scope) (items : List NamedExpr) (start : Names) → IsLeft s items start [] items start
all_left s items start = record { found = refl; names = refl }

item_first : (xs : List NamedExpr) (i : ℕ) (x : NamedExpr) → i < length xs → x ≡ get_or xs i x → drop i xs ≡ x ∷ drop (i + 1) xs
item_first xs i x inside is = drop_more xs i x inside ∙ ap (λ y. y ∷ drop (i + 1) xs) (sym is)

module _ (s : Scope) (items : List NamedExpr) (start : Names) (bounds : List Heading) (i : ℕ) (seen : Names)
    (left : IsLeft s items start bounds (drop i items) seen) where
  module _ (item : NamedExpr) (inside : i < length items) (is : item ≡ get_or items i item) where
    left_here : IsLeft s items start bounds (item ∷ drop (i + 1) items) seen
    left_here = subst (λ ys. IsLeft s items start bounds ys seen) (item_first items i item inside is) left

    -- once past it
    pub one_found : (later : Names) (h : Heading) → bound_found bounds s item ≡ Valued h
        → later ≡ with_names seen (relvars_in (within_all bounds s) (tree_view item.value)) (types_in (tree_view item.value))
        → IsLeft s items start (bounds ++ (h ∷ [])) (drop (i + 1) items) later
    one_found later h found more =
        let rest = named_view (drop (i + 1) items) in
        let value = tree_view item.value in
        let relvars = relvars_in (within_all bounds s) value in
        let place = behind_found bounds s item h found in
        record {
          found = left_here.found ∙ ap (λ o. with_value o (λ g. bounds_found (bounds ++ (g ∷ [])) s (drop (i + 1) items))) found;
          names = left_here.names ∙ ap (λ t. with_names seen (relvars ++ relvars_where_bound t rest (λ _. [])) (types_in value ++ types_in_named rest)) place
              ∙ sym (names_twice seen relvars (types_in value) (relvars_where_bound (within_all (bounds ++ (h ∷ [])) s) rest (λ _. [])) (types_in_named rest))
              ∙ ap (λ n. with_names n (relvars_where_bound (within_all (bounds ++ (h ∷ [])) s) rest (λ _. [])) (types_in_named rest)) (sym more);
        }

    -- where it is refused
    pub one_refused : (e : Fault) → Answers {X = Heading} (λ h. h) (Err e) (bound_found bounds s item)
        → Answers {X = Vec Heading} (λ b. b.items) (Err e) (bounds_found [] s items)
    one_refused e a =
        subst (Answers {X = Vec Heading} (λ b. b.items) (Err e)) (sym left_here.found)
        (answers_still {X = Heading} {Y = Vec Heading} (λ h. h) (λ b. b.items) e (bound_found bounds s item) (λ g. bounds_found (bounds ++ (g ∷ [])) s (drop (i + 1) items)) a)

  -- once past them all
  module _ (past : length items ≤ i) where
    none_left : IsLeft s items start bounds [] seen
    none_left = subst (λ ys. IsLeft s items start bounds ys seen) (drop_all i items past) left

    pub all_found : bounds_found [] s items ≡ Valued bounds
    all_found = none_left.found

    pub all_mentioned : seen ≡ with_names start (relvars_where_bound s (named_view items) (λ _. [])) (types_in_named (named_view items))
    all_mentioned = no_names seen ∙ sym none_left.names
