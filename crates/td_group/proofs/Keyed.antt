-- Rows by their keys.
use Rattle.std.proofs.Common.{◌≡◌, ◌∙◌, ap, sym, refl, subst, Bool, true, false, cond, List, [], ◌∷◌, ◌++◌, append-nil, map, Option, Some, None, Bor, Vec, unwrap_or, filter}
use Rattle.std.specs.HashMap.{HashMap, get}
use Rattle.std.specs.Bool.{Decides}
use Rattle.std.specs.Cmp.{IsTotalOrder}
use Rattle.std.specs.Ordering.{eq_by_cmp}
use Rattle.std.specs.declared.cmp.Ordering.{Ordering}
use Rattle.std.proofs.lemmas.List.{map-append}
use Rattle.std.proofs.lemmas.Cmp.{eq_by_cmp_equiv}
use Rattle.std.specs.List.{All}
use Rattle.std.proofs.lemmas.List.Elements.{All-filter}
use Rattle.std.proofs.lemmas.List.Kept.{IsStrictlySortedBy-filter}
use Rattle.td_types.specs.model.Headings.{new_names}
use Rattle.td_types.specs.model.Types.{Heading, attribute_names}
use Rattle.td_value.specs.model.Values.{IsAscendingBody, IsTupleOf, Tuple, tuple_cmp}
use Rattle.td_group.specs.model.Groups.{items_there}

-- one item more at a key
module _ {K X A S : Type 0} (R : K → K → Ordering) (o : IsTotalOrder R) (tell : (x y : K) → Decides (eq_by_cmp R x y) (x ≡ y)) (old mid new : HashMap K (Vec (Bor X) A) S)
    (key : K) (item : Bor X) (was : Option (Vec (Bor X) A)) (empty base rows : Vec (Bor X) A)
    (there : was ≡ get (eq_by_cmp R) old key) (nothing : empty.items ≡ []) (base_is : base ≡ unwrap_or was empty) (rows_are : rows.items ≡ base.items ++ item ∷ [])
    (out : (q : K) → get (eq_by_cmp R) mid q ≡ cond (eq_by_cmp R key q) None (get (eq_by_cmp R) old q))
    (back : (q : K) → get (eq_by_cmp R) new q ≡ cond (eq_by_cmp R key q) (Some rows) (get (eq_by_cmp R) mid q)) where
  grown : rows.items ≡ (unwrap_or (get (eq_by_cmp R) old key) empty).items ++ item ∷ []
  grown = rows_are ∙ ap (λ (v : Vec (Bor X) A). v.items ++ item ∷ []) (base_is ∙ ap (λ p. unwrap_or p empty) there)

  listed_or : (p : Option (Vec (Bor X) A)) → map (λ x. x.now) (unwrap_or p empty).items ≡ items_there p
  listed_or None = ap (map (λ x. x.now)) nothing
  listed_or (Some v) = refl

  at_key : items_there (get (eq_by_cmp R) new key) ≡ items_there (get (eq_by_cmp R) old key) ++ item.now ∷ []
  at_key =
      let own : eq_by_cmp R key key ≡ true = (eq_by_cmp_equiv o).refl key in
      let found : get (eq_by_cmp R) new key ≡ Some rows = back key ∙ rw own refl in
      ap items_there found ∙ ap (map (λ x. x.now)) grown
      ∙ map-append (λ (x : Bor X). x.now) (unwrap_or (get (eq_by_cmp R) old key) empty).items (item ∷ [])
      ∙ ap (λ xs. xs ++ item.now ∷ []) (listed_or (get (eq_by_cmp R) old key))

  pub grown_by_item : (q : K) → items_there (get (eq_by_cmp R) new q) ≡ items_there (get (eq_by_cmp R) old q) ++ (cond (eq_by_cmp R q key) (item.now ∷ []) [])
  grown_by_item q = by_test (eq_by_cmp R q key) refl
    where
      by_test : (b : Bool) → eq_by_cmp R q key ≡ b → items_there (get (eq_by_cmp R) new q) ≡ items_there (get (eq_by_cmp R) old q) ++ (cond b (item.now ∷ []) [])
      by_test true e = subst (λ k. items_there (get (eq_by_cmp R) new k) ≡ items_there (get (eq_by_cmp R) old k) ++ item.now ∷ []) (sym ((tell q key).0 e)) at_key
      by_test false e =
          let apart : eq_by_cmp R key q ≡ false = (eq_by_cmp_equiv o).symm key q ∙ e in
          let step : get (eq_by_cmp R) new q ≡ get (eq_by_cmp R) mid q = back q ∙ rw apart refl in
          let kept : get (eq_by_cmp R) mid q ≡ get (eq_by_cmp R) old q = out q ∙ rw apart refl in
          ap items_there (step ∙ kept) ∙ sym (append-nil (items_there (get (eq_by_cmp R) old q)))

-- ---- the rows of one key

pub kept_headed : (p : Tuple → Bool) (h : Heading) (kept rows : List Tuple) → kept ≡ filter p rows → All (IsTupleOf h) rows → All (IsTupleOf h) kept
kept_headed p h kept rows e all = subst (All (IsTupleOf h)) (sym e) (All-filter p (IsTupleOf h) rows all)

pub kept_ascends : (p : Tuple → Bool) (kept rows : List Tuple) → kept ≡ filter p rows → IsAscendingBody rows → IsAscendingBody kept
kept_ascends p kept rows e up = subst IsAscendingBody (sym e) (IsStrictlySortedBy-filter tuple_cmp p rows up)

-- no renaming changes no name
pub names_unchanged : (h : Heading) → new_names [] h ≡ attribute_names h
names_unchanged [] = refl
names_unchanged (a ∷ h) = ap (λ ns. a.0 ∷ ns) (names_unchanged h)
