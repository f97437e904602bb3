-- Which selectors the first types of a list have.
use Rattle.std.proofs.Common.{◌≡◌, ◌∙◌, ◌∷◌, ◌<◌, ◌≤◌, ℕ, Bool, true, false, List, [], Option, Some, None, ap, arith, refl, sym, take}
use Rattle.std.specs.List.{find}
use Rattle.std.proofs.lemmas.List.{length-take, take_all}
use Rattle.td_eval.specs.model.DatabaseWorlds.{Selectors, selector_value, selectors_of, types_alone, with_other, with_selector, world_of}
use Rattle.td_eval.specs.declared.lent_world.LentWorld.{LentWorld}
use Rattle.td_eval.specs.code.LentWorlds.{IsSelector, IsLentWorld, other_seen, seen_by, with_first_virtuals}
use Rattle.td_eval.specs.model.Worlds.{World}
use Rattle.td_eval.proofs.code_lemmas.AddedInTurn.{found_there, placed, placed_first, placed_none, unplaced}
use Rattle.td_eval.proofs.code_lemmas.WorldParts.{world_scope, world_selectors}
use Rattle.td_types.specs.model.TypeLists.{DeclaredType, declared_at, declared_place}
use Rattle.td_types.specs.model.Types.{same_name}
use Rattle.td_value.specs.model.Values.{Val, Relation}
use Rattle.td_tree.specs.model.Outcomes.{Outcome}

abbrev pub type_name : DeclaredType → List ℕ
type_name d = d.name

-- what a name finds
abbrev pub selector_at : Selectors → List ℕ → Option (List Val → Outcome Val)
selector_at f n = f n

-- what one more type adds
abbrev pub new_selector : List DeclaredType → Selectors → DeclaredType → List Val → Outcome Val
new_selector ds f d = selector_value (types_alone ds f) d

pub declared_found : (n : List ℕ) (ds : List DeclaredType) → declared_at n ds ≡ find (λ d. same_name d.name n) ds
declared_found n [] = refl
declared_found n (d ∷ ds) = by_test (same_name d.name n) refl (declared_found n ds)
  where
    by_test : (b : Bool) → same_name d.name n ≡ b → declared_at n ds ≡ find (λ c. same_name c.name n) ds
        → declared_at n (d ∷ ds) ≡ find (λ c. same_name c.name n) (d ∷ ds)
    by_test true is rest = rw is refl
    by_test false is rest = rw is rest

-- ---- what a lent world knows of types

-- another relation and virtual relvars change nothing of it
other_selectors : (o : Option (List ℕ × Relation)) (w : World) → (with_other o w).selector ≡ w.selector
other_selectors None w = refl
other_selectors (Some o) w = refl

pub other_scope : (o : Option (List ℕ × Relation)) (w : World) → (with_other o w).scope ≡ w.scope
other_scope None w = refl
other_scope (Some o) w = refl

-- the selectors that are seen are those of the first types
pub selectors_seen : {B : Type 0} (lent : LentWorld B) → IsLentWorld lent
    → (seen_by lent).selector ≡ selectors_of lent.types.now (take lent.selectors lent.types.now)
selectors_seen lent is = by_catalog lent.catalog refl
  where
    by_catalog : (c : _) → lent.catalog ≡ c → (seen_by lent).selector ≡ selectors_of lent.types.now (take lent.selectors lent.types.now)
    by_catalog None none = rw none refl
    by_catalog (Some catalog) some =
        let whole = rw some at is.catalog in
        let all : take lent.selectors lent.types.now ≡ lent.types.now = take_all lent.selectors lent.types.now (omega (arith, whole.1)) in
        rw (some, all, whole.0)
        (other_selectors (other_seen lent) (world_of (with_first_virtuals lent.virtuals catalog.now.database)) ∙ world_selectors (with_first_virtuals lent.virtuals catalog.now.database))

-- so are the types
pub types_seen : {B : Type 0} (lent : LentWorld B) → IsLentWorld lent → (seen_by lent).scope.types ≡ lent.types.now
types_seen lent is = by_catalog lent.catalog refl
  where
    by_catalog : (c : _) → lent.catalog ≡ c → (seen_by lent).scope.types ≡ lent.types.now
    by_catalog None none = rw none refl
    by_catalog (Some catalog) some =
        let whole = rw some at is.catalog in
        rw some
        (ap (λ s. s.types) (other_scope (other_seen lent) (world_of (with_first_virtuals lent.virtuals catalog.now.database)) ∙ world_scope (with_first_virtuals lent.virtuals catalog.now.database))
        ∙ sym whole.0)

-- ---- what is answered of a lent world

module _ {B : Type 0} (lent : LentWorld B) (n : List ℕ) (is : IsLentWorld lent) where
  abbrev all : List DeclaredType
  all = lent.types.now

  pub none_placed : declared_place n lent.types.now ≡ None → (seen_by lent).selector n ≡ None
  none_placed none =
      ap (λ s. s n) (selectors_seen lent is)
      ∙ placed_none selector_at (with_selector all) type_name (new_selector all) (λ f d m. refl) all (λ m. None) n lent.selectors refl
      (omega (arith, is.within, length-take lent.selectors all, unplaced type_name all n none))

  pub later_placed : (p : ℕ) → declared_place n lent.types.now ≡ Some p → lent.selectors ≤ p → (seen_by lent).selector n ≡ None
  later_placed p place late =
      let there = placed type_name all n p place in
      ap (λ s. s n) (selectors_seen lent is)
      ∙ placed_none selector_at (with_selector all) type_name (new_selector all) (λ f d m. refl) all (λ m. None) n lent.selectors refl
      (omega (arith, late, length-take lent.selectors all, there.0))

  pub is_selector : (p : ℕ) (d : DeclaredType) → declared_place n lent.types.now ≡ Some p → p < lent.selectors
      → declared_at n lent.types.now ≡ Some d → IsSelector lent n p d
  is_selector p d place early found =
      let there = placed type_name all n p place in
      let entry = found_there type_name all n p there.0 there.1 in
      let same : entry.0 ≡ d = some_type entry.0 d (sym entry.1 ∙ sym (declared_found n all) ∙ found) in
      record {
        known = early;
        entry = entry.2 ∙ ap Some same;
        named = sym (ap (λ t. t.name) same) ∙ entry.3;
        selector = ap (λ s. s n) (selectors_seen lent is)
            ∙ placed_first selector_at (with_selector all) type_name (new_selector all) (λ f t m. refl) all (λ m. None) n lent.selectors p d refl there.0
            (entry.2 ∙ ap Some same) early;
      }
    where
      some_type : (y z : DeclaredType) → Some y ≡ Some z → y ≡ z
      some_type y z e = cc

  pub never_missing : (p : ℕ) → declared_place n lent.types.now ≡ Some p → declared_at n lent.types.now ≡ None → ⊥
  never_missing p place none =
      let there = placed type_name all n p place in
      let entry = found_there type_name all n p there.0 there.1 in
      (let both : Some entry.0 ≡ None = sym entry.1 ∙ sym (declared_found n all) ∙ none in cc)
