-- What a lent world sees of relvars: the relations that are held, and the virtual relvars that are known.
use Rattle.std.proofs.Common.{◌≡◌, ◌∙◌, ◌<◌, ◌≤◌, ℕ, Bool, true, false, List, [], Option, Some, None, ap, arith, length, option_map, refl, sym}
use Rattle.std.specs.List.{position, slice_get}
use Rattle.std.specs.Option.{option_or}
use Rattle.std.proofs.lemmas.List.{length-take, take_all}
use Rattle.td_catalog.specs.model.Database.{BaseRelvar, Database, VirtualRelvar, base_named, with_virtuals}
use Rattle.td_eval.specs.model.DatabaseWorlds.{with_other, with_virtual_value, world_of, world_of_bases}
use Rattle.td_eval.specs.declared.lent_world.LentWorld.{LentWorld}
use Rattle.td_eval.specs.code.LentWorlds.{IsNoVirtualRelvar, IsVirtualRelvar, held_relation, other_named, other_seen, seen_by, with_first_virtuals}
use Rattle.td_eval.specs.model.TreeValues.{value_of}
use Rattle.td_eval.specs.model.Worlds.{World}
use Rattle.td_eval.proofs.code_lemmas.AddedInTurn.{found_there, placed, placed_first, placed_none, unplaced}
use Rattle.td_eval.proofs.code_lemmas.WorldParts.{base_value, relvar_at, virtual_name, virtual_value}
use Rattle.td_tree.specs.model.Outcomes.{Outcome, Valued}
use Rattle.td_tree.specs.model.Trees.{Tree}
use Rattle.td_types.specs.model.Types.{same_name}
use Rattle.td_value.specs.model.Values.{Val, Relation, relation_value}

-- a relation that a relvar has
abbrev pub as_outcome : Relation → Outcome Val
as_outcome r = Valued (relation_value r)

module _ (o : Option (List ℕ × Relation)) (db : Database) (k : ℕ) (n : List ℕ) where
  -- the relation that is held, and what is seen
  abbrev pub held_there : Option Relation
  held_there = option_or (other_named n o) (option_map (λ (b : BaseRelvar). b.relation) (base_named n db))

  abbrev pub seen_there : World
  seen_there = with_other o (world_of (with_first_virtuals k db))

-- where no other relation has the name, the relvar of the name is as it is without
without_other : (o : Option (List ℕ × Relation)) (w : World) (n : List ℕ) → other_named n o ≡ None → (with_other o w).relvar n ≡ w.relvar n
without_other None w n none = refl
without_other (Some p) w n none = by_test (same_name p.0 n) refl
  where
    by_test : (b : Bool) → same_name p.0 n ≡ b → (with_other (Some p) w).relvar n ≡ w.relvar n
    by_test true is = let clash : Some p.1 ≡ None = sym (rw is refl) ∙ none in absurd (cc)
    by_test false is = rw is refl

-- where one has, that is what the relvar has
with_this : (o : Option (List ℕ × Relation)) (w : World) (n : List ℕ) (r : Relation) → other_named n o ≡ Some r → (with_other o w).relvar n ≡ Some (as_outcome r)
with_this None w n r some = absurd (cc)
with_this (Some p) w n r some = by_test (same_name p.0 n) refl
  where
    by_test : (b : Bool) → same_name p.0 n ≡ b → (with_other (Some p) w).relvar n ≡ Some (as_outcome r)
    by_test true is =
        let same : Some p.1 ≡ Some r = sym (rw is refl) ∙ some in
        let one : p.1 ≡ r = cc in
        rw is (ap (λ q. Some (as_outcome q)) one)
    by_test false is = let clash : None ≡ Some r = sym (rw is refl) ∙ some in absurd (cc)

module _ (o : Option (List ℕ × Relation)) (db : Database) (k : ℕ) (n : List ℕ) where
  -- what is held is what the relvar has
  pub seen_held : (r : Relation) → held_there o db k n ≡ Some r → (seen_there o db k n).relvar n ≡ Some (as_outcome r)
  seen_held r held = by_other (other_named n o) refl
    where
      by_base : other_named n o ≡ None → (b : Option BaseRelvar) → base_named n db ≡ b → (seen_there o db k n).relvar n ≡ Some (as_outcome r)
      by_base none None is = let clash : None ≡ Some r = sym (rw (none, is) refl) ∙ held in absurd (cc)
      by_base none (Some b) is =
          let same : Some b.relation ≡ Some r = sym (rw (none, is) refl) ∙ held in
          let one : b.relation ≡ r = cc in
          without_other o (world_of (with_first_virtuals k db)) n none ∙ base_value (with_first_virtuals k db) n b is ∙ ap (λ q. Some (as_outcome q)) one

      by_other : (p : Option Relation) → other_named n o ≡ p → (seen_there o db k n).relvar n ≡ Some (as_outcome r)
      by_other (Some q) some =
          let same : Some q ≡ Some r = sym (rw some refl) ∙ held in
          with_this o (world_of (with_first_virtuals k db)) n r (some ∙ same)
      by_other None none = by_base none (base_named n db) refl

  -- where none is held, neither another relation nor a base relvar has the name
  unheld : held_there o db k n ≡ None → (other_named n o ≡ None) × ((world_of_bases db).relvar n ≡ None)
  unheld held = by_other (other_named n o) refl
    where
      by_base : other_named n o ≡ None → (b : Option BaseRelvar) → base_named n db ≡ b → (other_named n o ≡ None) × ((world_of_bases db).relvar n ≡ None)
      by_base none None is = (none, ap (option_map (λ (r : BaseRelvar). as_outcome r.relation)) is)
      by_base none (Some b) is = let clash : Some b.relation ≡ None = sym (rw (none, is) refl) ∙ held in absurd (cc)

      by_other : (p : Option Relation) → other_named n o ≡ p → (other_named n o ≡ None) × ((world_of_bases db).relvar n ≡ None)
      by_other (Some q) some = let clash : Some q ≡ None = sym (rw some refl) ∙ held in absurd (cc)
      by_other None none = by_base none (base_named n db) refl

  -- then it is a virtual relvar, if one that is known has the name
  pub seen_virtual : (p : ℕ) (tree : Tree) → held_there o db k n ≡ None → position (λ (v : VirtualRelvar). same_name v.name n) db.virtuals ≡ Some p → p < k
      → option_map (λ (v : VirtualRelvar). v.tree) (slice_get db.virtuals p) ≡ Some tree
      → (seen_there o db k n).relvar n ≡ Some (value_of (world_of (with_first_virtuals p db)) [] tree)
  seen_virtual p tree held place early entry =
      let free = unheld held in
      let there = placed virtual_name db.virtuals n p place in
      let found = found_there virtual_name db.virtuals n p there.0 there.1 in
      let same : Some found.0.tree ≡ Some tree = sym (ap (option_map (λ (v : VirtualRelvar). v.tree)) found.2) ∙ entry in
      let one : found.0.tree ≡ tree = cc in
      without_other o (world_of (with_first_virtuals k db)) n free.0
      ∙ placed_first relvar_at with_virtual_value virtual_name virtual_value (λ w v m. refl) db.virtuals (world_of_bases db) n k p found.0 free.1 there.0 found.2 early
      ∙ ap (λ t. Some (value_of (world_of (with_first_virtuals p db)) [] t)) one

  -- else nothing
  pub seen_none : held_there o db k n ≡ None → position (λ (v : VirtualRelvar). same_name v.name n) db.virtuals ≡ None → (seen_there o db k n).relvar n ≡ None
  seen_none held none =
      let free = unheld held in
      without_other o (world_of (with_first_virtuals k db)) n free.0
      ∙ placed_none relvar_at with_virtual_value virtual_name virtual_value (λ w v m. refl) db.virtuals (world_of_bases db) n k free.1
      (omega (arith, length-take k db.virtuals, unplaced virtual_name db.virtuals n none))

  pub seen_late : (p : ℕ) → held_there o db k n ≡ None → position (λ (v : VirtualRelvar). same_name v.name n) db.virtuals ≡ Some p → k ≤ p
      → (seen_there o db k n).relvar n ≡ None
  seen_late p held place late =
      let free = unheld held in
      let there = placed virtual_name db.virtuals n p place in
      without_other o (world_of (with_first_virtuals k db)) n free.0
      ∙ placed_none relvar_at with_virtual_value virtual_name virtual_value (λ w v m. refl) db.virtuals (world_of_bases db) n k free.1 (omega (arith, late, length-take k db.virtuals, there.0))

-- a virtual relvar stands at its place
pub never_missing : (n : List ℕ) (vs : List VirtualRelvar) (p : ℕ) → position (λ (v : VirtualRelvar). same_name v.name n) vs ≡ Some p
    → option_map (λ (v : VirtualRelvar). v.tree) (slice_get vs p) ≡ None → ⊥
never_missing n vs p place none =
    let there = placed virtual_name vs n p place in
    let found = found_there virtual_name vs n p there.0 there.1 in
    (let both : Some found.0.tree ≡ None = sym (ap (option_map (λ (v : VirtualRelvar). v.tree)) found.2) ∙ none in cc)

-- ---- of a lent world

module _ {B : Type 0} (lent : LentWorld B) (n : List ℕ) where
  -- what is held
  pub held_other : (c : _) → lent.catalog ≡ Some c → (r : Relation) → Some r ≡ other_named n (other_seen lent) → Some r ≡ held_relation lent n
  held_other c some r is = rw some (ap (λ o. option_or o (option_map (λ (b : BaseRelvar). b.relation) (base_named n c.now.database))) is)

  pub held_base : (c : _) → lent.catalog ≡ Some c → None ≡ other_named n (other_seen lent) → (b : BaseRelvar) → Some b ≡ base_named n c.now.database
      → Some b.relation ≡ held_relation lent n
  held_base c some none b is =
      rw some
      (ap (option_map (λ (b : BaseRelvar). b.relation)) is ∙ ap (λ o. option_or o (option_map (λ (b : BaseRelvar). b.relation) (base_named n c.now.database))) none)

  pub held_none : (c : _) → lent.catalog ≡ Some c → None ≡ other_named n (other_seen lent) → None ≡ base_named n c.now.database → None ≡ held_relation lent n
  held_none c some none is =
      rw some
      (ap (option_map (λ (b : BaseRelvar). b.relation)) is ∙ ap (λ o. option_or o (option_map (λ (b : BaseRelvar). b.relation) (base_named n c.now.database))) none)

  -- is what the relvar has
  pub held_seen : (r : Relation) → held_relation lent n ≡ Some r → (seen_by lent).relvar n ≡ Some (as_outcome r)
  held_seen r held = by_catalog lent.catalog refl
    where
      by_catalog : (c : _) → lent.catalog ≡ c → (seen_by lent).relvar n ≡ Some (as_outcome r)
      by_catalog None none = let clash : None ≡ Some r = sym (rw none refl) ∙ held in absurd (cc)
      by_catalog (Some catalog) some = rw some (seen_held (other_seen lent) catalog.now.database lent.virtuals n r (sym (rw some refl) ∙ held))

  pub is_virtual : (c : _) (p : ℕ) (tree : Tree) → lent.catalog ≡ Some c → position (λ (v : VirtualRelvar). same_name v.name n) c.now.database.virtuals ≡ Some p
      → p < lent.virtuals → option_map (λ (v : VirtualRelvar). v.tree) (slice_get c.now.database.virtuals p) ≡ Some tree → IsVirtualRelvar lent n p tree
  is_virtual c p tree some place early entry =
      record {
        known = early;
        entry = rw some entry;
        value = λ held. rw some (seen_virtual (other_seen lent) c.now.database lent.virtuals n p tree (rw some at held) place early entry);
      }

  pub is_none : (c : _) → lent.catalog ≡ Some c → position (λ (v : VirtualRelvar). same_name v.name n) c.now.database.virtuals ≡ None → IsNoVirtualRelvar lent n
  is_none c some none held = rw some (seen_none (other_seen lent) c.now.database lent.virtuals n (rw some at held) none)

  pub is_late : (c : _) (p : ℕ) → lent.catalog ≡ Some c → position (λ (v : VirtualRelvar). same_name v.name n) c.now.database.virtuals ≡ Some p → lent.virtuals ≤ p
      → IsNoVirtualRelvar lent n
  is_late c p some place late held = rw some (seen_late (other_seen lent) c.now.database lent.virtuals n p (rw some at held) place late)

  pub is_outside : lent.catalog ≡ None → IsNoVirtualRelvar lent n
  is_outside none held = rw none refl

-- ---- of a whole database

-- where all virtual relvars are known
pub all_known : (o : Option (List ℕ × Relation)) (db : Database) (k : ℕ) → k ≡ length db.virtuals
    → with_other o (world_of (with_first_virtuals k db)) ≡ with_other o (world_of db)
all_known o db k is = ap (λ vs. with_other o (world_of (with_virtuals vs db))) (take_all k db.virtuals (omega (arith, is)))
