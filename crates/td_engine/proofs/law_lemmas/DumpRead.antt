-- The tokens of the dump of a legal database are read as the statements of its lines.
use Rattle.std.proofs.Common.{◌≡◌, ℕ, List, [], ◌∷◌, ◌++◌, ap, append-nil, append_assoc, map, refl, subst}
use Rattle.std.specs.List.{AllByRecursion, flat_map}
use Rattle.td_catalog.specs.model.Database.{BaseRelvar, Database, NamedConstraint, VirtualRelvar, database_scope}
use Rattle.td_catalog.specs.model.Dumps.{base_line, constraint_line, dump_text, type_line, virtual_line}
use Rattle.td_catalog.specs.model.TypedDatabases.{IsTypedBase}
use Rattle.td_check.proofs.StaticLaws.{types_are_known}
use Rattle.td_engine.specs.laws.Rebuilding.{DumpsAreRead, base_statement, constraint_statement, dump_statements, type_statement, virtual_statement}
use Rattle.td_engine.specs.model.Legality.{IsRuledBase, IsLegal, IsSpelledExpression, IsSpelledIf}
use Rattle.td_eval.proofs.law_lemmas.KnownRelvars.{fronted}
use Rattle.td_eval.proofs.law_lemmas.TypedDatabases.{all_at, fronts_keep}
use Rattle.td_tree.specs.model.Names.{IsName}
use Rattle.td_tree.specs.model.Trees.{Statement}
use Rattle.td_types.specs.model.TypeLists.{DeclaredType}
use Rattle.td_types.specs.model.Types.{IsHeading, pack, relation}
use Rattle.td_engine.proofs.law_lemmas.DumpFacts.{components_low, heading_is_low, heading_names, literal_spelled, typed_names}
use Rattle.td_engine.proofs.law_lemmas.DumpLines.{IsLine, base_line_is, constraint_line_is, type_line_is, virtual_line_is}
use Rattle.td_engine.proofs.law_lemmas.DumpScript.{IsScript, lines_first, no_line, script_reads}
use Rattle.td_tree.specs.model.WrittenTrees.{IsWritten}

-- ---- lists

module _ {A : Type 0} where
  -- what holds of each in its place holds of all
  all_in_place : (Q : A → Type 0) (xs : List A) → ((earlier later : List A) (x : A) → xs ≡ earlier ++ (x ∷ later) → Q x) → AllByRecursion Q xs
  all_in_place Q [] f = tt
  all_in_place Q (x ∷ xs) f = (f [] xs x refl, all_in_place Q xs (λ earlier later y e. f (x ∷ earlier) later y (ap (λ ys. x ∷ ys) e)))

  -- what holds of all holds of each
  one_in_place : (P : A → Type 0) (xs earlier later : List A) (x : A) → xs ≡ earlier ++ (x ∷ later) → AllByRecursion P xs → P x
  one_in_place P xs earlier later x e all = all_at P earlier x later (subst (AllByRecursion P) e all)

  names_of_each : (name : A → List ℕ) (xs : List A) → AllByRecursion IsName (map name xs) → AllByRecursion (λ x. IsName (name x)) xs
  names_of_each name [] all = tt
  names_of_each name (x ∷ xs) all = (all.0, names_of_each name xs all.1)

  regroup_lists : (xs ys zs ws : List A) → ((xs ++ ys) ++ zs) ++ ws ≡ xs ++ (ys ++ (zs ++ (ws ++ [])))
  regroup_lists xs ys zs ws = simp (append_assoc, append-nil)

-- the names of the first, and those behind them
names_parted : (ms ns : List (List ℕ)) → AllByRecursion IsName (ms ++ ns) → AllByRecursion IsName ms × AllByRecursion IsName ns
names_parted [] ns all = (tt, all)
names_parted (m ∷ ms) ns all = let others = names_parted ms ns all.1 in ((all.0, others.0), others.1)

-- the line of each of a list, and then the rest
each_first : {A : Type 0} (line : A → List ℕ) (meant : A → Statement) (xs : List A)
    → ((earlier later : List A) (x : A) → xs ≡ earlier ++ (x ∷ later) → IsLine (line x) (meant x))
    → {rest : List ℕ} {ss : List Statement} → IsScript rest ss → IsScript (flat_map line xs ++ rest) (map meant xs ++ ss)
each_first line meant xs at {rest} {ss} script = lines_first line meant xs (all_in_place (λ x. IsLine (line x) (meant x)) xs at) rest ss script

-- ---- the lines of a legal database

module _ (db : Database) (legal : IsLegal db) where
  type_line_at : (earlier later : List DeclaredType) (d : DeclaredType) → db.types ≡ earlier ++ (d ∷ later) → IsLine (type_line d) (type_statement d)
  type_line_at earlier later d e =
      let declarable = legal.typed.declared earlier later d e in
      type_line_is d declarable.named declarable.has_component (typed_names earlier d declarable)
      (components_low earlier d.components (legal.ranked earlier later d e))
      (one_in_place (λ (c : DeclaredType). IsSpelledIf c.constraint) db.types earlier later d e legal.spelled.types)

  relvars_named : AllByRecursion IsName (map (λ (r : BaseRelvar). r.name) db.bases) × AllByRecursion IsName (map (λ (v : VirtualRelvar). v.name) db.virtuals)
  relvars_named = names_parted (map (λ (r : BaseRelvar). r.name) db.bases) (map (λ (v : VirtualRelvar). v.name) db.virtuals) legal.typed.named

  base_line_at : (earlier later : List BaseRelvar) (r : BaseRelvar) → db.bases ≡ earlier ++ (r ∷ later) → IsLine (base_line r) (base_statement r)
  base_line_at earlier later r e =
      let base : IsTypedBase db.types r = one_in_place (IsTypedBase db.types) db.bases earlier later r e legal.typed.bases in
      let ruled : IsRuledBase db.types r = one_in_place (IsRuledBase db.types) db.bases earlier later r e legal.bases in
      let h = r.relation.heading in
      let names = names_of_each (λ (x : BaseRelvar). x.name) db.bases relvars_named.0 in
      base_line_is r (one_in_place (λ (x : BaseRelvar). IsName x.name) db.bases earlier later r e names) base.relation.2
      (heading_names h base.relation.2) base.relation (heading_is_low db.types h ruled.ranked)
      (literal_spelled db.types r.relation legal.typed.declared ruled.ranked base.relation base.known base.typed)

  -- the heading of a virtual relvar is one
  virtual_heading : (earlier later : List VirtualRelvar) (v : VirtualRelvar) → db.virtuals ≡ earlier ++ (v ∷ later) → IsHeading (pack v.heading)
  virtual_heading earlier later v e =
      let scope = (fronts_keep db legal.typed earlier (v ∷ later) e).scope_is in
      let written = one_in_place (λ (x : VirtualRelvar). IsWritten x.tree) db.virtuals earlier later v e legal.typed.written.virtuals in
      let typed = (legal.typed.virtuals earlier later v e).typed in
      (types_are_known.of_tree (database_scope (fronted db earlier)) v.tree (relation (pack v.heading)) scope written.0 typed).0

  virtual_line_at : (earlier later : List VirtualRelvar) (v : VirtualRelvar) → db.virtuals ≡ earlier ++ (v ∷ later)
      → IsLine (virtual_line v) (virtual_statement v)
  virtual_line_at earlier later v e =
      let names = names_of_each (λ (x : VirtualRelvar). x.name) db.virtuals relvars_named.1 in
      virtual_line_is v (one_in_place (λ (x : VirtualRelvar). IsName x.name) db.virtuals earlier later v e names)
      (heading_names v.heading (virtual_heading earlier later v e))
      (one_in_place (λ (x : VirtualRelvar). IsSpelledExpression x.tree) db.virtuals earlier later v e legal.spelled.virtuals)

  constraint_line_at : (earlier later : List NamedConstraint) (c : NamedConstraint) → db.constraints ≡ earlier ++ (c ∷ later)
      → IsLine (constraint_line c) (constraint_statement c)
  constraint_line_at earlier later c e =
      let names = names_of_each (λ (x : NamedConstraint). x.name) db.constraints legal.typed.constraints_named in
      constraint_line_is c (one_in_place (λ (x : NamedConstraint). IsName x.name) db.constraints earlier later c e names)
      (one_in_place (λ (x : NamedConstraint). IsSpelledExpression x.tree) db.constraints earlier later c e legal.spelled.constraints)

  dump_script : IsScript (dump_text db) (dump_statements db)
  unfolding dump_text
  dump_script =
      let constraints = each_first constraint_line constraint_statement db.constraints constraint_line_at no_line in
      let virtuals = each_first virtual_line virtual_statement db.virtuals virtual_line_at constraints in
      let bases = each_first base_line base_statement db.bases base_line_at virtuals in
      let types = each_first type_line type_statement db.types type_line_at bases in
      let bytes_are = regroup_lists (flat_map type_line db.types) (flat_map base_line db.bases)
      (flat_map virtual_line db.virtuals) (flat_map constraint_line db.constraints) in
      let meant_are = regroup_lists (map type_statement db.types) (map base_statement db.bases)
      (map virtual_statement db.virtuals) (map constraint_statement db.constraints) in
      rw (bytes_are, meant_are) types

-- so the statements of the dump are read as these
pub dumps_read : DumpsAreRead
dumps_read db legal = script_reads (dump_text db) (dump_statements db) (dump_script db legal)
