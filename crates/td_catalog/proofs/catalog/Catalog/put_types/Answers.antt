use Rattle.std.proofs.Common.{◌≡◌, ◌∙◌, ◌++◌, ℕ, List, None, Option, Some, ap, option_map, string_bytes}
use Rattle.td_catalog.specs.code.KeptDatabases.{CatalogView}
use Rattle.std.specs.List.{slice_get}
use Rattle.td_catalog.specs.model.Database.{Database}
use Rattle.td_catalog.specs.model.Dumps.{type_line}
use Rattle.td_catalog.proofs.Lines.{line_put}
use Rattle.td_catalog.proofs.catalog.Catalog.put_types.Goals as goal
use Rattle.td_types.specs.model.TypeLists.{DeclaredType, declared_type}

-- the name and the type that stand at one place
named_as : (name : List ℕ) (d : DeclaredType) (o : Option DeclaredType) → Some name ≡ option_map (λ (x : DeclaredType). x.name) o → Some d ≡ o → name ≡ d.name
named_as name d None e f = absurd (cc)
named_as name d (Some x) e f =
    let first : name ≡ x.name = cc in
    let same : x ≡ d = cc in
    first ∙ ap (λ (y : DeclaredType). y.name) same

-- a line of the same name
same_line : (name : List ℕ) (d : DeclaredType) (out after : List ℕ) → name ≡ d.name
    → after ≡ out ++ type_line (declared_type name d.components d.constraint) → after ≡ out ++ type_line d
same_line name d out after same is = is ∙ ap (λ n. out ++ type_line (declared_type n d.components d.constraint)) same

pub loop-place-preserved : goal.loop-place-preserved
loop-place-preserved g c =
    let name = c.in-Some-Some.name.now in
    let d = c.in-Some-Some.entry.now in
    let before = string_bytes c.args.out.now in
    let out = string_bytes c.loop-place.out in
    let after = string_bytes c.put_declared.new.out in
    let same = named_as name d (slice_get c.self.inside.tables.types c.loop-place.place) c.in-Some-Some.ensures c.in-Some-Some.ensures' in
    line_put type_line c.args.self.now.database.types c.loop-place.place before out c.loop-place.invariant d after
    (c.in-Some-Some.ensures' ∙ ap (λ (db : Database). slice_get db.types c.loop-place.place) (ap (λ (v : CatalogView). v.database) c.self.view_is))
    (same_line name d out after same c.in_ok-put_declared.ensures)
