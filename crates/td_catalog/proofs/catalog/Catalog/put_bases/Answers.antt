use Rattle.std.proofs.Common.{◌≡◌, ◌∙◌, ◌++◌, ℕ, List, ap, map, string_bytes}
use Rattle.td_catalog.specs.code.CatalogViews.{base_view}
use Rattle.td_catalog.specs.model.Database.{base_relvar}
use Rattle.td_catalog.specs.model.Dumps.{base_line}
use Rattle.td_catalog.proofs.Lines.{line_put}
use Rattle.td_catalog.proofs.catalog.Catalog.put_bases.Goals as goal
use Rattle.td_value.specs.model.Values.{Relation}

-- a line of the same keys and of the same relation
same_line : (name : List ℕ) (given keys : List (List (List ℕ))) (held relation : Relation) (out after : List ℕ) → given ≡ keys → held ≡ relation
    → after ≡ out ++ base_line (base_relvar name given held) → after ≡ out ++ base_line (base_relvar name keys relation)
same_line name given keys held relation out after same_keys same_relation is =
    is ∙ ap (λ ks. out ++ base_line (base_relvar name ks held)) same_keys ∙ ap (λ r. out ++ base_line (base_relvar name keys r)) same_relation

pub loop-place-preserved : goal.loop-place-preserved
loop-place-preserved g c =
    let name = c.in-Some.name.now in
    let entry = c.in-Some.entry.now in
    let before = string_bytes c.args.out.now in
    let out = string_bytes c.loop-place.out in
    let after = string_bytes c.put_base-in-loop-place.new.out in
    line_put base_line c.args.self.now.database.bases c.loop-place.place before out c.loop-place.invariant (base_view g.B.Body.relation (name, entry)) after c.in-Some.ensures
    (same_line name (map (λ key. key.items) c.deref.result.now) (map (λ key. key.items) entry.keys.items) c.in_ok-to_rel.field-0 (g.B.Body.relation entry.body) out after
    (ap (map (λ key. key.items)) c.deref.ensures.value) c.in_ok-to_rel.ensures c.in_ok-put_base.ensures)
