use Rattle.std.proofs.Common.{◌≡◌, ◌∙◌, ◌++◌, ℕ, List, [], ap}
use Rattle.std.specs.List.{flat_map}
use Rattle.td_catalog.specs.model.Database.{Database}
use Rattle.td_catalog.specs.model.Dumps.{base_line, constraint_line, dump_text, type_line, virtual_line}
use Rattle.td_catalog.proofs.catalog.Catalog.dump_text.Goals as goal

-- the four lists, one put behind another
dumped : (db : Database) (start types bases virtuals all : List ℕ) → start ≡ [] → types ≡ start ++ flat_map type_line db.types
    → bases ≡ types ++ flat_map base_line db.bases → virtuals ≡ bases ++ flat_map virtual_line db.virtuals
    → all ≡ virtuals ++ flat_map constraint_line db.constraints → all ≡ dump_text db
unfolding dump_text
dumped db start types bases virtuals all none first second third last =
    last
    ∙ ap (λ text. text ++ flat_map constraint_line db.constraints) (
    third
    ∙ ap (λ text. text ++ flat_map virtual_line db.virtuals)
    (second ∙ ap (λ text. text ++ flat_map base_line db.bases) (first ∙ ap (λ text. text ++ flat_map type_line db.types) none))
    )

pub returns : goal.returns
returns g c =
    dumped c.args.self.now.database _ _ _ _ _ c.new-out.ensures.bytes c.in_ok-put_types.ensures c.in_ok-put_bases.ensures c.in_ok-put_virtuals.ensures
    c.in_ok-put_constraints.ensures
