use Rattle.std.proofs.Common.{ap, map, sym, ◌∙◌}
use Rattle.td_catalog.specs.code.CatalogViews.{base_heading, virtual_heading}
use Rattle.td_catalog.proofs.Changes.{catalog_empty}
use Rattle.td_catalog.proofs.Steps.{kept_none}
use Rattle.td_catalog.proofs.catalog.Catalog.new.Goals as goal

pub invariant_of-result : goal.invariant_of-result
invariant_of-result g c =
    kept_none g.B.Body.relation g.B.Body.keys g.B.Body.kept
    (record { types = c.new.result; bases = c.new-2.result; virtuals = c.new-3.result; constraints = c.new-4.result; declared = c.new-5.result }) c.new-6.result.steps.items c.new-6.ensures
    (catalog_empty g.B.Body.relation g.B.Body.keys
    (record { types = c.new.result; bases = c.new-2.result.entries; virtuals = c.new-3.result.entries; constraints = c.new-4.result.entries }) c.new.ensures
    c.new-2.ensures.empty c.new-3.ensures.empty c.new-4.ensures.empty)
    (λ i. record {
      bases = (c.new-5.ensures.bases ∙ ap (map base_heading) (sym c.new-2.ensures.empty)) i;
      virtuals = (c.new-5.ensures.virtuals ∙ ap (map virtual_heading) (sym c.new-3.ensures.empty)) i;
      constraints = (c.new-5.ensures.constraints ∙ ap (map (λ row. row.0)) (sym c.new-4.ensures.empty)) i;
    })
