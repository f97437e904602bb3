use Rattle.std.proofs.Common.{◌∙◌, ap}
use Rattle.td_types.specs.model.TypeLists.{declared_place}
use Rattle.td_types.proofs.Tables.{found_place}
use Rattle.td_types.proofs.table.TypeTable.place.Goals as goal

pub returns : goal.returns
returns c =
    c.get_index_of.ensures.index ∙ found_place c.args.name.now c.self.inside.rows.entries c.self.invariant.named
    ∙ ap (declared_place c.args.name.now) c.self.view_is
