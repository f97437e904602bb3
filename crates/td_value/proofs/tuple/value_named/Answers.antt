use Rattle.std.proofs.Common.{◌∙◌, Ok, Err, sym}
use Rattle.std.proofs.lemmas.Option.{slice_get_read}
use Rattle.td_value.proofs.Named.{searched}
use Rattle.td_value.proofs.tuple.value_named.Goals as goal

pub returns-in-Ok : goal.returns-in-Ok
returns-in-Ok c =
    let at = c.in-Ok in
    let values = c.args.values.now in
    let there = searched c.args.name.now c.args.names.now values (Ok at.place) c.requires.same c.requires.ascending
    at.ensures.bound at.ensures.position in
    sym (slice_get_read values _ at.place c.index-values-place.result c.requires.same at.ensures.bound c.index-values-place.is)
    ∙ there.0

pub returns-in-Err : goal.returns-in-Err
returns-in-Err c =
    let at = c.in-Err in
    let none = searched c.args.name.now c.args.names.now c.args.values.now (Err at.field-0) c.requires.same c.requires.ascending
    at.ensures.bound at.ensures.position in
    sym none.1
