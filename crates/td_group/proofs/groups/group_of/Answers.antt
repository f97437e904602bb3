use Rattle.std.proofs.Common.{◌∙◌, ap, filter}
use Rattle.td_algebra.specs.code.Lookups.{has_part, part_of}
use Rattle.td_group.proofs.Keyed.{kept_ascends, kept_headed}
use Rattle.td_group.proofs.groups.group_of.Goals as goal

pub with_body-requires-clause-headed : goal.with_body-requires-clause-headed
with_body-requires-clause-headed c =
    let test = has_part c.args.lookup.now.0 (part_of c.args.places.now c.args.tuple.now) in
    kept_headed test c.args.rel.now.heading c.in_ok-rows.rows.items c.args.rel.now.body (c.in_ok-rows.ensures ∙ ap (filter test) c.requires.rows) c.reveal.ensures.headed

pub with_body-requires-clause-ascending : goal.with_body-requires-clause-ascending
with_body-requires-clause-ascending c =
    let test = has_part c.args.lookup.now.0 (part_of c.args.places.now c.args.tuple.now) in
    kept_ascends test c.in_ok-rows.rows.items c.args.rel.now.body (c.in_ok-rows.ensures ∙ ap (filter test) c.requires.rows) c.reveal.ensures.ascending
