use Rattle.std.proofs.Common.{◌∙◌, sym}
use Rattle.td_catalog.proofs.Named.{next_name}
use Rattle.td_catalog.proofs.copy.copied_set.Goals as goal

pub loop-place-preserved : goal.loop-place-preserved
loop-place-preserved c =
    c.in_ok-insert.ensures.keys
    ∙ next_name c.args.names.now.keys c.loop-place.place c.in-Some.name.now c.in_ok-try_clone.field-0 c.loop-place.copy.keys c.requires c.loop-place.invariant c.in_ok-try_clone.ensures (sym c.in-Some.ensures.key)
