use Rattle.std.proofs.Common.{◌≡◌, drop}
use Rattle.td_types.specs.model.Headings.{new_name}
use Rattle.td_types.proofs.rename.new_name.Given as goal

abbrev pub invariant-loop-old : goal.invariant-loop-old
invariant-loop-old l = new_name (drop l.old-index l.renamings) l.name ≡ new_name l.renamings l.name
