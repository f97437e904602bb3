use Rattle.std.proofs.Common.{◌≡◌, drop}
use Rattle.std.specs.List.{list_any}
use Rattle.td_types.specs.model.Headings.{has_name}
use Rattle.td_catalog.proofs.marked_names.have_common.Given as goal

abbrev pub invariant-loop-name : goal.invariant-loop-name
invariant-loop-name l = list_any (λ n. has_name n l.others) (drop l.name-index l.names) ≡ list_any (λ n. has_name n l.others) l.names
