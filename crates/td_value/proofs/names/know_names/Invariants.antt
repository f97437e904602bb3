use Rattle.std.proofs.Common.{ℕ, List, ◌<◌, get_or}
use Rattle.td_tree.specs.model.Names.{IsName}
use Rattle.td_value.proofs.names.know_names.Given as goal

abbrev pub invariant-loop-name : goal.invariant-loop-name
invariant-loop-name l = (k : ℕ) (d : List ℕ) → k < l.name-index → IsName (get_or l.names k d)
