use Rattle.std.proofs.Common.{◌≡◌, ◌++◌, drop, false, string_bytes}
use Rattle.td_catalog.specs.model.Dumps.{names_text}
use Rattle.td_catalog.proofs.dump.put_names.Given as goal

abbrev pub invariant-loop-name : goal.invariant-loop-name
invariant-loop-name l =
    string_bytes l.out ++ names_text l.later (drop l.name-index l.names) ≡ string_bytes l.initial.out ++ names_text false l.names
