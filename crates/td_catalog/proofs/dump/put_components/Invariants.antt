use Rattle.std.proofs.Common.{◌≡◌, ◌++◌, drop, false, string_bytes}
use Rattle.td_types.specs.model.Texts.{attributes_text}
use Rattle.td_types.specs.model.Types.{pack}
use Rattle.td_types.specs.code.Views.{pairs_view}
use Rattle.td_catalog.proofs.dump.put_components.Given as goal

abbrev pub invariant-loop-name : goal.invariant-loop-name
invariant-loop-name l =
    string_bytes l.out ++ attributes_text l.later (pack (pairs_view (drop l.name-index l.components)))
    ≡ string_bytes l.initial.out ++ attributes_text false (pack (pairs_view l.components))
