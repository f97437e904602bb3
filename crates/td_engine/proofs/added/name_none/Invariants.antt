use Rattle.std.proofs.Common.{drop}
use Rattle.td_engine.specs.laws.Additions.{NameNone}
use Rattle.td_tree.specs.code.TreeViews.{named_view}
use Rattle.td_engine.proofs.added.name_none.Given as goal

abbrev pub invariant-loop-part : goal.invariant-loop-part
invariant-loop-part l = NameNone l.reached (named_view (drop l.part-index l.parts)) → NameNone l.reached (named_view l.parts)
