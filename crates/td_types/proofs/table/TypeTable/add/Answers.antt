use Rattle.std.proofs.Common.{◌∙◌, ap, subst, sym}
use Rattle.std.specs.Prelude.{option_map}
use Rattle.td_tree.specs.model.Names.{IsName}
use Rattle.td_tree.specs.code.TreeViews.{tree_view}
use Rattle.td_types.specs.code.Pairs.{ArePairs}
use Rattle.td_types.specs.code.Tables.{IsTable, kept_rank, rows_view}
use Rattle.td_types.specs.model.TypeLists.{rank_of}
use Rattle.td_types.specs.model.Types.{pack, tuple}
use Rattle.td_types.specs.code.Views.{pairs_view}
use Rattle.td_types.proofs.Additions.{IsAddition, IsTable-added, view_added}
use Rattle.td_types.proofs.table.TypeTable.add.Goals as goal

module _ (c : goal.Joined-branch-4) where
  addition : IsAddition c.args.self.now c.args.name c.args.components.items (option_map tree_view c.args.constraint)
  addition =
      record {
        named = subst IsName c.name.view_is c.name.invariant;
        new = c.requires.new;
        has_component = c.requires.has_component;
        distinct = c.requires.distinct;
        known = c.requires.known;
        pairs = subst (λ ps. ArePairs (pairs_view ps)) c.deref.ensures.value c.reveal_all.ensures;
      }

pub invariant_of-self-2 : goal.invariant_of-self-2
invariant_of-self-2 c =
    let rank = c.components_rank-rank.ensures ∙ ap (λ ps. kept_rank (rank_of c.args.self.now (tuple (pack (pairs_view ps))))) c.deref-2.ensures.value in
    subst IsTable (sym c.in_ok-insert.ensures.entries)
    (IsTable-added c.args.self.now c.args.name c.args.components.items (option_map tree_view c.args.constraint) c.self.inside.rows c.in_ok-key.key
    c.in_ok-entry.entry c.components_rank-rank.result (addition c) c.self.view_is c.self.invariant c.in_ok-key.ensures c.in_ok-entry.ensures.ok rank)

pub returns-clause-added : goal.returns-clause-added
returns-clause-added c =
    ap rows_view c.in_ok-insert.ensures.entries
    ∙ view_added c.args.self.now c.args.name c.args.components.items (option_map tree_view c.args.constraint) c.self.inside.rows c.in_ok-key.key
    c.in_ok-entry.entry c.components_rank-rank.result (addition c) c.self.view_is c.self.invariant c.in_ok-key.ensures c.in_ok-entry.ensures.ok
