use Rattle.std.proofs.Common.{◌∙◌, ap, sym}
use Rattle.std.specs.List.{list_any}
use Rattle.td_check.proofs.NameSets.{names_are_a_set}
use Rattle.td_check.specs.model.Mentions.{name_set}
use Rattle.td_check.specs.laws.WrittenNames.{names_in}
use Rattle.td_engine.proofs.code_lemmas.NamesAmong.{none_among}
use Rattle.td_tree.specs.code.TreeViews.{tree_view}
use Rattle.td_types.specs.model.Headings.{has_name}
use Rattle.td_engine.proofs.added.may_name.Goals as goal

pub returns-in-Ok : goal.returns-in-Ok
returns-in-Ok c = λ none.
    let ns = names_in (tree_view c.args.expr.now) in
    none_among c.args.reached.now (name_set ns) ns (names_are_a_set ns)
    (ap (list_any (λ n. has_name n c.args.reached.now)) (sym (c.new.ensures ∙ c.in-Ok.ensures.names)) ∙ sym c.have_common-in-Ok.ensures ∙ none)
