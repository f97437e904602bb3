use Rattle.std.proofs.Common.{◌∙◌, ap}
use Rattle.td_catalog.specs.model.Mentioned.{condition_mentions_type}
use Rattle.td_catalog.proofs.Searches.{condition_answered}
use Rattle.td_catalog.proofs.mentioned.constraint_mentions.Goals as goal
use Rattle.td_check.specs.model.Scopes.{entered_with}
use Rattle.td_tree.specs.code.TreeViews.{tree_view}
use Rattle.td_types.specs.model.Headings.{are_distinct, heading_from}
use Rattle.td_types.specs.model.Types.{attribute_names}

pub returns-in_default : goal.returns-in_default
returns-in_default c typed = ap (condition_mentions_type c.args.name.now) c.in_default.ensures

pub heading_of_components-requires : goal.heading_of_components-requires
heading_of_components-requires c = ap (λ xs. are_distinct (attribute_names xs)) c.components.ensures ∙ c.requires

pub returns : goal.returns
returns c typed =
    let heading = c.in_ok-heading_of_components.ensures ∙ ap heading_from c.components.ensures in
    condition_answered c.args.types.now c.args.entry.now c.args.name.now (tree_view c.in-Some.constraint.now) c.enter.new.self c.tree_mentions.result c.in-Some.ensures
    (c.in_ok-enter.ensures.entered ∙ (λ i. entered_with (heading i) (c.new-scope.ensures i))) typed c.tree_mentions.ensures
