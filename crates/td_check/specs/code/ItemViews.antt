-- What the items of SUMMARIZE that the code has stand for.
use Rattle.std.specs.Prelude.{ℕ, List, map}
use Rattle.td_check.specs.model.OperatorTypes as rules
use Rattle.td_check.specs.declared.rules.lists.Item.{Item}
use Rattle.td_check.specs.declared.rules.lists.Item.TheVariants.{Count, Of}
use Rattle.td_types.specs.code.Views.{type_view}

abbrev pub summary_item_view : Item → rules.Item
summary_item_view Count = rules.count_item
summary_item_view (Of op value) = rules.aggregate_item op (type_view value)

-- with the name of the attribute that it adds
abbrev pub named_item_view : List ℕ × Item → List ℕ × rules.Item
named_item_view item = (item.0, summary_item_view item.1)

abbrev pub items_view : List (List ℕ × Item) → List (List ℕ × rules.Item)
items_view = map named_item_view
