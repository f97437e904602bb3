-- Pairs of a name and a type, as the code has them.
use Rattle.std.specs.Prelude.{ℕ, List}
use Rattle.std.specs.List.{AllByRecursion}
use Rattle.td_tree.specs.model.Names.{IsName}
use Rattle.td_types.specs.model.Types.{Attribute, Heading, IsType}
use Rattle.td_types.specs.code.Views.{type_view}
use Rattle.td_types.specs.declared.ty.Ty.{Ty}

-- what all such pairs are: names that are names, and types that are types
abbrev pub ArePairs : Heading → Type 0
ArePairs = AllByRecursion (λ a. IsName a.0 × IsType a.1)

-- the attribute that a pair of the code is
abbrev pub pair_view : List ℕ × Ty → Attribute
pair_view a = (a.0, type_view a.1)
