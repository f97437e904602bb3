-- Each heading inside a heading is less deep, so that recursion over types ends.
use Rattle.std.specs.Prelude.{◌≤◌, max, List, [], ◌∷◌}
use Rattle.std.proofs.Common.{arith}
use Rattle.td_types.specs.code.Depths.{heading_depth, type_depth}
use Rattle.td_types.specs.declared.heading.Attribute.{Attribute}
use Rattle.td_types.specs.declared.ty.Ty.{Ty}
use Rattle.td_types.specs.declared.ty.Ty.TheVariants.{Bool, Int, Text, User, Tup, Rel}
use Rattle.td_types.specs.declared.heading.Heading.TheDeep.{deep-Ty, deep-Attribute}
use Rattle.td_types.specs.code.Views.{type_view, heading_view}
use denote.Param.Weighed.{most}

-- by the depth that the code's own structure has
pub type_falls : (t : Ty) → deep-Ty t ≤ type_depth (type_view t)
type_falls Bool = omega arith
type_falls Int = omega arith
type_falls Text = omega arith
type_falls (User n) = omega arith
type_falls (Tup h) = omega arith
type_falls (Rel h) = omega arith

pub attribute_falls : (a : Attribute) → deep-Attribute a ≤ type_depth (type_view a.ty)
attribute_falls a = omega (arith, type_falls a.ty)

pub attributes_fall : (xs : List Attribute) → max (most deep-Attribute xs) 0 ≤ heading_depth (heading_view xs)
attributes_fall [] = omega arith
attributes_fall (a ∷ xs) = omega (arith, attribute_falls a, attributes_fall xs)
