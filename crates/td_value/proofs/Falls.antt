-- The values of a tuple are less deep than it is, in the sizes by which recursions over them end.
use denote.Param.Weighed.{most}
use Rattle.std.proofs.Common.{◌≡◌, ◌≤◌, ◌*◌, List, [], ◌∷◌, arith, sym, subst}
use Rattle.td_value.specs.declared.relation.Rel.TheDeep.{size-Value}
use Rattle.td_value.specs.model.Values.{Tuple, Val}
use Rattle.td_value.specs.code.Depths.{tuple_depth}
use Rattle.td_value.specs.code.Views.{values_of}

values_sizes : (t : Tuple) → most (λ x. size-Value x) (values_of t) ≤ 2 * tuple_depth t
values_sizes [] = omega arith
values_sizes (f ∷ t) = omega (arith, values_sizes t)

pub values_fall : (t : Tuple) (vs : List Val) → vs ≡ values_of t → most (λ x. size-Value x) vs ≤ 2 * tuple_depth t
values_fall t vs e = subst (λ xs. most (λ x. size-Value x) xs ≤ 2 * tuple_depth t) (sym e) (values_sizes t)
