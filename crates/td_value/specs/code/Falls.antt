-- Each value inside a value is less deep.
use Rattle.std.specs.Prelude.{ℕ, ◌≤◌, ◌+◌, max, List, [], ◌∷◌}
use Rattle.std.proofs.Common.{arith}
use Rattle.td_value.specs.code.Depths.{depth, parts_depth, rows_depth, tuple_depth}
use Rattle.td_value.specs.model.Values.{Val, Tuple, pack_parts, pack_rows}
use Rattle.td_value.specs.declared.value.Node.{Node}
use Rattle.td_value.specs.declared.value.Node.TheVariants.{Bool, Int, Text, User, Tup, Rel}
use Rattle.td_value.specs.declared.relation.Rel.TheDeep.{deep-Node}
use Rattle.td_value.specs.code.Views.{node_view}
use denote.Param.Weighed.{most}

pub parts_fall : (vs : List Val) → max (most (λ v. depth v + 1) vs) 0 ≤ parts_depth (pack_parts vs)
parts_fall [] = omega arith
parts_fall (v ∷ vs) = omega (arith, parts_fall vs)

pub node_falls : (n : Node) → max (deep-Node n) 0 ≤ depth (node_view n)
node_falls (Bool b) = omega arith
node_falls (Int z) = omega arith
node_falls (Text s) = omega arith
node_falls (User u) = omega arith
node_falls (Tup t) = omega arith
node_falls (Rel r) = omega arith

-- no value of the list nests deeper than the row does, so none that the block holds does
pub block_falls : (vs : List Val) (n : ℕ) → parts_depth (pack_parts vs) ≤ n → max (max (most (λ v. depth v + 1) vs) 0) 0 ≤ n
block_falls vs n h = omega (arith, parts_fall vs, h)

rows_fall : (ts : List Tuple) → most (λ t. tuple_depth t + 1) ts ≤ rows_depth (pack_rows ts)
rows_fall [] = omega arith
rows_fall (t ∷ ts) = omega (arith, rows_fall ts)

pub relation_falls : (ts : List Tuple) → max (most (λ t. tuple_depth t + 1) ts) 0 ≤ rows_depth (pack_rows ts)
relation_falls ts = omega (arith, rows_fall ts)
