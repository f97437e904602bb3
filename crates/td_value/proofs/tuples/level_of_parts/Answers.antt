use Rattle.std.proofs.Common.{◌≡◌, ◌≤◌, ◌+◌, List, [], ◌∷◌, length, arith, ◌==◌, ◌∙◌, false, sym, true≢false}
use Rattle.td_value.specs.model.Values.{Val, pack_parts}
use Rattle.td_value.specs.code.Depths.{parts_depth}
use Rattle.td_value.proofs.tuples.level_of_parts.Goals as goal

-- values that hold no others
of_flat : (vs : List Val) → false ≡ (length vs == 0) → parts_depth (pack_parts vs) ≤ 1 → parts_depth (pack_parts vs) + 2 ≡ 3
of_flat [] e h = absurd (true≢false (sym e))
of_flat (v ∷ vs) e h = omega (arith, h)

pub returns-then-are_flat : goal.returns-then-are_flat
returns-then-are_flat c = λ _. of_flat c.args.values.now (sym c.if-not-is_empty.true ∙ c.is_empty.ensures) (c.are_flat.ensures c.if-are_flat.true)
