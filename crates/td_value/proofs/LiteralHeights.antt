-- The height of the tree that a value's literal spells, by the rank of the value's type.
use Rattle.std.proofs.Common.{◌≡◌, ◌∙◌, ℕ, ◌+◌, ◌*◌, ◌≤◌, List, [], ◌∷◌, ap, sym, arith, pos, negsuc}
use Rattle.td_tree.specs.model.Heights.{highest, highest_named}
use Rattle.td_tree.specs.model.Outcomes.{Valued}
use Rattle.td_types.specs.model.TypeLists.{AreDeclared, DeclaredType, greatest_rank, rank_of, rank_over, user_ranks}
use Rattle.td_types.specs.model.Types.{Attribute, Attrs, no_attrs, attr, pack}
use Rattle.td_types.proofs.RankBounds.{greatest_of, heading_low, one_more, rank_positive, user_ranks_positive}
use Rattle.td_types.proofs.Ranks.{rank_of_declared}
use Rattle.td_value.specs.model.KnownValues.{AreOfTypes, HasHeading, HaveHeading}
use Rattle.td_value.specs.laws.LiteralTrees.{LiteralsAreLow, field_trees, part_trees, row_trees}
use Rattle.td_value.specs.model.Values.{boolean, integer, char, user, tuple, relation, Parts, no_parts, part, Fields, no_fields, field, Rows, no_rows, row}

mutual
  pub low : LiteralsAreLow
  low ds (boolean b) t k d h e = omega (arith, rank_positive ds t k e)
  low ds (integer (pos n)) t k d h e = omega (arith, rank_positive ds t k e)
  low ds (integer (negsuc n)) t k d h e = omega (arith, rank_positive ds t k e)
  low ds (char s) t k d h e = omega (arith, rank_positive ds t k e)
  low ds (user name ps) t k d h e =
      let whole = sym (rank_of_declared ds name h.1 d h.2) ∙ sym (ap (rank_of ds) h.0) ∙ e in
      let more = one_more (greatest_rank (user_ranks ds) (pack h.1.components)) k whole in
      omega (arith, more.2, parts_low ds ps h.1.components more.0 d h.3 more.1)
  low ds (tuple fs) t k d h e =
      let more = one_more (greatest_rank (user_ranks ds) h.0) k (sym (ap (rank_of ds) h.1) ∙ e) in
      omega (arith, more.2, fields_low ds fs h.0 more.0 d h.2 more.1)
  low ds (relation heading rs) t k d h e =
      let more = one_more (greatest_rank (user_ranks ds) heading) k (sym (ap (rank_of ds) h.0) ∙ e) in
      omega (arith, more.2, heading_low (user_ranks ds) heading more.0 (user_ranks_positive ds) more.1, rows_low ds rs heading more.0 d h.2 more.1)

  parts_low : (ds : List DeclaredType) (ps : Parts) (components : List Attribute) (k : ℕ) → AreDeclared ds → AreOfTypes ds ps components
      → greatest_rank (user_ranks ds) (pack components) ≡ Valued k → highest (part_trees ps) ≤ 2 * k
  parts_low ds no_parts [] k d h e = omega arith
  parts_low ds no_parts (a ∷ rest) k d h e = absurd h
  parts_low ds (part v ps) [] k d h e = absurd h
  parts_low ds (part v ps) (a ∷ rest) k d h e =
      let both = greatest_of (rank_over (user_ranks ds) a.1) (greatest_rank (user_ranks ds) (pack rest)) k e in
      omega (arith, both.4, low ds v a.1 both.0 d h.0 both.2, parts_low ds ps rest both.1 d h.1 both.3)

  fields_low : (ds : List DeclaredType) (fs : Fields) (heading : Attrs) (k : ℕ) → AreDeclared ds → HasHeading ds fs heading
      → greatest_rank (user_ranks ds) heading ≡ Valued k → highest_named (field_trees fs) ≤ 2 * k
  fields_low ds no_fields no_attrs k d h e = omega arith
  fields_low ds no_fields (attr m t rest) k d h e = absurd h
  fields_low ds (field n v fs) no_attrs k d h e = absurd h
  fields_low ds (field n v fs) (attr m t rest) k d h e =
      let both = greatest_of (rank_over (user_ranks ds) t) (greatest_rank (user_ranks ds) rest) k e in
      omega (arith, both.4, low ds v t both.0 d h.1 both.2, fields_low ds fs rest both.1 d h.2 both.3)

  rows_low : (ds : List DeclaredType) (rs : Rows) (heading : Attrs) (k : ℕ) → AreDeclared ds → HaveHeading ds rs heading
      → greatest_rank (user_ranks ds) heading ≡ Valued k → highest (row_trees rs) ≤ 2 * k + 1
  rows_low ds no_rows heading k d h e = omega arith
  rows_low ds (row fs rs) heading k d h e =
      omega (arith, fields_low ds fs heading k d h.0 e, rows_low ds rs heading k d h.1 e)
