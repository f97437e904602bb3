-- Where a sign ends an expression, its operand is all of it; a tuple at the front is an operand.
use Rattle.std.proofs.Common.{◌≡◌, ◌∙◌, ℕ, suc, true, List, ◌∷◌, Some, ap, refl, arith}
use Rattle.td_tree.specs.declared.keyword.Keyword.TheVariants as k
use Rattle.td_tree.specs.declared.operator.Level.{Level}
use Rattle.td_tree.specs.declared.operator.Level.TheVariants as levels
use Rattle.td_tree.specs.declared.token.Sign.TheVariants as signs
use Rattle.td_tree.specs.model.Lexemes.{Lexeme, keyword, sign}
use Rattle.td_tree.specs.model.Trees.{Tree}
use Rattle.td_parse.specs.code.Reading.{Read, binding, postfix_expression, postfixes, primary, primary_of_word, tuple, unary_expression}
use Rattle.td_parse.specs.code.ReadingOperators.{extraction_at, postfix_at, prefix_at}
use Rattle.td_parse.specs.code.ReadingSteps.{expect}
use Rattle.td_parse.specs.code.Lone.{behind_tuple, end_at}
use Rattle.td_parse.specs.code.Walking.{any_infix, infix_expression, not_at, tuple_operand, tuple_parts, walk, walk_from}
use Rattle.td_parse.proofs.Walks.{no_infix, restriction_walked, walk_ends}

module _ (inner : Level → List Lexeme → Read) (depth : ℕ) where
  -- no operator stands behind the operand
  pub ends_behind : (n : ℕ) (t : Tree) (ts : List Lexeme) → end_at ts ≡ true → postfixes inner depth (suc n) t ts ≡ Some (t, ts)
  unfolding end_at postfixes postfix_at
  ends_behind n t (sign signs.Comma ∷ ts) e = refl
  ends_behind n t (sign signs.CloseParenthesis ∷ ts) e = refl
  ends_behind n t (sign signs.CloseBrace ∷ ts) e = refl
  ends_behind n t _ e = absurd cc

  -- nor one between it and another
  pub ends_between : (least n most : ℕ) (t : Tree) (ts : List Lexeme) → end_at ts ≡ true → walk inner depth least (suc n) most t ts ≡ Some (t, ts)
  unfolding end_at any_infix
  ends_between least n most t (sign signs.Comma ∷ ts) e = walk_ends inner depth least (suc n) most t (sign signs.Comma ∷ ts) (omega arith) (no_infix least most (sign signs.Comma ∷ ts) refl)
  ends_between least n most t (sign signs.CloseParenthesis ∷ ts) e =
      walk_ends inner depth least (suc n) most t (sign signs.CloseParenthesis ∷ ts) (omega arith) (no_infix least most (sign signs.CloseParenthesis ∷ ts) refl)
  ends_between least n most t (sign signs.CloseBrace ∷ ts) e = walk_ends inner depth least (suc n) most t (sign signs.CloseBrace ∷ ts) (omega arith) (no_infix least most (sign signs.CloseBrace ∷ ts) refl)
  ends_between least n most t _ e = absurd cc

  -- an expression that begins with a tuple
  tuple_walked : (ts : List Lexeme) → binding inner depth (keyword k.Tuple ∷ (sign signs.OpenBrace ∷ ts)) ≡ walk_from inner depth levels.Restriction levels.Multiplicative (tuple_operand inner depth ts)
  unfolding expect binding infix_expression not_at unary_expression prefix_at extraction_at postfix_expression primary primary_of_word tuple tuple_operand tuple_parts
  tuple_walked ts = restriction_walked inner depth (keyword k.Tuple ∷ (sign signs.OpenBrace ∷ ts))

  pub tuple_binding : (ts after : List Lexeme) → behind_tuple ts ≡ Some after → binding inner depth ts ≡ walk_from inner depth levels.Restriction levels.Multiplicative (tuple_operand inner depth after)
  unfolding behind_tuple expect
  tuple_binding (keyword k.Tuple ∷ (sign signs.OpenBrace ∷ ts)) after e =
      let same : ts ≡ after = cc in
      tuple_walked ts ∙ ap (λ left. walk_from inner depth levels.Restriction levels.Multiplicative (tuple_operand inner depth left)) same
  tuple_binding _ after e = absurd cc
