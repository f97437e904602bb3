-- Where an expression ends: what goes on with none of a level's operators.
use Rattle.std.proofs.Common.{◌≡◌, true, false, List, [], ◌∷◌, ◌++◌, Some, None, refl}
use Rattle.td_tree.specs.declared.keyword.Keyword.TheVariants as k
use Rattle.td_tree.specs.declared.operator.Comparison.{Comparison}
use Rattle.td_tree.specs.declared.operator.Comparison.TheVariants as comparisons
use Rattle.td_tree.specs.declared.operator.Level.{Level}
use Rattle.td_tree.specs.declared.operator.Level.TheVariants as levels
use Rattle.td_parse.specs.declared.operators.Link.{Link}
use Rattle.td_tree.specs.declared.operator.Operator.TheVariants as operators
use Rattle.td_parse.specs.declared.operators.Link.TheVariants as links
use Rattle.td_tree.specs.declared.token.Sign.{Sign}
use Rattle.td_tree.specs.declared.token.Sign.TheVariants as signs
use Rattle.td_tree.specs.model.Grammar.{tighter, comparison_word, PostfixSpelling, projection, renamings, renamings_in_braces, grouping, wrapping, open_grouping, open_wrapping, ungrouping, unwrapping, AttributeListSpelling, only_names, all_but_names, loosest}
use Rattle.td_tree.specs.model.Grammar as grammar
use Rattle.td_tree.specs.model.Lexemes.{Lexeme, keyword, sign}
use Rattle.td_parse.specs.code.ReadingOperators.{link_level, link_words, any_link, link_at, comparison_at, postfix_at, call_at}
use Rattle.td_parse.specs.code.ReadingSteps.{expect}
use Rattle.td_tree.specs.model.Trees.{Attributes, Postfix}
use Rattle.td_parse.specs.code.Lone.{ends_expression}
use Rattle.td_parse.proofs.BeginsPlain.{from}

-- the lexemes go on with no operator of the level or of a tighter one
abbrev pub EndsPrimary : List Lexeme → Type 0
EndsPrimary ts = (call_at ts ≡ None) × (expect from ts ≡ None)

abbrev pub EndsPostfixed : List Lexeme → Type 0
EndsPostfixed ts = (postfix_at ts ≡ false) × EndsPrimary ts

abbrev pub EndsMultiplicative : List Lexeme → Type 0
EndsMultiplicative ts = (link_at levels.Multiplicative ts ≡ None) × EndsPostfixed ts

abbrev pub EndsAdditive : List Lexeme → Type 0
EndsAdditive ts = (link_at levels.Additive ts ≡ None) × EndsMultiplicative ts

abbrev pub EndsRelational : List Lexeme → Type 0
EndsRelational ts = (link_at levels.Relational ts ≡ None) × EndsAdditive ts

abbrev pub EndsComparison : List Lexeme → Type 0
EndsComparison ts = (comparison_at ts ≡ None) × EndsRelational ts

abbrev pub EndsConjunction : List Lexeme → Type 0
EndsConjunction ts = (link_at levels.Conjunction ts ≡ None) × EndsComparison ts

abbrev pub EndsDisjunction : List Lexeme → Type 0
EndsDisjunction ts = (link_at levels.Disjunction ts ≡ None) × EndsConjunction ts

abbrev pub EndsRestriction : List Lexeme → Type 0
EndsRestriction ts = (link_at levels.Restriction ts ≡ None) × EndsDisjunction ts

abbrev pub Stops : Level → List Lexeme → Type 0
Stops levels.Binding ts = EndsRestriction ts
Stops levels.Restriction ts = EndsRestriction ts
Stops levels.Disjunction ts = EndsDisjunction ts
Stops levels.Conjunction ts = EndsConjunction ts
Stops levels.Negation ts = EndsComparison ts
Stops levels.Comparison ts = EndsComparison ts
Stops levels.Relational ts = EndsRelational ts
Stops levels.Additive ts = EndsAdditive ts
Stops levels.Multiplicative ts = EndsMultiplicative ts
Stops levels.Prefixed ts = EndsPostfixed ts
Stops levels.Postfixed ts = EndsPostfixed ts
Stops levels.Primary ts = EndsPrimary ts

-- an expression and all its parts end here
abbrev pub Ends : List Lexeme → Type 0
Ends = Stops loosest

-- ---- what may follow

-- the lexemes go on with no operator of any level
record GoesOnWithNone (ts : List Lexeme) : Type 0 where
  operator : any_link ts ≡ None
  comparison : comparison_at ts ≡ None
  postfix : postfix_at ts ≡ false
  call : call_at ts ≡ None
  extraction : expect from ts ≡ None

no_link : (level : Level) (ts : List Lexeme) → any_link ts ≡ None → link_at level ts ≡ None
unfolding link_at
no_link level ts e = rw e refl

ends_primary : (ts : List Lexeme) → GoesOnWithNone ts → EndsPrimary ts
ends_primary ts h = (h.call, h.extraction)

ends_postfixed : (ts : List Lexeme) → GoesOnWithNone ts → EndsPostfixed ts
ends_postfixed ts h = (h.postfix, ends_primary ts h)

ends_multiplicative : (ts : List Lexeme) → GoesOnWithNone ts → EndsMultiplicative ts
ends_multiplicative ts h = (no_link levels.Multiplicative ts h.operator, ends_postfixed ts h)

ends_additive : (ts : List Lexeme) → GoesOnWithNone ts → EndsAdditive ts
ends_additive ts h = (no_link levels.Additive ts h.operator, ends_multiplicative ts h)

ends_relational : (ts : List Lexeme) → GoesOnWithNone ts → EndsRelational ts
ends_relational ts h = (no_link levels.Relational ts h.operator, ends_additive ts h)

ends_comparison : (ts : List Lexeme) → GoesOnWithNone ts → EndsComparison ts
ends_comparison ts h = (h.comparison, ends_relational ts h)

ends_conjunction : (ts : List Lexeme) → GoesOnWithNone ts → EndsConjunction ts
ends_conjunction ts h = (no_link levels.Conjunction ts h.operator, ends_comparison ts h)

ends_disjunction : (ts : List Lexeme) → GoesOnWithNone ts → EndsDisjunction ts
ends_disjunction ts h = (no_link levels.Disjunction ts h.operator, ends_conjunction ts h)

ends_restriction : (ts : List Lexeme) → GoesOnWithNone ts → EndsRestriction ts
ends_restriction ts h = (no_link levels.Restriction ts h.operator, ends_disjunction ts h)

-- every level ends before them
stops_all : (level : Level) (ts : List Lexeme) → GoesOnWithNone ts → Stops level ts
stops_all levels.Binding ts h = ends_restriction ts h
stops_all levels.Restriction ts h = ends_restriction ts h
stops_all levels.Disjunction ts h = ends_disjunction ts h
stops_all levels.Conjunction ts h = ends_conjunction ts h
stops_all levels.Negation ts h = ends_comparison ts h
stops_all levels.Comparison ts h = ends_comparison ts h
stops_all levels.Relational ts h = ends_relational ts h
stops_all levels.Additive ts h = ends_additive ts h
stops_all levels.Multiplicative ts h = ends_multiplicative ts h
stops_all levels.Prefixed ts h = ends_postfixed ts h
stops_all levels.Postfixed ts h = ends_postfixed ts h
stops_all levels.Primary ts h = ends_primary ts h

pub nothing_stops : (level : Level) → Stops level []
unfolding comparison_at postfix_at call_at expect
nothing_stops level = stops_all level [] (record { operator = refl; comparison = refl; postfix = refl; call = refl; extraction = refl })

-- a sign that ends an expression among others ends every level
pub sign_stops : (level : Level) (s : Sign) (ts : List Lexeme) → ends_expression s ≡ true → Stops level (sign s ∷ ts)
unfolding comparison_at postfix_at call_at expect
sign_stops level signs.Comma ts e = stops_all level (sign signs.Comma ∷ ts) (record { operator = refl; comparison = refl; postfix = refl; call = refl; extraction = refl })
sign_stops level signs.CloseParenthesis ts e = stops_all level (sign signs.CloseParenthesis ∷ ts) (record { operator = refl; comparison = refl; postfix = refl; call = refl; extraction = refl })
sign_stops level signs.CloseBrace ts e = stops_all level (sign signs.CloseBrace ∷ ts) (record { operator = refl; comparison = refl; postfix = refl; call = refl; extraction = refl })
sign_stops level _ ts e = absurd cc

pub close_stops : (s : List Lexeme) → Ends (sign signs.CloseParenthesis ∷ s)
close_stops s = sign_stops loosest signs.CloseParenthesis s refl

pub close_brace_stops : (s : List Lexeme) → Ends (sign signs.CloseBrace ∷ s)
close_brace_stops s = sign_stops loosest signs.CloseBrace s refl

pub comma_stops : (s : List Lexeme) → Ends (sign signs.Comma ∷ s)
comma_stops s = sign_stops loosest signs.Comma s refl

pub semicolon_stops : (s : List Lexeme) → Ends (sign signs.Semicolon ∷ s)
unfolding comparison_at postfix_at call_at expect
semicolon_stops s = stops_all loosest (sign signs.Semicolon ∷ s) (record { operator = refl; comparison = refl; postfix = refl; call = refl; extraction = refl })

pub then_stops : (s : List Lexeme) → Ends (keyword k.Then ∷ s)
unfolding comparison_at postfix_at call_at expect
then_stops s = stops_all loosest (keyword k.Then ∷ s) (record { operator = refl; comparison = refl; postfix = refl; call = refl; extraction = refl })

pub else_stops : (s : List Lexeme) → Ends (keyword k.Else ∷ s)
unfolding comparison_at postfix_at call_at expect
else_stops s = stops_all loosest (keyword k.Else ∷ s) (record { operator = refl; comparison = refl; postfix = refl; call = refl; extraction = refl })

pub end_stops : (s : List Lexeme) → Ends (keyword k.End ∷ s)
unfolding comparison_at postfix_at call_at expect
end_stops s = stops_all loosest (keyword k.End ∷ s) (record { operator = refl; comparison = refl; postfix = refl; call = refl; extraction = refl })

pub as_stops : (s : List Lexeme) → Ends (keyword k.As ∷ s)
unfolding comparison_at postfix_at call_at expect
as_stops s = stops_all loosest (keyword k.As ∷ s) (record { operator = refl; comparison = refl; postfix = refl; call = refl; extraction = refl })

pub add_stops : (s : List Lexeme) → Ends (keyword k.Add ∷ s)
unfolding comparison_at postfix_at call_at expect
add_stops s = stops_all loosest (keyword k.Add ∷ s) (record { operator = refl; comparison = refl; postfix = refl; call = refl; extraction = refl })

pub colon_stops : (s : List Lexeme) → Ends (sign signs.Colon ∷ s)
unfolding comparison_at postfix_at call_at expect
colon_stops s = stops_all loosest (sign signs.Colon ∷ s) (record { operator = refl; comparison = refl; postfix = refl; call = refl; extraction = refl })

pub per_stops : (s : List Lexeme) → Ends (keyword k.Per ∷ s)
unfolding comparison_at postfix_at call_at expect
per_stops s = stops_all loosest (keyword k.Per ∷ s) (record { operator = refl; comparison = refl; postfix = refl; call = refl; extraction = refl })

pub by_stops : (s : List Lexeme) → Ends (keyword k.By ∷ s)
unfolding comparison_at postfix_at call_at expect
by_stops s = stops_all loosest (keyword k.By ∷ s) (record { operator = refl; comparison = refl; postfix = refl; call = refl; extraction = refl })

-- ---- operators

pub link_stops : (op : Link) (s : List Lexeme) → Stops (tighter (link_level op)) (link_words op ++ s)
unfolding link_at comparison_at postfix_at call_at expect
link_stops links.Where s = (refl, (refl, (refl, (refl, (refl, (refl, (refl, (refl, refl))))))))
link_stops (links.Operator operators.Or) s = (refl, (refl, (refl, (refl, (refl, (refl, (refl, refl)))))))
link_stops (links.Operator operators.And) s = (refl, (refl, (refl, (refl, (refl, (refl, refl))))))
link_stops (links.Operator operators.Union) s = (refl, (refl, (refl, (refl, refl))))
link_stops (links.Operator operators.Intersect) s = (refl, (refl, (refl, (refl, refl))))
link_stops (links.Operator operators.Minus) s = (refl, (refl, (refl, (refl, refl))))
link_stops (links.Operator operators.Join) s = (refl, (refl, (refl, (refl, refl))))
link_stops (links.Operator operators.Times) s = (refl, (refl, (refl, (refl, refl))))
link_stops (links.Operator operators.Compose) s = (refl, (refl, (refl, (refl, refl))))
link_stops (links.Operator operators.Matching) s = (refl, (refl, (refl, (refl, refl))))
link_stops (links.Operator operators.NotMatching) s = (refl, (refl, (refl, (refl, refl))))
link_stops (links.Operator operators.DisjointUnion) s = (refl, (refl, (refl, (refl, refl))))
link_stops (links.Operator operators.IncludedMinus) s = (refl, (refl, (refl, (refl, refl))))
link_stops (links.Operator operators.Add) s = (refl, (refl, (refl, refl)))
link_stops (links.Operator operators.Subtract) s = (refl, (refl, (refl, refl)))
link_stops (links.Operator operators.Concatenate) s = (refl, (refl, (refl, refl)))
link_stops (links.Operator operators.Multiply) s = (refl, (refl, refl))
link_stops (links.Operator operators.Divide) s = (refl, (refl, refl))

pub is_link : (op : Link) (s : List Lexeme) → link_at (link_level op) (link_words op ++ s) ≡ Some (op, s)
unfolding link_at expect
is_link links.Where s = refl
is_link (links.Operator operators.Or) s = refl
is_link (links.Operator operators.And) s = refl
is_link (links.Operator operators.Union) s = refl
is_link (links.Operator operators.Intersect) s = refl
is_link (links.Operator operators.Minus) s = refl
is_link (links.Operator operators.Join) s = refl
is_link (links.Operator operators.Times) s = refl
is_link (links.Operator operators.Compose) s = refl
is_link (links.Operator operators.Matching) s = refl
is_link (links.Operator operators.NotMatching) s = refl
is_link (links.Operator operators.DisjointUnion) s = refl
is_link (links.Operator operators.IncludedMinus) s = refl
is_link (links.Operator operators.Add) s = refl
is_link (links.Operator operators.Subtract) s = refl
is_link (links.Operator operators.Concatenate) s = refl
is_link (links.Operator operators.Multiply) s = refl
is_link (links.Operator operators.Divide) s = refl

pub comparison_stops : (op : Comparison) (s : List Lexeme) → Stops levels.Relational (comparison_word op ∷ s)
unfolding link_at comparison_at postfix_at call_at expect
comparison_stops comparisons.Equal s = (refl, (refl, (refl, (refl, (refl, refl)))))
comparison_stops comparisons.NotEqual s = (refl, (refl, (refl, (refl, (refl, refl)))))
comparison_stops comparisons.Less s = (refl, (refl, (refl, (refl, (refl, refl)))))
comparison_stops comparisons.LessOrEqual s = (refl, (refl, (refl, (refl, (refl, refl)))))
comparison_stops comparisons.Greater s = (refl, (refl, (refl, (refl, (refl, refl)))))
comparison_stops comparisons.GreaterOrEqual s = (refl, (refl, (refl, (refl, (refl, refl)))))
comparison_stops comparisons.In s = (refl, (refl, (refl, (refl, (refl, refl)))))

pub is_comparison : (op : Comparison) (s : List Lexeme) → comparison_at (comparison_word op ∷ s) ≡ Some (op, s)
unfolding comparison_at
is_comparison comparisons.Equal s = refl
is_comparison comparisons.NotEqual s = refl
is_comparison comparisons.Less s = refl
is_comparison comparisons.LessOrEqual s = refl
is_comparison comparisons.Greater s = refl
is_comparison comparisons.GreaterOrEqual s = refl
is_comparison comparisons.In s = refl

-- a primary expression ends before what stands behind it
list_stops : {xs : List Lexeme} {a : Attributes} → AttributeListSpelling xs a → (s : List Lexeme) → Stops levels.Primary (xs ++ s)
unfolding call_at expect
list_stops (only_names (grammar.names p)) s = (refl, refl)
list_stops (all_but_names p) s = (refl, refl)

pub postfix_stops : {xs : List Lexeme} {p : Postfix} → PostfixSpelling xs p → (s : List Lexeme) → Stops levels.Primary (xs ++ s)
unfolding call_at expect
postfix_stops (projection q) s = list_stops q s
postfix_stops (renamings q) s = (refl, refl)
postfix_stops (renamings_in_braces q) s = (refl, refl)
postfix_stops (grouping q) s = (refl, refl)
postfix_stops (wrapping q) s = (refl, refl)
postfix_stops (open_grouping q) s = (refl, refl)
postfix_stops (open_wrapping q) s = (refl, refl)
postfix_stops ungrouping s = (refl, refl)
postfix_stops unwrapping s = (refl, refl)
