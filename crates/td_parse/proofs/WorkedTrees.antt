-- Worked examples: from the bytes of an expression to its tree, its height and its text.
use Rattle.std.proofs.Common.{◌≡◌, ℕ, true, false, List, [], ◌∷◌, refl, codes, arith, Option, Some, sym, ap, ◌∙◌, subst}
use Rattle.std.specs.Fmt.{digits}
use Rattle.std.specs.Str.{chars, is_utf8}
use Rattle.td_tree.specs.declared.keyword.Keyword.TheVariants as k
use Rattle.td_tree.specs.declared.operator.Comparison.TheVariants as comparisons
use Rattle.td_tree.specs.declared.operator.Level.TheVariants as levels
use Rattle.td_tree.specs.declared.operator.Operator.TheVariants as operators
use Rattle.td_tree.specs.declared.operator.Prefix.TheVariants as prefixes
use Rattle.td_tree.specs.declared.operator.Style.TheVariants as styles
use Rattle.td_tree.specs.declared.token.Sign.TheVariants as signs
use Rattle.td_tree.specs.model.Grammar as grammar
use Rattle.td_tree.specs.model.Grammar.{height_limit, Spelling, IsExpression, looser, binding, between, negation, minus, comparison, behind, literal, reference, component, setting_extension, last_setting, next_setting, renaming, renamings_in_braces, number_literal, minus_literal, loosest}
use Rattle.td_tree.specs.model.Heights.{height}
use Rattle.td_tree.specs.model.Keywords.{keyword_of}
use Rattle.td_tree.specs.model.Lexemes.{Lexeme, keyword, sign}
use Rattle.td_tree.specs.model.Lexemes as lexeme
use Rattle.td_tree.specs.model.Lists.{one_item}
use Rattle.td_tree.specs.model.Names.{is_name}
use Rattle.td_tree.specs.model.Pieces.{sign_at, sign_goes_on, opens, goes_on, word_kind}
use Rattle.td_tree.specs.model.Prints.{print}
use Rattle.td_tree.specs.model.Statements.{tokens}
use Rattle.td_tree.specs.model.TokenLexemes.{lexemes}
use Rattle.td_parse.specs.code.Reading as reads
use Rattle.td_parse.specs.code.Reading.{read, by_level, restriction, disjunction, conjunction, negation_expression, comparison_expression, compared_to, relational, additive, multiplicative, chain, operations, unary_expression, postfix_expression, postfixes, primary, numeral}
use Rattle.td_parse.specs.code.ReadingOperators.{link_at, comparison_at, prefix_at, extraction_at, postfix_at}
use Rattle.td_parse.specs.code.ReadingSteps.{expect}
use Rattle.td_tree.specs.model.Trees as tree
use Rattle.td_tree.specs.model.Trees.{Renaming, Tree}
use Rattle.td_tree.proofs.law_lemmas.Letters.{letters}
use Rattle.td_parse.proofs.OneTree.{expression_again}

-- `unfolding computing` lets `refl` compute the lexemes of a text
unfoldable computing : Unit {0}
unfolding tokens chars is_utf8 lib.Utf8.encode keyword_of is_name sign_at sign_goes_on opens goes_on word_kind letters digits
computing = tt

-- the bytes spell the tree, which is so high, and is printed so
pub record IsWorked (script : List ℕ) (t : Tree) (high : ℕ) (text : List ℕ) : Type 0 where
  pub spelled : IsExpression loosest (lexemes (tokens 0 script)) t
  pub height_is : height t ≡ high
  pub printed : print t ≡ text

-- ---- a+007*-3

abbrev sum : Tree
sum = tree.binary (tree.name (codes "a")) operators.Add (tree.binary (tree.literal (tree.number false 7)) operators.Multiply (tree.literal (tree.number true 3)))

sum_lexemes : lexemes (tokens 0 (codes "a+007*-3")) ≡ lexeme.name (codes "a") ∷ sign signs.Plus ∷ lexeme.number 7 ∷ sign signs.Times ∷ sign signs.Minus ∷ lexeme.number 3 ∷ []
unfolding computing
sum_lexemes = refl

-- a primary expression as an operand of a product, of a sum, and so on
as_factor : {xs : List Lexeme} {t : Tree} → Spelling levels.Primary xs t → Spelling levels.Prefixed xs t
as_factor p = looser (looser p)

as_product : {xs : List Lexeme} {t : Tree} → Spelling levels.Primary xs t → Spelling levels.Multiplicative xs t
as_product p = looser (as_factor p)

as_sum : {xs : List Lexeme} {t : Tree} → Spelling levels.Primary xs t → Spelling levels.Additive xs t
as_sum p = looser (as_product p)

as_relation : {xs : List Lexeme} {t : Tree} → Spelling levels.Primary xs t → Spelling levels.Relational xs t
as_relation p = looser (as_sum p)

as_comparison : {xs : List Lexeme} {t : Tree} → Spelling levels.Primary xs t → Spelling levels.Comparison xs t
as_comparison p = looser (as_relation p)

as_restriction : {xs : List Lexeme} {t : Tree} → Spelling levels.Additive xs t → Spelling levels.Restriction xs t
as_restriction p = looser (looser (looser (looser (looser (looser p)))))

-- a restriction as a whole expression
as_whole : {xs : List Lexeme} {t : Tree} → Spelling levels.Restriction xs t → Spelling loosest xs t
as_whole p = looser p

whole_sum : {xs : List Lexeme} {t : Tree} → Spelling levels.Additive xs t → Spelling loosest xs t
whole_sum p = as_whole (as_restriction p)

a_named : Spelling levels.Primary (lexeme.name (codes "a") ∷ []) (tree.name (codes "a"))
a_named = reference

seven : Spelling levels.Primary (lexeme.number 7 ∷ []) (tree.literal (tree.number false 7))
seven = literal (number_literal (omega arith))

minus_three : Spelling levels.Primary (sign signs.Minus ∷ lexeme.number 3 ∷ []) (tree.literal (tree.number true 3))
minus_three = literal (minus_literal (omega arith))

product_spelled : Spelling levels.Multiplicative (lexeme.number 7 ∷ sign signs.Times ∷ sign signs.Minus ∷ lexeme.number 3 ∷ []) (tree.binary (tree.literal (tree.number false 7)) operators.Multiply (tree.literal (tree.number true 3)))
product_spelled = between (as_product seven) (as_factor minus_three)

sum_spelled : Spelling levels.Additive (lexeme.name (codes "a") ∷ sign signs.Plus ∷ lexeme.number 7 ∷ sign signs.Times ∷ sign signs.Minus ∷ lexeme.number 3 ∷ []) sum
sum_spelled = between (as_sum a_named) product_spelled

-- a sum of a product, with leading zeros
pub sum_worked : IsWorked (codes "a+007*-3") sum 3 (codes "a + 7 * - 3")
unfolding computing
sum_worked = record { spelled = record { spelled = whole_sum sum_spelled; low = omega arith }; height_is = refl; printed = refl }

-- ---- --0

abbrev negated_zero : Tree
negated_zero = tree.prefix prefixes.Negate (tree.literal (tree.number true 0))

minus_zero : Spelling levels.Primary (sign signs.Minus ∷ lexeme.number 0 ∷ []) (tree.literal (tree.number true 0))
minus_zero = literal (minus_literal (omega arith))

negated_spelled : Spelling levels.Prefixed (sign signs.Minus ∷ sign signs.Minus ∷ lexeme.number 0 ∷ []) negated_zero
negated_spelled = minus tt (as_factor minus_zero)

-- a minus before a literal with its own
pub negated_zero_worked : IsWorked (codes "--0") negated_zero 2 (codes "- - 0")
unfolding computing
negated_zero_worked = record { spelled = record { spelled = whole_sum (looser (looser negated_spelled)); low = omega arith }; height_is = refl; printed = refl }

-- ---- R where not A=-5 or the_q(B)=1

abbrev restricted : Tree
restricted = tree.restriction (tree.name (codes "R"))
    (tree.binary (tree.prefix prefixes.Not (tree.compare (tree.name (codes "A")) comparisons.Equal (tree.literal (tree.number true 5)))) operators.Or
    (tree.compare (tree.component (codes "q") (tree.name (codes "B"))) comparisons.Equal (tree.literal (tree.number false 1))))

as_conjunction : {xs : List Lexeme} {t : Tree} → Spelling levels.Comparison xs t → Spelling levels.Conjunction xs t
as_conjunction p = looser (looser p)

as_disjunction : {xs : List Lexeme} {t : Tree} → Spelling levels.Comparison xs t → Spelling levels.Disjunction xs t
as_disjunction p = looser (as_conjunction p)

r_named : Spelling levels.Primary (lexeme.name (codes "R") ∷ []) (tree.name (codes "R"))
r_named = reference

b_named : Spelling levels.Primary (lexeme.name (codes "B") ∷ []) (tree.name (codes "B"))
b_named = reference

minus_five : Spelling levels.Primary (sign signs.Minus ∷ lexeme.number 5 ∷ []) (tree.literal (tree.number true 5))
minus_five = literal (minus_literal (omega arith))

one : Spelling levels.Primary (lexeme.number 1 ∷ []) (tree.literal (tree.number false 1))
one = literal (number_literal (omega arith))

first_test : Spelling levels.Comparison (lexeme.name (codes "A") ∷ sign signs.Equal ∷ sign signs.Minus ∷ lexeme.number 5 ∷ []) (tree.compare (tree.name (codes "A")) comparisons.Equal (tree.literal (tree.number true 5)))
first_test = comparison (as_relation reference) (as_relation minus_five)

q_of_b : Spelling levels.Primary (lexeme.component (codes "q") ∷ sign signs.OpenParenthesis ∷ lexeme.name (codes "B") ∷ sign signs.CloseParenthesis ∷ []) (tree.component (codes "q") (tree.name (codes "B")))
q_of_b = component (whole_sum (as_sum b_named))

second_test : Spelling levels.Comparison (lexeme.component (codes "q") ∷ sign signs.OpenParenthesis ∷ lexeme.name (codes "B") ∷ sign signs.CloseParenthesis ∷ sign signs.Equal ∷ lexeme.number 1 ∷ [])
    (tree.compare (tree.component (codes "q") (tree.name (codes "B"))) comparisons.Equal (tree.literal (tree.number false 1)))
second_test = comparison (as_relation q_of_b) (as_relation one)

-- NOT binds looser than a comparison, WHERE looser than OR; a THE word keeps the case of its component
pub restricted_worked : IsWorked (codes "R where not A=-5 or the_q(B)=1") restricted 5 (codes "R WHERE NOT A = - 5 OR THE_q ( B ) = 1")
unfolding computing
restricted_worked = record {
  spelled = record {
    spelled = as_whole (grammar.restriction (as_restriction (as_sum r_named)) (between (looser (looser (negation (looser first_test)))) (as_conjunction second_test)));
    low = omega arith;
  };
  height_is = refl;
  printed = refl;
}

-- ---- extend R : {A := 1}

abbrev extended : Tree
extended = tree.extend_setting (tree.name (codes "R")) (tree.more_named (codes "A") (tree.literal (tree.number false 1)) tree.none_named)

-- an attribute that EXTEND sets
pub extended_worked : IsWorked (codes "extend R : {A := 1}") extended 2 (codes "EXTEND R : { A := 1 }")
unfolding computing
extended_worked = record {
  spelled = record { spelled = whole_sum (as_sum (setting_extension (whole_sum (as_sum r_named)) (last_setting (whole_sum (as_sum one))))); low = omega arith };
  height_is = refl;
  printed = refl;
}

-- ---- with (X := 1, Y := X) : Y

abbrev named : Tree
named = tree.binding (tree.more_named (codes "X") (tree.literal (tree.number false 1)) (tree.more_named (codes "Y") (tree.name (codes "X")) tree.none_named)) (tree.name (codes "Y"))

x_named : Spelling levels.Primary (lexeme.name (codes "X") ∷ []) (tree.name (codes "X"))
x_named = reference

y_named : Spelling levels.Primary (lexeme.name (codes "Y") ∷ []) (tree.name (codes "Y"))
y_named = reference

-- names for values; the items are no nodes
pub named_worked : IsWorked (codes "with (X := 1, Y := X) : Y") named 2 (codes "WITH ( X := 1 , Y := X ) : Y")
unfolding computing
named_worked = record {
  spelled = record { spelled = binding (next_setting (whole_sum (as_sum one)) (last_setting (whole_sum (as_sum x_named)))) (whole_sum (as_sum y_named)); low = omega arith };
  height_is = refl;
  printed = refl;
}

-- ---- extend with (X := R) : X : {A := 1}

abbrev extended_names : Tree
extended_names =
    tree.extend_setting (tree.binding (tree.more_named (codes "X") (tree.name (codes "R")) tree.none_named) (tree.name (codes "X")))
    (tree.more_named (codes "A") (tree.literal (tree.number false 1)) tree.none_named)

-- WITH ends before the second ':'
pub extended_names_worked : IsWorked (codes "extend with (X := R) : X : {A := 1}") extended_names 3 (codes "EXTEND WITH ( X := R ) : X : { A := 1 }")
unfolding computing
extended_names_worked = record {
  spelled = record {
    spelled = whole_sum (as_sum (setting_extension (binding (last_setting (whole_sum (as_sum r_named))) (whole_sum (as_sum x_named))) (last_setting (whole_sum (as_sum one)))));
    low = omega arith;
  };
  height_is = refl;
  printed = refl;
}

-- ---- R d_union S rename {A as B}

abbrev a_to_b : List Renaming
a_to_b = record { old = codes "A"; new = codes "B" } ∷ []

abbrev renamed : Tree
renamed = tree.postfix (tree.name (codes "S")) (tree.rename styles.Newer a_to_b)

renamed_spelled : Spelling levels.Postfixed (lexeme.name (codes "S") ∷ keyword k.Rename ∷ sign signs.OpenBrace ∷ lexeme.name (codes "A") ∷ keyword k.As ∷ lexeme.name (codes "B") ∷ sign signs.CloseBrace ∷ []) renamed
renamed_spelled = behind (looser reference) (renamings_in_braces (one_item renaming))

-- a renaming in braces is printed in braces, and binds tighter than D_UNION
pub renamed_worked : IsWorked (codes "R d_union S rename {A as B}") (tree.binary (tree.name (codes "R")) operators.DisjointUnion renamed) 3 (codes "R D_UNION S RENAME { A AS B }")
unfolding computing
renamed_worked = record {
  spelled = record { spelled = as_whole (looser (looser (looser (looser (looser (between (as_relation r_named) (looser (looser (looser renamed_spelled))))))))); low = omega arith };
  height_is = refl;
  printed = refl;
}

-- ---- 1 = 1 = 1

-- `unfolding reading` lets `refl` compute what is read
unfoldable reading : Unit {0}
unfolding read by_level reads.binding reads.binding_expression restriction disjunction conjunction negation_expression comparison_expression compared_to relational additive multiplicative chain operations unary_expression postfix_expression postfixes primary numeral expect link_at comparison_at prefix_at extraction_at postfix_at
reading = tt

chained : List Lexeme
chained = lexeme.number 1 ∷ sign signs.Equal ∷ lexeme.number 1 ∷ sign signs.Equal ∷ lexeme.number 1 ∷ []

abbrev one_is_one : Tree
one_is_one = tree.compare (tree.literal (tree.number false 1)) comparisons.Equal (tree.literal (tree.number false 1))

chained_lexemes : lexemes (tokens 0 (codes "1 = 1 = 1")) ≡ chained
unfolding computing chained
chained_lexemes = refl

-- what is read ends before the second comparison
chained_read : read height_limit loosest chained ≡ Some (one_is_one, sign signs.Equal ∷ lexeme.number 1 ∷ [])
unfolding reading chained
chained_read = refl

-- a tree, and nothing left
abbrev whole : Tree → Option (Tree × List Lexeme)
whole t = Some (t, [])

left_over : (t : Tree) → Some (one_is_one, sign signs.Equal ∷ lexeme.number 1 ∷ []) ≡ whole t → ⊥
left_over t e =
    let p : (one_is_one, sign signs.Equal ∷ lexeme.number 1 ∷ []) ≡ (t, []) = cc in
    let q : sign signs.Equal ∷ lexeme.number 1 ∷ [] ≡ [] = ap (λ (x : Tree × List Lexeme). x.1) p in
    absurd cc

-- a chained comparison is spelled by no tree
pub chained_worked : (t : Tree) → IsExpression loosest (lexemes (tokens 0 (codes "1 = 1 = 1"))) t → ⊥
chained_worked t spelled =
    left_over t (sym chained_read ∙ expression_again loosest chained t (subst (λ xs. IsExpression loosest xs t) chained_lexemes spelled))
