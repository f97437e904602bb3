-- A literal that ends at once is read at every level.
use Rattle.std.proofs.Common.{◌≡◌, ℕ, suc, Bool, true, false, cond, List, [], ◌∷◌, Option, Some, None, refl, sym, ap, ◌∙◌, arith}
use Rattle.std.specs.Prelude.{nat_le}
use Rattle.std.proofs.lemmas.Bool.{leb-true}
use Rattle.td_tree.specs.declared.keyword.Keyword.{Keyword}
use Rattle.td_tree.specs.declared.keyword.Keyword.TheVariants as k
use Rattle.td_tree.specs.declared.operator.Level.{Level}
use Rattle.td_tree.specs.declared.operator.Level.TheVariants as levels
use Rattle.td_tree.specs.model.Grammar.{Spelling, looser, LiteralSpelling, text_literal, true_literal, false_literal}
use Rattle.td_tree.specs.model.Grammar as grammar
use Rattle.td_tree.specs.model.Lexemes.{Lexeme, keyword, sign}
use Rattle.td_tree.specs.model.Lexemes as lexeme
use Rattle.td_tree.specs.model.Numbers.{numeral_limit}
use Rattle.td_tree.specs.model.Trees as tree
use Rattle.td_tree.specs.model.Trees.{Literal, Tree}
use Rattle.td_parse.specs.code.Reading.{read}
use Rattle.td_parse.specs.code.ReadingOperators.{with_rest}
use Rattle.td_parse.specs.code.Lone.{end_at, literal_of, lone_literal}
use Rattle.td_parse.proofs.Again.{Again, again_from}
use Rattle.td_parse.proofs.AgainSpelled.{reads}
use Rattle.td_parse.proofs.Stops.{Stops, sign_stops}

-- ---- a primary expression is one of every level

at_prefixed : {xs : List Lexeme} {t : Tree} → Spelling levels.Primary xs t → Spelling levels.Prefixed xs t
at_prefixed p = looser (looser p)

at_relational : {xs : List Lexeme} {t : Tree} → Spelling levels.Primary xs t → Spelling levels.Relational xs t
at_relational p = looser (looser (looser (at_prefixed p)))

at_negation : {xs : List Lexeme} {t : Tree} → Spelling levels.Primary xs t → Spelling levels.Negation xs t
at_negation p = looser (looser (at_relational p))

at_every : (level : Level) {xs : List Lexeme} {t : Tree} → Spelling levels.Primary xs t → Spelling level xs t
at_every levels.Binding p = looser (looser (looser (looser (at_negation p))))
at_every levels.Restriction p = looser (looser (looser (at_negation p)))
at_every levels.Disjunction p = looser (looser (at_negation p))
at_every levels.Conjunction p = looser (at_negation p)
at_every levels.Negation p = at_negation p
at_every levels.Comparison p = looser (at_relational p)
at_every levels.Relational p = at_relational p
at_every levels.Additive p = looser (looser (at_prefixed p))
at_every levels.Multiplicative p = looser (at_prefixed p)
at_every levels.Prefixed p = at_prefixed p
at_every levels.Postfixed p = looser p
at_every levels.Primary p = p

-- ---- the literal at the front

number_spelled : (n : ℕ) (l : Literal) (b : Bool) → nat_le n (numeral_limit false) ≡ b → cond b (Some (tree.number false n)) None ≡ Some l → LiteralSpelling (lexeme.number n ∷ []) l
number_spelled n l true low e = let is : tree.number false n ≡ l = cc in rw (sym is) (grammar.number_literal (leb-true _ _ low))
number_spelled n l false low e = absurd cc

word_spelled : (w : Keyword) (l : Literal) → literal_of (keyword w) ≡ Some l → LiteralSpelling (keyword w ∷ []) l
word_spelled k.True l e = let is : tree.truth true ≡ l = cc in rw (sym is) true_literal
word_spelled k.False l e = let is : tree.truth false ≡ l = cc in rw (sym is) false_literal
word_spelled _ l e = absurd cc

literal_spelled : (x : Lexeme) (l : Literal) → literal_of x ≡ Some l → LiteralSpelling (x ∷ []) l
literal_spelled (lexeme.number n) l e = number_spelled n l (nat_le n (numeral_limit false)) refl e
literal_spelled (lexeme.text said) l e = let is : tree.text said ≡ l = cc in rw (sym is) text_literal
literal_spelled (keyword w) l e = word_spelled w l e
literal_spelled _ l e = absurd cc

-- what a sign ends
ended : (level : Level) (ts : List Lexeme) → end_at ts ≡ true → Stops level ts
unfolding end_at
ended level (sign s ∷ ts) e = sign_stops level s ts e
ended level _ e = absurd cc

found : (b : Bool) (o : Option Literal) (ts rest : List Lexeme) (l : Literal) → cond b (with_rest ts o) None ≡ Some (l, rest) → (b ≡ true) × (o ≡ Some l) × (ts ≡ rest)
found true (Some m) ts rest l e =
    let p : (m, ts) ≡ (l, rest) = cc in
    (refl, ap (λ (x : Literal × List Lexeme). Some x.0) p, ap (λ (x : Literal × List Lexeme). x.1) p)
found true None ts rest l e = absurd cc
found false o ts rest l e = absurd cc

-- reading at any level gives the literal
pub lone_reads : (d : ℕ) (level : Level) (ts rest : List Lexeme) (l : Literal) → lone_literal ts ≡ Some (l, rest) → read (suc d) level ts ≡ Some (tree.literal l, rest)
unfolding lone_literal
lone_reads d level [] rest l e = absurd cc
lone_reads d level (x ∷ ts) rest l e =
    let f = found (end_at ts) (literal_of x) ts rest l e in
    let again : Again level (x ∷ []) (tree.literal l) = again_from level (x ∷ []) (tree.literal l) (reads (at_every level (grammar.literal (literal_spelled x l f.1)))) in
    again.reads (suc d) ts (omega arith) (ended level ts f.0) ∙ ap (λ (us : List Lexeme). Some (tree.literal l, us)) f.2
