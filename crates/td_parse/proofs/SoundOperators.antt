-- What is taken for an operator, a comparison or a call is one.
use Rattle.std.proofs.Common.{◌≡◌, Bool, true, false, cond, List, [], ◌∷◌, ◌++◌, Option, Some, None, refl, sym, ap, subst, ◌∙◌}
use denote.Enum.Bare.{same_true}
use Rattle.td_tree.specs.contracts.operator.Level as level_type
use Rattle.td_tree.specs.declared.keyword.Keyword.{Keyword}
use Rattle.td_tree.specs.declared.keyword.Keyword.TheVariants as k
use Rattle.td_tree.specs.declared.operator.Comparison.{Comparison}
use Rattle.td_tree.specs.declared.operator.Comparison.TheVariants as comparisons
use Rattle.td_tree.specs.declared.operator.Level.{Level}
use Rattle.td_parse.specs.declared.operators.Link.{Link}
use Rattle.td_tree.specs.declared.operator.Operator.TheVariants as operators
use Rattle.td_parse.specs.declared.operators.Link.TheVariants as links
use Rattle.td_tree.specs.declared.operator.Prefix.{Prefix}
use Rattle.td_tree.specs.declared.operator.Prefix.TheVariants as prefixes
use Rattle.td_tree.specs.declared.token.Sign.{Sign}
use Rattle.td_tree.specs.declared.token.Sign.TheVariants as signs
use Rattle.td_tree.specs.model.Grammar.{comparison_word, BeginsOtherwise}
use Rattle.td_tree.specs.model.Lexemes.{Lexeme, keyword, sign}
use Rattle.td_tree.specs.model.Lexemes as lexeme
use Rattle.td_parse.specs.code.ReadingOperators.{link_level, link_words, with_rest, link_of_word, link_of_sign, link_after_word, any_link, same_level, link_at, comparison_of_word, comparison_of_sign, comparison_at, begins_with_number, prefix_after_sign, prefix_after_word, prefix_at, extraction_at, name_and, is_assign, call_at}
use Rattle.td_parse.specs.code.ReadingSteps.{expect}
use Rattle.td_tree.specs.model.Trees.{Text}
use Rattle.td_parse.proofs.BeginsPlain.{from}
use Rattle.td_parse.proofs.SoundNames.{after_word}
use Rattle.td_parse.proofs.SoundSteps.{some, bind_some, guard_some, pair_is, Front, expect_front}

some_is : {A : Type 0} (a b : A) → some a ≡ some b → a ≡ b
some_is a b e = cc

with_rest_is : {A : Type 0} (ts : List Lexeme) (o : Option A) (a : A) (after : List Lexeme) → with_rest ts o ≡ Some (a, after) → (o ≡ Some a) × (ts ≡ after)
with_rest_is ts None a after e = absurd cc
with_rest_is ts (Some x) a after e =
    let g = pair_is x a ts after e in
    (ap some g.0, g.1)

-- ---- between operands

word_of_is : (w : Keyword) (op : Link) → link_of_word w ≡ Some op → keyword w ∷ [] ≡ link_words op
word_of_is k.Where op e = ap link_words (some_is links.Where op e)
word_of_is k.Or op e = ap link_words (some_is (links.Operator operators.Or) op e)
word_of_is k.And op e = ap link_words (some_is (links.Operator operators.And) op e)
word_of_is k.Union op e = ap link_words (some_is (links.Operator operators.Union) op e)
word_of_is k.Intersect op e = ap link_words (some_is (links.Operator operators.Intersect) op e)
word_of_is k.Minus op e = ap link_words (some_is (links.Operator operators.Minus) op e)
word_of_is k.Join op e = ap link_words (some_is (links.Operator operators.Join) op e)
word_of_is k.Times op e = ap link_words (some_is (links.Operator operators.Times) op e)
word_of_is k.Compose op e = ap link_words (some_is (links.Operator operators.Compose) op e)
word_of_is k.Matching op e = ap link_words (some_is (links.Operator operators.Matching) op e)
word_of_is k.DUnion op e = ap link_words (some_is (links.Operator operators.DisjointUnion) op e)
word_of_is k.IMinus op e = ap link_words (some_is (links.Operator operators.IncludedMinus) op e)
word_of_is _ op e = absurd cc

sign_of_is : (s : Sign) (op : Link) → link_of_sign s ≡ Some op → sign s ∷ [] ≡ link_words op
sign_of_is signs.Plus op e = ap link_words (some_is (links.Operator operators.Add) op e)
sign_of_is signs.Minus op e = ap link_words (some_is (links.Operator operators.Subtract) op e)
sign_of_is signs.Concatenate op e = ap link_words (some_is (links.Operator operators.Concatenate) op e)
sign_of_is signs.Times op e = ap link_words (some_is (links.Operator operators.Multiply) op e)
sign_of_is signs.Divide op e = ap link_words (some_is (links.Operator operators.Divide) op e)
sign_of_is _ op e = absurd cc

-- these words, and what follows
words_front : (x : Lexeme) (ts after : List Lexeme) (op : Link) → x ∷ [] ≡ link_words op → ts ≡ after → Front (x ∷ ts) (link_words op) after
words_front x ts after op is_op is_after = record { parts = ap (λ (l : List Lexeme). l ++ ts) is_op ∙ ap (λ (l : List Lexeme). link_words op ++ l) is_after }

one_word : (w : Keyword) (ts : List Lexeme) (op : Link) (after : List Lexeme) → with_rest ts (link_of_word w) ≡ Some (op, after) → Front (keyword w ∷ ts) (link_words op) after
one_word w ts op after e =
    let g = with_rest_is ts (link_of_word w) op after e in
    words_front (keyword w) ts after op (word_of_is w op g.0) g.1

one_sign : (s : Sign) (ts : List Lexeme) (op : Link) (after : List Lexeme) → with_rest ts (link_of_sign s) ≡ Some (op, after) → Front (sign s ∷ ts) (link_words op) after
one_sign s ts op after e =
    let g = with_rest_is ts (link_of_sign s) op after e in
    words_front (sign s) ts after op (sign_of_is s op g.0) g.1

after_word_is : (w : Keyword) (ts : List Lexeme) (op : Link) (after : List Lexeme) → link_after_word w ts ≡ Some (op, after) → Front (keyword w ∷ ts) (link_words op) after
after_word_is k.Not ts op after e =
    let b = bind_some (expect (keyword k.Matching) ts) _ _ e in
    let g = pair_is (links.Operator operators.NotMatching) op b.0 after b.2 in
    let f : Front (keyword k.Not ∷ ts) (link_words (links.Operator operators.NotMatching)) b.0 = after_word (keyword k.Not) (expect_front (keyword k.Matching) ts b.0 b.1) in
    subst (λ (o : Link). Front (keyword k.Not ∷ ts) (link_words o) after) g.0 (subst (λ (l : List Lexeme). Front (keyword k.Not ∷ ts) (link_words (links.Operator operators.NotMatching)) l) g.1 f)
after_word_is w ts op after e = one_word w ts op after e

any_link_is : (ts : List Lexeme) (op : Link) (after : List Lexeme) → any_link ts ≡ Some (op, after) → Front ts (link_words op) after
any_link_is (keyword w ∷ ts) op after e = after_word_is w ts op after e
any_link_is (sign s ∷ ts) op after e = one_sign s ts op after e
any_link_is _ op after e = absurd cc

-- an operator that stands at the level
pub record IsLink (level : Level) (ts : List Lexeme) (op : Link) (after : List Lexeme) : Type 0 where
  pub stands : link_level op ≡ level
  pub parts : Front ts (link_words op) after

pub link_is : (level : Level) (ts : List Lexeme) (op : Link) (after : List Lexeme) → link_at level ts ≡ Some (op, after) → IsLink level ts op after
unfolding link_at
link_is level ts op after e =
    let b = bind_some (any_link ts) _ _ e in
    let g = guard_some (same_level (link_level b.0.0) level) _ _ b.2 in
    let q = pair_is b.0.0 op b.0.1 after g.1 in
    let f = any_link_is ts b.0.0 b.0.1 b.1 in
    record {
      stands = ap link_level (sym q.0) ∙ same_true level_type.the_type (search) (link_level b.0.0) level g.0;
      parts = subst (λ (o : Link). Front ts (link_words o) after) q.0 (subst (λ (l : List Lexeme). Front ts (link_words b.0.0) l) q.1 f);
    }

comparison_word_is : (w : Keyword) (op : Comparison) → comparison_of_word w ≡ Some op → keyword w ≡ comparison_word op
comparison_word_is k.In op e = ap comparison_word (some_is comparisons.In op e)
comparison_word_is _ op e = absurd cc

comparison_sign_is : (s : Sign) (op : Comparison) → comparison_of_sign s ≡ Some op → sign s ≡ comparison_word op
comparison_sign_is signs.Equal op e = ap comparison_word (some_is comparisons.Equal op e)
comparison_sign_is signs.NotEqual op e = ap comparison_word (some_is comparisons.NotEqual op e)
comparison_sign_is signs.Less op e = ap comparison_word (some_is comparisons.Less op e)
comparison_sign_is signs.LessOrEqual op e = ap comparison_word (some_is comparisons.LessOrEqual op e)
comparison_sign_is signs.Greater op e = ap comparison_word (some_is comparisons.Greater op e)
comparison_sign_is signs.GreaterOrEqual op e = ap comparison_word (some_is comparisons.GreaterOrEqual op e)
comparison_sign_is _ op e = absurd cc

pub comparison_is : (ts : List Lexeme) (op : Comparison) (after : List Lexeme) → comparison_at ts ≡ Some (op, after) → Front ts (comparison_word op ∷ []) after
unfolding comparison_at
comparison_is (keyword w ∷ ts) op after e =
    let g = with_rest_is ts (comparison_of_word w) op after e in
    record { parts = rw (comparison_word_is w op g.0, g.1) refl }
comparison_is (sign s ∷ ts) op after e =
    let g = with_rest_is ts (comparison_of_sign s) op after e in
    record { parts = rw (comparison_sign_is s op g.0, g.1) refl }
comparison_is _ op after e = absurd cc

-- ---- before an operand

pub data PrefixFront : List Lexeme → Prefix → List Lexeme → Type 0 where
  minus_front : {after : List Lexeme} → begins_with_number after ≡ false → PrefixFront (sign signs.Minus ∷ after) prefixes.Negate after
  closure_front : {after : List Lexeme} → PrefixFront (keyword k.Tclose ∷ after) prefixes.TransitiveClosure after
  tuple_front : {after : List Lexeme} → PrefixFront (keyword k.Tuple ∷ (from ∷ after)) prefixes.TupleFrom after

minus_is : (b : Bool) (ts : List Lexeme) (op : Prefix) (after : List Lexeme) → begins_with_number ts ≡ b → cond b None (some {A = Prefix × List Lexeme} (prefixes.Negate, ts)) ≡ Some (op, after)
    → PrefixFront (sign signs.Minus ∷ ts) op after
minus_is true ts op after n e = absurd cc
minus_is false ts op after n e =
    let g = pair_is prefixes.Negate op ts after e in
    subst (λ (o : Prefix). PrefixFront (sign signs.Minus ∷ ts) o after) g.0 (subst (λ (l : List Lexeme). PrefixFront (sign signs.Minus ∷ ts) prefixes.Negate l) g.1 (minus_front n))

prefix_sign_is : (s : Sign) (ts : List Lexeme) (op : Prefix) (after : List Lexeme) → prefix_after_sign s ts ≡ Some (op, after) → PrefixFront (sign s ∷ ts) op after
prefix_sign_is signs.Minus ts op after e = minus_is (begins_with_number ts) ts op after refl e
prefix_sign_is _ ts op after e = absurd cc

prefix_word_is : (w : Keyword) (ts : List Lexeme) (op : Prefix) (after : List Lexeme) → prefix_after_word w ts ≡ Some (op, after) → PrefixFront (keyword w ∷ ts) op after
prefix_word_is k.Tclose ts op after e =
    let g = pair_is prefixes.TransitiveClosure op ts after e in
    subst (λ (o : Prefix). PrefixFront (keyword k.Tclose ∷ ts) o after) g.0 (subst (λ (l : List Lexeme). PrefixFront (keyword k.Tclose ∷ ts) prefixes.TransitiveClosure l) g.1 closure_front)
prefix_word_is k.Tuple ts op after e =
    let b = bind_some (expect from ts) _ _ e in
    let g = pair_is prefixes.TupleFrom op b.0 after b.2 in
    let f = expect_front from ts b.0 b.1 in
    let front : PrefixFront (keyword k.Tuple ∷ ts) prefixes.TupleFrom b.0 = subst (λ (l : List Lexeme). PrefixFront (keyword k.Tuple ∷ l) prefixes.TupleFrom b.0) (sym f.parts) tuple_front in
    subst (λ (o : Prefix). PrefixFront (keyword k.Tuple ∷ ts) o after) g.0 (subst (λ (l : List Lexeme). PrefixFront (keyword k.Tuple ∷ ts) prefixes.TupleFrom l) g.1 front)
prefix_word_is _ ts op after e = absurd cc

pub prefix_is : (ts : List Lexeme) (op : Prefix) (after : List Lexeme) → prefix_at ts ≡ Some (op, after) → PrefixFront ts op after
unfolding prefix_at
prefix_is (keyword w ∷ ts) op after e = prefix_word_is w ts op after e
prefix_is (sign s ∷ ts) op after e = prefix_sign_is s ts op after e
prefix_is _ op after e = absurd cc

-- what stands before the rest of lexemes that begin with no number
pub otherwise : (xs after rest : List Lexeme) → after ≡ xs ++ rest → begins_with_number after ≡ false → BeginsOtherwise xs
otherwise [] after rest e h = tt
otherwise (lexeme.number n ∷ xs) after rest e h = absurd (let f : true ≡ false = sym (ap begins_with_number e) ∙ h in cc)
otherwise (_ ∷ xs) after rest e h = tt

pub extraction_is : (ts : List Lexeme) (n : Text) (after : List Lexeme) → extraction_at ts ≡ Some (n, after) → Front ts (lexeme.name n ∷ (from ∷ [])) after
unfolding extraction_at
extraction_is (lexeme.name m ∷ ts) n after e =
    let b = bind_some (expect from ts) _ _ e in
    let g = pair_is m n b.0 after b.2 in
    let f : Front (lexeme.name m ∷ ts) (lexeme.name m ∷ (from ∷ [])) b.0 = after_word (lexeme.name m) (expect_front from ts b.0 b.1) in
    subst (λ (o : Text). Front (lexeme.name m ∷ ts) (lexeme.name o ∷ (from ∷ [])) after) g.0 (subst (λ (l : List Lexeme). Front (lexeme.name m ∷ ts) (lexeme.name m ∷ (from ∷ [])) l) g.1 f)
extraction_is _ n after e = absurd cc

-- ---- a call

not_none : (b : Bool) (after last : List Lexeme) → cond b None (some after) ≡ Some last → after ≡ last
not_none true after last e = absurd cc
not_none false after last e = some_is after last e

pub call_is : (ts after : List Lexeme) → call_at ts ≡ Some after → Front ts (sign signs.OpenParenthesis ∷ []) after
unfolding call_at
call_is ts after e =
    let b = bind_some (expect (sign signs.OpenParenthesis) ts) _ _ e in
    subst (λ (l : List Lexeme). Front ts (sign signs.OpenParenthesis ∷ []) l) (not_none (name_and is_assign b.0) b.0 after b.2) (expect_front (sign signs.OpenParenthesis) ts b.0 b.1)
