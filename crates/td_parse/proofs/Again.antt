-- What reading an expression of a level comes to: its tree, or the level's loop with the tree on the left.
use Rattle.std.proofs.Common.{◌≡◌, ℕ, zero, suc, ◌+◌, ◌<◌, ◌≤◌, true, false, List, [], ◌∷◌, ◌++◌, Some, None, refl, ap, ◌∙◌, append_assoc, arith, max}
use Rattle.std.proofs.lemmas.Bool.{le-leb}
use Rattle.td_tree.specs.declared.keyword.Keyword.TheVariants as k
use Rattle.td_tree.specs.declared.operator.Comparison.{Comparison}
use Rattle.td_tree.specs.declared.operator.Level.{Level}
use Rattle.td_tree.specs.declared.operator.Level.TheVariants as levels
use Rattle.td_parse.specs.declared.operators.Link.{Link}
use Rattle.td_tree.specs.declared.operator.Operator.TheVariants as operators
use Rattle.td_parse.specs.declared.operators.Link.TheVariants as links
use Rattle.td_tree.specs.declared.operator.Prefix.TheVariants as prefixes
use Rattle.td_tree.specs.declared.token.Sign.TheVariants as signs
use Rattle.td_tree.specs.model.Grammar.{tighter, comparison_word, BeginsOtherwise, PostfixSpelling}
use Rattle.td_tree.specs.model.Heights.{height}
use Rattle.td_tree.specs.model.Lexemes.{Lexeme, keyword, sign}
use Rattle.td_tree.specs.model.Lexemes as lexeme
use Rattle.td_parse.specs.code.Reading.{Read, postfixes, postfix_expression, extract_expression, prefix_expression, unary_expression, operations, chain, multiplicative, additive, relational, compared_to, comparison_expression, negation_expression, conjunction, disjunction, restriction, binding, by_level, read}
use Rattle.td_parse.specs.code.ReadingOperators.{link_level, link_words, linked_tree, link_at, prefix_at, extraction_at, postfix_at}
use Rattle.td_parse.specs.code.ReadingSteps.{◌>>=◌, expect}
use Rattle.td_tree.specs.model.Trees as tree
use Rattle.td_tree.specs.model.Trees.{Text, Tree, Postfix}
use Rattle.td_parse.proofs.AgainNames.{postfix_again, postfix_is}
use Rattle.td_parse.proofs.Begins.{Begins, begins_no}
use Rattle.td_parse.proofs.BeginsPlain.{from, IsPlain, Plain}
use Rattle.td_parse.proofs.Stops.{Stops, link_stops, is_link, comparison_stops, is_comparison, postfix_stops}

-- reading at a level gives the tree, whatever follows
pub record Again (level : Level) (xs : List Lexeme) (t : Tree) : Type 0 where
  pub reads : (d : ℕ) (s : List Lexeme) → height t ≤ d → Stops level s → read d level (xs ++ s) ≡ Some (t, s)

-- the reading of a level comes to its loop with the tree on the left, and turns left
pub record Goes (tight : Level) (start : ℕ → List Lexeme → Read) (loop : ℕ → ℕ → Tree → List Lexeme → Read) (xs : List Lexeme) (t : Tree) : Type 0 where
  pub goes : (d : ℕ) (s : List Lexeme) → height t ≤ suc d → Stops tight s → (k : ℕ) × (suc d < k + height t) × (start d (xs ++ s) ≡ loop d k t s)

-- the reading of a level gives the tree
pub record Gets (level : Level) (start : ℕ → List Lexeme → Read) (xs : List Lexeme) (t : Tree) : Type 0 where
  pub gets : (d : ℕ) (s : List Lexeme) → height t ≤ suc d → Stops level s → start d (xs ++ s) ≡ Some (t, s)

abbrev pub at : Level → ℕ → List Lexeme → Read
at level d = by_level (read d) d level

abbrev loop_at : Level → ℕ → ℕ → Tree → List Lexeme → Read
loop_at level d = operations (read d) d level

abbrev postfix_loop : ℕ → ℕ → Tree → List Lexeme → Read
postfix_loop d = postfixes (read d) d

-- a level of operators that group to the left
abbrev Chained : Level → List Lexeme → Tree → Type 0
Chained level = Goes (tighter level) (at level) (loop_at level)

abbrev pub Reads : Level → List Lexeme → Tree → Type 0
Reads levels.Binding xs t = Gets levels.Binding (at levels.Binding) xs t
Reads levels.Restriction xs t = Chained levels.Restriction xs t
Reads levels.Disjunction xs t = Chained levels.Disjunction xs t
Reads levels.Conjunction xs t = Chained levels.Conjunction xs t
Reads levels.Negation xs t = Gets levels.Negation (at levels.Negation) xs t
Reads levels.Comparison xs t = Gets levels.Comparison (at levels.Comparison) xs t
Reads levels.Relational xs t = Chained levels.Relational xs t
Reads levels.Additive xs t = Chained levels.Additive xs t
Reads levels.Multiplicative xs t = Chained levels.Multiplicative xs t
Reads levels.Prefixed xs t = Gets levels.Prefixed (at levels.Prefixed) xs t
Reads levels.Postfixed xs t = Goes levels.Primary (at levels.Postfixed) postfix_loop xs t
Reads levels.Primary xs t = Gets levels.Primary (at levels.Primary) xs t

pub height_pos : (t : Tree) → 0 < height t
height_pos (tree.literal l) = omega arith
height_pos (tree.name n) = omega arith
height_pos (tree.parentheses a) = omega arith
height_pos (tree.prefix op a) = omega arith
height_pos (tree.extract n a) = omega arith
height_pos (tree.restriction a b) = omega arith
height_pos (tree.binary a op b) = omega arith
height_pos (tree.compare a op b) = omega arith
height_pos (tree.postfix a p) = omega arith
height_pos (tree.select n all) = omega arith
height_pos (tree.component n a) = omega arith
height_pos (tree.measure op a) = omega arith
height_pos (tree.aggregate op a b) = omega arith
height_pos (tree.relation all) = omega arith
height_pos (tree.headed_relation h all) = omega arith
height_pos (tree.tuple parts) = omega arith
height_pos (tree.extend a parts) = omega arith
height_pos (tree.extend_setting a settings) = omega arith
height_pos (tree.summarize_per a b items) = omega arith
height_pos (tree.summarize_by a by items) = omega arith
height_pos (tree.choice a b c) = omega arith
height_pos (tree.binding items a) = omega arith

-- ---- where a loop ends

stop : (level : Level) (d k : ℕ) (t : Tree) (s : List Lexeme) → 0 < k → link_at level s ≡ None → operations (read d) d level k t s ≡ Some (t, s)
unfolding operations
stop level d zero t s lt e = absurd (omega arith)
stop level d (suc k) t s lt e = rw e refl

stop_behind : (d k : ℕ) (t : Tree) (s : List Lexeme) → 0 < k → postfix_at s ≡ false → postfixes (read d) d k t s ≡ Some (t, s)
unfolding postfixes
stop_behind d zero t s lt e = absurd (omega arith)
stop_behind d (suc k) t s lt e = rw e refl

-- where a loop that stops gives its tree, reading gives it
ended : (tight level : Level) (start : ℕ → List Lexeme → Read) (loop : ℕ → ℕ → Tree → List Lexeme → Read) (xs : List Lexeme) (t : Tree)
    → ((s : List Lexeme) → Stops level s → Stops tight s) → ((d k : ℕ) (s : List Lexeme) → 0 < k → Stops level s → loop d k t s ≡ Some (t, s))
    → Goes tight start loop xs t → Gets level start xs t
ended tight level start loop xs t tighter_stops stops go = record {
  gets = λ d s lt st.
      let g = go.goes d s lt (tighter_stops s st) in
      g.2 ∙ stops d g.0 s (omega (arith, g.1)) st;
}

chain_ended : (level : Level) (xs : List Lexeme) (t : Tree) → ((s : List Lexeme) → Stops level s → Stops (tighter level) s) → ((s : List Lexeme) → Stops level s → link_at level s ≡ None) → Chained level xs t → Gets level (at level) xs t
chain_ended level xs t tight none = ended (tighter level) level (at level) (loop_at level) xs t tight (λ d k s lt st. stop level d k t s lt (none s st))

gets_at : (level : Level) (xs : List Lexeme) (t : Tree) → Reads level xs t → Gets level (at level) xs t
gets_at levels.Binding xs t r = r
gets_at levels.Restriction xs t r = chain_ended levels.Restriction xs t (λ s st. st.1) (λ s st. st.0) r
gets_at levels.Disjunction xs t r = chain_ended levels.Disjunction xs t (λ s st. st.1) (λ s st. st.0) r
gets_at levels.Conjunction xs t r = chain_ended levels.Conjunction xs t (λ s st. st.1) (λ s st. st.0) r
gets_at levels.Negation xs t r = r
gets_at levels.Comparison xs t r = r
gets_at levels.Relational xs t r = chain_ended levels.Relational xs t (λ s st. st.1) (λ s st. st.0) r
gets_at levels.Additive xs t r = chain_ended levels.Additive xs t (λ s st. st.1) (λ s st. st.0) r
gets_at levels.Multiplicative xs t r = chain_ended levels.Multiplicative xs t (λ s st. st.1) (λ s st. st.0) r
gets_at levels.Prefixed xs t r = r
gets_at levels.Postfixed xs t r = ended levels.Primary levels.Postfixed (at levels.Postfixed) postfix_loop xs t (λ s st. st.1) (λ d k s lt st. stop_behind d k t s lt st.0) r
gets_at levels.Primary xs t r = r

pub again_from : (level : Level) (xs : List Lexeme) (t : Tree) → Reads level xs t → Again level xs t
unfolding read
again_from level xs t r = record {
  reads = λ d s.
      elim d as (λ n. height t ≤ n → Stops level s → read n level (xs ++ s) ≡ Some (t, s)) [
        | zero ↦ λ lt st. absurd (omega (arith, height_pos t))
        | suc n ↦ λ lt st. (gets_at level xs t r).gets n s lt st
      ];
}

-- ---- an expression of the next level

-- the levels of operators that group to the left read their first operand at the next
chain_alone : (level : Level) (xs : List Lexeme) (t : Tree) → ((d : ℕ) (ts : List Lexeme) → at level d ts ≡ chain (read d) d level (at (tighter level) d) ts) → Gets (tighter level) (at (tighter level)) xs t → Chained level xs t
unfolding chain
chain_alone level xs t is_chain r = record {
  goes = λ d s lt st.
      let e : (at (tighter level) d (xs ++ s) >>= λ x. loop_at level d (suc d) x.0 x.1) ≡ loop_at level d (suc d) t s = rw (r.gets d s lt st) refl in
      (suc d, omega (arith, height_pos t), is_chain d (xs ++ s) ∙ e);
}

restriction_chain : (d : ℕ) (ts : List Lexeme) → at levels.Restriction d ts ≡ chain (read d) d levels.Restriction (at levels.Disjunction d) ts
unfolding by_level restriction
restriction_chain d ts = refl

disjunction_chain : (d : ℕ) (ts : List Lexeme) → at levels.Disjunction d ts ≡ chain (read d) d levels.Disjunction (at levels.Conjunction d) ts
unfolding by_level disjunction
disjunction_chain d ts = refl

conjunction_chain : (d : ℕ) (ts : List Lexeme) → at levels.Conjunction d ts ≡ chain (read d) d levels.Conjunction (at levels.Negation d) ts
unfolding by_level conjunction
conjunction_chain d ts = refl

relational_chain : (d : ℕ) (ts : List Lexeme) → at levels.Relational d ts ≡ chain (read d) d levels.Relational (at levels.Additive d) ts
unfolding by_level relational
relational_chain d ts = refl

additive_chain : (d : ℕ) (ts : List Lexeme) → at levels.Additive d ts ≡ chain (read d) d levels.Additive (at levels.Multiplicative d) ts
unfolding by_level additive
additive_chain d ts = refl

multiplicative_chain : (d : ℕ) (ts : List Lexeme) → at levels.Multiplicative d ts ≡ chain (read d) d levels.Multiplicative (at levels.Prefixed d) ts
unfolding by_level multiplicative
multiplicative_chain d ts = refl

binding_alone : (xs : List Lexeme) (t : Tree) → Begins levels.Restriction xs → Gets levels.Restriction (at levels.Restriction) xs t → Reads levels.Binding xs t
unfolding by_level binding
binding_alone xs t b r = record { gets = λ d s lt st. let e : expect (keyword k.With) (xs ++ s) ≡ None = begins_no (keyword k.With) false true xs s refl b in rw e (r.gets d s lt st) }

negation_alone : (xs : List Lexeme) (t : Tree) → Begins levels.Comparison xs → Gets levels.Comparison (at levels.Comparison) xs t → Reads levels.Negation xs t
unfolding by_level negation_expression
negation_alone xs t b r = record { gets = λ d s lt st. let e : expect (keyword k.Not) (xs ++ s) ≡ None = begins_no (keyword k.Not) false false xs s refl b in rw e (r.gets d s lt st) }

comparison_alone : (xs : List Lexeme) (t : Tree) → Gets levels.Relational (at levels.Relational) xs t → Reads levels.Comparison xs t
unfolding by_level comparison_expression
comparison_alone xs t r = record { gets = λ d s lt st. rw (r.gets d s lt st.1, st.0) refl }

prefixed_alone : (xs : List Lexeme) (t : Tree) → IsPlain xs → Gets levels.Postfixed (at levels.Postfixed) xs t → Reads levels.Prefixed xs t
unfolding by_level unary_expression
prefixed_alone xs t p r = record {
  gets = λ d s lt st.
      let before : prefix_at (xs ++ s) ≡ None = p.no_prefix s in
      let extraction : extraction_at (xs ++ s) ≡ None = p.no_extraction s st.1.1 in
      rw (before, extraction) (r.gets d s lt st);
}

postfixed_alone : (xs : List Lexeme) (t : Tree) → Gets levels.Primary (at levels.Primary) xs t → Reads levels.Postfixed xs t
unfolding by_level postfix_expression
postfixed_alone xs t r = record { goes = λ d s lt st. (suc d, omega (arith, height_pos t), rw (r.gets d s lt st) refl) }

pub alone : (level : Level) (xs : List Lexeme) (t : Tree) → Begins (tighter level) xs → Plain (tighter level) xs → Reads (tighter level) xs t → Reads level xs t
alone levels.Binding xs t b p r = binding_alone xs t b (gets_at levels.Restriction xs t r)
alone levels.Restriction xs t b p r = chain_alone levels.Restriction xs t restriction_chain (gets_at levels.Disjunction xs t r)
alone levels.Disjunction xs t b p r = chain_alone levels.Disjunction xs t disjunction_chain (gets_at levels.Conjunction xs t r)
alone levels.Conjunction xs t b p r = chain_alone levels.Conjunction xs t conjunction_chain (gets_at levels.Negation xs t r)
alone levels.Negation xs t b p r = negation_alone xs t b (gets_at levels.Comparison xs t r)
alone levels.Comparison xs t b p r = comparison_alone xs t (gets_at levels.Relational xs t r)
alone levels.Relational xs t b p r = chain_alone levels.Relational xs t relational_chain (gets_at levels.Additive xs t r)
alone levels.Additive xs t b p r = chain_alone levels.Additive xs t additive_chain (gets_at levels.Multiplicative xs t r)
alone levels.Multiplicative xs t b p r = chain_alone levels.Multiplicative xs t multiplicative_chain (gets_at levels.Prefixed xs t r)
alone levels.Prefixed xs t b p r = prefixed_alone xs t p (gets_at levels.Postfixed xs t r)
alone levels.Postfixed xs t b p r = postfixed_alone xs t (gets_at levels.Primary xs t r)
alone levels.Primary xs t b p r = r

-- ---- operators

linked_height : (a : Tree) (op : Link) (b : Tree) → height (linked_tree a op b) ≡ max (height a) (height b) + 1
linked_height a links.Where b = refl
linked_height a (links.Operator op) b = refl

turn : (op : Link) (d k : ℕ) (a b : Tree) (ts s : List Lexeme) → read d (tighter (link_level op)) ts ≡ Some (b, s) → height (linked_tree a op b) ≤ suc d
    → operations (read d) d (link_level op) (suc k) a (link_words op ++ ts) ≡ operations (read d) d (link_level op) k (linked_tree a op b) s
unfolding operations
turn op d k a b ts s h lt = rw (is_link op ts, h, le-leb _ _ lt) refl

longer : (op : Link) (xs ys : List Lexeme) (a b : Tree) → Chained (link_level op) xs a → Again (tighter (link_level op)) ys b → Chained (link_level op) (xs ++ (link_words op ++ ys)) (linked_tree a op b)
longer op xs ys a b go r = record {
  goes = λ d s lt st.
      let high = linked_height a op b in
      let g = go.goes d (link_words op ++ (ys ++ s)) (omega (arith, high)) (link_stops op (ys ++ s)) in
      let regroup : (xs ++ (link_words op ++ ys)) ++ s ≡ xs ++ (link_words op ++ (ys ++ s)) = append_assoc xs (link_words op ++ ys) s ∙ ap (λ (x : List Lexeme). xs ++ x) (append_assoc (link_words op) ys s) in
      elim g.0 as (λ k. suc d < k + height a → at (link_level op) d (xs ++ (link_words op ++ (ys ++ s))) ≡ loop_at (link_level op) d k a (link_words op ++ (ys ++ s))
      → (k : ℕ) × (suc d < k + height (linked_tree a op b)) × (at (link_level op) d ((xs ++ (link_words op ++ ys)) ++ s) ≡ loop_at (link_level op) d k (linked_tree a op b) s)) [
        | zero ↦ λ l e. absurd (omega arith)
        | suc k ↦ λ l e. (k, omega (arith, high), ap (at (link_level op) d) regroup ∙ (e ∙ turn op d k a b (ys ++ s) s (r.reads d s (omega (arith, high)) st) lt))
      ] g.1 g.2;
}

between_chained : (op : Link) (xs ys : List Lexeme) (a b : Tree) → Chained (link_level op) xs a → Reads (tighter (link_level op)) ys b → Chained (link_level op) (xs ++ (link_words op ++ ys)) (linked_tree a op b)
between_chained op xs ys a b p q = longer op xs ys a b p (again_from (tighter (link_level op)) ys b q)

pub link_reads : (op : Link) (xs ys : List Lexeme) (a b : Tree) → Reads (link_level op) xs a → Reads (tighter (link_level op)) ys b → Reads (link_level op) (xs ++ (link_words op ++ ys)) (linked_tree a op b)
link_reads links.Where xs ys a b p q = between_chained links.Where xs ys a b p q
link_reads (links.Operator operators.Or) xs ys a b p q = between_chained (links.Operator operators.Or) xs ys a b p q
link_reads (links.Operator operators.And) xs ys a b p q = between_chained (links.Operator operators.And) xs ys a b p q
link_reads (links.Operator operators.Union) xs ys a b p q = between_chained (links.Operator operators.Union) xs ys a b p q
link_reads (links.Operator operators.Intersect) xs ys a b p q = between_chained (links.Operator operators.Intersect) xs ys a b p q
link_reads (links.Operator operators.Minus) xs ys a b p q = between_chained (links.Operator operators.Minus) xs ys a b p q
link_reads (links.Operator operators.Join) xs ys a b p q = between_chained (links.Operator operators.Join) xs ys a b p q
link_reads (links.Operator operators.Times) xs ys a b p q = between_chained (links.Operator operators.Times) xs ys a b p q
link_reads (links.Operator operators.Compose) xs ys a b p q = between_chained (links.Operator operators.Compose) xs ys a b p q
link_reads (links.Operator operators.Matching) xs ys a b p q = between_chained (links.Operator operators.Matching) xs ys a b p q
link_reads (links.Operator operators.NotMatching) xs ys a b p q = between_chained (links.Operator operators.NotMatching) xs ys a b p q
link_reads (links.Operator operators.DisjointUnion) xs ys a b p q = between_chained (links.Operator operators.DisjointUnion) xs ys a b p q
link_reads (links.Operator operators.IncludedMinus) xs ys a b p q = between_chained (links.Operator operators.IncludedMinus) xs ys a b p q
link_reads (links.Operator operators.Add) xs ys a b p q = between_chained (links.Operator operators.Add) xs ys a b p q
link_reads (links.Operator operators.Subtract) xs ys a b p q = between_chained (links.Operator operators.Subtract) xs ys a b p q
link_reads (links.Operator operators.Concatenate) xs ys a b p q = between_chained (links.Operator operators.Concatenate) xs ys a b p q
link_reads (links.Operator operators.Multiply) xs ys a b p q = between_chained (links.Operator operators.Multiply) xs ys a b p q
link_reads (links.Operator operators.Divide) xs ys a b p q = between_chained (links.Operator operators.Divide) xs ys a b p q

pub comparison_reads : (op : Comparison) (xs ys : List Lexeme) (a b : Tree) → Reads levels.Relational xs a → Reads levels.Relational ys b → Reads levels.Comparison (xs ++ (comparison_word op ∷ ys)) (tree.compare a op b)
unfolding by_level comparison_expression compared_to
comparison_reads op xs ys a b p q = record {
  gets = λ d s lt st.
      let left = gets_at levels.Relational xs a p in
      let right = again_from levels.Relational ys b q in
      rw (append_assoc xs (comparison_word op ∷ ys) s, left.gets d (comparison_word op ∷ (ys ++ s)) (omega arith) (comparison_stops op (ys ++ s)), is_comparison op (ys ++ s), right.reads d s (omega arith) st.1, le-leb _ _ lt) refl;
}

-- ---- before and after

pub negation_reads : (xs : List Lexeme) (a : Tree) → Again levels.Negation xs a → Reads levels.Negation (keyword k.Not ∷ xs) (tree.prefix prefixes.Not a)
unfolding by_level negation_expression prefix_expression expect
negation_reads xs a r = record { gets = λ d s lt st. rw (r.reads d s (omega arith) st) refl }

pub minus_reads : (xs : List Lexeme) (a : Tree) → BeginsOtherwise xs → Begins levels.Prefixed xs → Again levels.Prefixed xs a → Reads levels.Prefixed (sign signs.Minus ∷ xs) (tree.prefix prefixes.Negate a)
unfolding by_level unary_expression prefix_at prefix_expression
minus_reads [] a h b r = absurd b
minus_reads (lexeme.number n ∷ xs) a h b r = absurd h
minus_reads (lexeme.name n ∷ xs) a h b r = record { gets = λ d s lt st. rw (r.reads d s (omega arith) st) refl }
minus_reads (lexeme.component n ∷ xs) a h b r = record { gets = λ d s lt st. rw (r.reads d s (omega arith) st) refl }
minus_reads (lexeme.text n ∷ xs) a h b r = record { gets = λ d s lt st. rw (r.reads d s (omega arith) st) refl }
minus_reads (keyword w ∷ xs) a h b r = record { gets = λ d s lt st. rw (r.reads d s (omega arith) st) refl }
minus_reads (sign w ∷ xs) a h b r = record { gets = λ d s lt st. rw (r.reads d s (omega arith) st) refl }
minus_reads (lexeme.bad ∷ xs) a h b r = record { gets = λ d s lt st. rw (r.reads d s (omega arith) st) refl }

pub closure_reads : (xs : List Lexeme) (a : Tree) → Again levels.Prefixed xs a → Reads levels.Prefixed (keyword k.Tclose ∷ xs) (tree.prefix prefixes.TransitiveClosure a)
unfolding by_level unary_expression prefix_at prefix_expression
closure_reads xs a r = record { gets = λ d s lt st. rw (r.reads d s (omega arith) st) refl }

pub tuple_from_reads : (xs : List Lexeme) (a : Tree) → Again levels.Prefixed xs a → Reads levels.Prefixed (keyword k.Tuple ∷ (from ∷ xs)) (tree.prefix prefixes.TupleFrom a)
unfolding by_level unary_expression prefix_at prefix_expression expect
tuple_from_reads xs a r = record { gets = λ d s lt st. rw (r.reads d s (omega arith) st) refl }

pub extraction_reads : (n : Text) (xs : List Lexeme) (a : Tree) → Again levels.Prefixed xs a → Reads levels.Prefixed (lexeme.name n ∷ (from ∷ xs)) (tree.extract n a)
unfolding by_level unary_expression prefix_at extraction_at extract_expression expect
extraction_reads n xs a r = record { gets = λ d s lt st. rw (r.reads d s (omega arith) st) refl }

behind_turn : (d k : ℕ) (a : Tree) (xs : List Lexeme) (p : Postfix) (s : List Lexeme) → PostfixSpelling xs p → height (tree.postfix a p) ≤ suc d
    → postfixes (read d) d (suc k) a (xs ++ s) ≡ postfixes (read d) d k (tree.postfix a p) s
unfolding postfixes
behind_turn d k a xs p s q lt = rw (postfix_is q s, postfix_again q s, le-leb _ _ lt) refl

pub behind_reads : (xs ys : List Lexeme) (a : Tree) (p : Postfix) → Reads levels.Postfixed xs a → PostfixSpelling ys p → Reads levels.Postfixed (xs ++ ys) (tree.postfix a p)
behind_reads xs ys a p go q = record {
  goes = λ d s lt st.
      let g = go.goes d (ys ++ s) (omega arith) (postfix_stops q s) in
      elim g.0 as (λ k. suc d < k + height a → at levels.Postfixed d (xs ++ (ys ++ s)) ≡ postfix_loop d k a (ys ++ s)
      → (k : ℕ) × (suc d < k + height (tree.postfix a p)) × (at levels.Postfixed d ((xs ++ ys) ++ s) ≡ postfix_loop d k (tree.postfix a p) s)) [
        | zero ↦ λ l e. absurd (omega arith)
        | suc k ↦ λ l e. (k, omega arith, ap (at levels.Postfixed d) (append_assoc xs ys s) ∙ (e ∙ behind_turn d k a ys p s q lt))
      ] g.1 g.2;
}
