-- What is read as an expression is spelled, and not too high.
use Rattle.std.proofs.Common.{◌≡◌, ℕ, zero, suc, ◌≤◌, Bool, true, false, cond, leb, List, [], ◌∷◌, ◌++◌, Some, None, sym, subst, append_assoc, arith, inl, inr}
use Rattle.std.proofs.lemmas.Bool.{leb-true}
use Rattle.std.proofs.lemmas.List.{append-nil}
use Rattle.td_tree.specs.declared.keyword.Keyword.TheVariants as k
use Rattle.td_tree.specs.declared.operator.Comparison.{Comparison}
use Rattle.td_tree.specs.declared.operator.Level.{Level}
use Rattle.td_tree.specs.declared.operator.Level.TheVariants as levels
use Rattle.td_parse.specs.declared.operators.Link.{Link}
use Rattle.td_parse.specs.declared.operators.Link.TheVariants as links
use Rattle.td_tree.specs.declared.operator.Prefix.{Prefix}
use Rattle.td_tree.specs.declared.token.Sign.TheVariants as signs
use Rattle.td_tree.specs.model.Grammar as grammar
use Rattle.td_tree.specs.model.Grammar.{loosest, tighter, comparison_word, Spelling, looser, between, negation, comparison, minus, closure, tuple_from, extraction, behind}
use Rattle.td_tree.specs.model.Heights.{height}
use Rattle.td_tree.specs.model.Lexemes.{Lexeme, keyword, sign}
use Rattle.td_parse.specs.code.Reading.{Read, read_postfix, primary, postfixes, postfix_expression, extract_expression, prefix_expression, unary_expression, operations, chain, multiplicative, additive, relational, compared_to, comparison_expression, negation_expression, conjunction, disjunction, restriction, setting, binding_expression, binding, by_level, read}
use Rattle.td_parse.specs.code.ReadingOperators.{link_level, link_words, linked_tree, link_at, comparison_at, prefix_at, extraction_at, postfix_at}
use Rattle.td_parse.specs.code.ReadingSteps.{◌>>=◌, expect, in_parentheses_read, list_by_commas}
use Rattle.td_tree.specs.model.Trees as tree
use Rattle.td_tree.specs.model.Trees.{Tree}
use Rattle.td_parse.proofs.SoundNames.{after_word, postfix_sound}
use Rattle.td_parse.proofs.SoundOperators.{link_is, comparison_is, PrefixFront, minus_front, closure_front, tuple_front, prefix_is, otherwise, extraction_is}
use Rattle.td_parse.proofs.SoundParts.{IsAt, Inside, are_settings, setting_sound}
use Rattle.td_parse.proofs.SoundPrimary.{primary_sound}
use Rattle.td_parse.proofs.SoundSteps.{some, bind_some, guard_some, either_cases, pair_is, Front, glue, expect_front, Takes, Sound, retake, enclosed_sound, separated_sound}

-- ---- loops

-- what is spelled, after a front that spells the tree on the left
record Extends (level : Level) (d : ℕ) (left ts : List Lexeme) (t : Tree) (rest : List Lexeme) : Type 0 where
  front : List Lexeme
  spelled : Spelling level (left ++ front) t
  parts : Front ts front rest
  low : height t ≤ d

-- the loop ends
extends_none : (level : Level) (d : ℕ) (left ts : List Lexeme) (a t : Tree) (rest : List Lexeme) → some {A = Tree × List Lexeme} (a, ts) ≡ some {A = Tree × List Lexeme} (t, rest) → Spelling level left a → height a ≤ d → Extends level d left ts t rest
extends_none level d left ts a t rest e p lt =
    let g = pair_is a t ts rest e in
    subst (λ (u : Tree). Extends level d left ts u rest) g.0 (record { front = []; spelled = subst (λ (x : List Lexeme). Spelling level x a) (sym (append-nil left)) p; parts = record { parts = g.1 }; low = lt })

-- the loop goes on, after these lexemes
extends_more : (level : Level) (d : ℕ) (left ys ts after : List Lexeme) (t : Tree) (rest : List Lexeme) → Front ts ys after → Extends level d (left ++ ys) after t rest → Extends level d left ts t rest
extends_more level d left ys ts after t rest e m = record {
  front = ys ++ m.front;
  spelled = subst (λ (x : List Lexeme). Spelling level x t) (append_assoc left ys m.front) m.spelled;
  parts = glue e m.parts;
  low = m.low;
}

-- a tree, and the loop after it
extended : (level : Level) (d : ℕ) (ts front after : List Lexeme) (t : Tree) (rest : List Lexeme) → Front ts front after → Extends level d front after t rest → Takes (IsAt level d) ts t rest
extended level d ts front after t rest e m = record { front = front ++ m.front; spelled = record { spelled = m.spelled; low = m.low }; parts = glue e m.parts }

linked_spelled : (op : Link) (xs ys : List Lexeme) (a b : Tree) → Spelling (link_level op) xs a → Spelling (tighter (link_level op)) ys b → Spelling (link_level op) (xs ++ (link_words op ++ ys)) (linked_tree a op b)
linked_spelled links.Where xs ys a b p q = grammar.restriction p q
linked_spelled (links.Operator op) xs ys a b p q = between p q

between_at : (level : Level) (op : Link) (xs ys : List Lexeme) (a b : Tree) → link_level op ≡ level → Spelling level xs a → Spelling (tighter level) ys b → Spelling level (xs ++ (link_words op ++ ys)) (linked_tree a op b)
between_at level op xs ys a b e = subst (λ (l : Level). Spelling l xs a → Spelling (tighter l) ys b → Spelling l (xs ++ (link_words op ++ ys)) (linked_tree a op b)) e (linked_spelled op xs ys a b)

takes_looser : (level : Level) (d : ℕ) (ts : List Lexeme) (t : Tree) (rest : List Lexeme) → Takes (IsAt (tighter level) d) ts t rest → Takes (IsAt level d) ts t rest
takes_looser level d ts t rest k = record { front = k.front; spelled = record { spelled = looser k.spelled.spelled; low = k.spelled.low }; parts = k.parts }

-- ---- before an operand

-- an operator before an operand that is spelled
prefix_takes : (d : ℕ) (ts : List Lexeme) (op : Prefix) (after xs : List Lexeme) (a : Tree) (rest : List Lexeme) → PrefixFront ts op after → Front after xs rest → IsAt levels.Prefixed d xs a → Takes (IsAt levels.Prefixed (suc d)) ts (tree.prefix op a) rest
prefix_takes d _ _ _ xs a rest (minus_front {after} n) f p = record { front = _; spelled = record { spelled = minus (otherwise xs after rest f.parts n) p.spelled; low = omega (arith, p.low) }; parts = after_word _ f }
prefix_takes d _ _ _ xs a rest (closure_front {after}) f p = record { front = _; spelled = record { spelled = closure p.spelled; low = omega (arith, p.low) }; parts = after_word (keyword k.Tclose) f }
prefix_takes d _ _ _ xs a rest (tuple_front {after}) f p = record { front = _; spelled = record { spelled = tuple_from p.spelled; low = omega (arith, p.low) }; parts = after_word (keyword k.Tuple) (after_word (keyword k.From) f) }

-- ---- levels

module _ (inner : Level → List Lexeme → Read) (d : ℕ) (inside : Inside d inner) where
  -- whether an operator is behind
  behind_step : (b : Bool) (n : ℕ) (left : List Lexeme) (a : Tree) (ts : List Lexeme) (t : Tree) (rest : List Lexeme) → Spelling levels.Postfixed left a → height a ≤ suc d
      → ((left after : List Lexeme) (a : Tree) → Spelling levels.Postfixed left a → height a ≤ suc d → postfixes inner d n a after ≡ Some (t, rest) → Extends levels.Postfixed (suc d) left after t rest)
      → cond b (read_postfix ts >>= λ x. cond (leb (height (tree.postfix a x.0)) (suc d)) (postfixes inner d n (tree.postfix a x.0) x.1) None) (some {A = Tree × List Lexeme} (a, ts)) ≡ Some (t, rest)
      → Extends levels.Postfixed (suc d) left ts t rest
  behind_step false n left a ts t rest p lt more e = extends_none levels.Postfixed (suc d) left ts a t rest e p lt
  behind_step true n left a ts t rest p lt more e =
      let b = bind_some (read_postfix ts) _ _ e in
      let g = guard_some (leb (height (tree.postfix a b.0.0)) (suc d)) _ _ b.2 in
      let q = postfix_sound ts b.0.0 b.0.1 b.1 in
      extends_more levels.Postfixed (suc d) left q.front ts b.0.1 t rest q.parts (more (left ++ q.front) b.0.1 (tree.postfix a b.0.0) (behind p q.spelled) (leb-true _ _ g.0) g.1)

  postfixes_sound : (n : ℕ) (left : List Lexeme) (a : Tree) (ts : List Lexeme) (t : Tree) (rest : List Lexeme) → Spelling levels.Postfixed left a → height a ≤ suc d
      → postfixes inner d n a ts ≡ Some (t, rest) → Extends levels.Postfixed (suc d) left ts t rest
  unfolding postfixes
  postfixes_sound zero left a ts t rest p lt e = absurd cc
  postfixes_sound (suc n) left a ts t rest p lt e = behind_step (postfix_at ts) n left a ts t rest p lt (λ more after b q l f. postfixes_sound n more b after t rest q l f) e

  postfixed_sound : Sound (IsAt levels.Postfixed (suc d)) (postfix_expression inner d)
  unfolding postfix_expression
  postfixed_sound ts t rest e =
      let b = bind_some (primary inner d ts) _ _ e in
      let q = primary_sound inner d inside ts b.0.0 b.0.1 b.1 in
      extended levels.Postfixed (suc d) ts q.front b.0.1 t rest q.parts (postfixes_sound (suc d) q.front b.0.0 b.0.1 t rest (looser q.spelled.spelled) q.spelled.low b.2)

  prefixed_sound : Sound (IsAt levels.Prefixed (suc d)) (unary_expression inner d)
  unfolding unary_expression extract_expression prefix_expression
  prefixed_sound ts t rest e =
      elim (either_cases _ _ (prefix_at ts) _ e) [
        | inl g ↦
            elim (either_cases _ _ (extraction_at ts) _ g.1) [
              | inl h ↦ takes_looser levels.Prefixed (suc d) ts t rest (postfixed_sound ts t rest h.1)
              | inr h ↦
                  let b = bind_some (inner levels.Prefixed h.0.1) _ _ h.2 in
                  let q = inside levels.Prefixed h.0.1 b.0.0 b.0.1 b.1 in
                  retake (IsAt levels.Prefixed (suc d)) b.2 (record { spelled = extraction q.spelled.spelled; low = omega (arith, q.spelled.low) }) (glue (extraction_is ts h.0.0 h.0.1 h.1) q.parts)
            ]
        | inr g ↦
            let b = bind_some (inner levels.Prefixed g.0.1) _ _ g.2 in
            let q = inside levels.Prefixed g.0.1 b.0.0 b.0.1 b.1 in
            let r = prefix_takes d ts g.0.0 g.0.1 q.front b.0.0 b.0.1 (prefix_is ts g.0.0 g.0.1 g.1) q.parts q.spelled in
            retake (IsAt levels.Prefixed (suc d)) b.2 r.spelled r.parts
      ]

  operations_sound : (level : Level) (n : ℕ) (left : List Lexeme) (a : Tree) (ts : List Lexeme) (t : Tree) (rest : List Lexeme) → Spelling level left a → height a ≤ suc d
      → operations inner d level n a ts ≡ Some (t, rest) → Extends level (suc d) left ts t rest
  unfolding operations
  operations_sound level zero left a ts t rest p lt e = absurd cc
  operations_sound level (suc n) left a ts t rest p lt e =
      elim (either_cases _ _ (link_at level ts) _ e) [
        | inl g ↦ extends_none level (suc d) left ts a t rest g.1 p lt
        | inr g ↦
            let b = bind_some (inner (tighter level) g.0.1) _ _ g.2 in
            let c = guard_some (leb (height (linked_tree a g.0.0 b.0.0)) (suc d)) _ _ b.2 in
            let o = link_is level ts g.0.0 g.0.1 g.1 in
            let q = inside (tighter level) g.0.1 b.0.0 b.0.1 b.1 in
            extends_more level (suc d) left (link_words g.0.0 ++ q.front) ts b.0.1 t rest (glue o.parts q.parts)
            (operations_sound level n (left ++ (link_words g.0.0 ++ q.front)) (linked_tree a g.0.0 b.0.0) b.0.1 t rest (between_at level g.0.0 left q.front a b.0.0 o.stands p q.spelled.spelled) (leb-true _ _ c.0) c.1)
      ]

  chain_sound : (level : Level) (first : List Lexeme → Read) → Sound (IsAt (tighter level) (suc d)) first → Sound (IsAt level (suc d)) (chain inner d level first)
  unfolding chain
  chain_sound level first sound ts t rest e =
      let b = bind_some (first ts) _ _ e in
      let q = sound ts b.0.0 b.0.1 b.1 in
      extended level (suc d) ts q.front b.0.1 t rest q.parts (operations_sound level (suc d) q.front b.0.0 b.0.1 t rest (looser q.spelled.spelled) q.spelled.low b.2)

  multiplicative_sound : Sound (IsAt levels.Multiplicative (suc d)) (multiplicative inner d)
  unfolding multiplicative
  multiplicative_sound = chain_sound levels.Multiplicative (unary_expression inner d) prefixed_sound

  additive_sound : Sound (IsAt levels.Additive (suc d)) (additive inner d)
  unfolding additive
  additive_sound = chain_sound levels.Additive (multiplicative inner d) multiplicative_sound

  relational_sound : Sound (IsAt levels.Relational (suc d)) (relational inner d)
  unfolding relational
  relational_sound = chain_sound levels.Relational (additive inner d) additive_sound

  compared_to_sound : (ts front : List Lexeme) (a : Tree) (op : Comparison) (after last : List Lexeme) (t : Tree) (rest : List Lexeme) → Spelling levels.Relational front a → Front ts front after → Front after (comparison_word op ∷ []) last
      → compared_to inner d a op last ≡ Some (t, rest) → Takes (IsAt levels.Comparison (suc d)) ts t rest
  unfolding compared_to
  compared_to_sound ts front a op after last t rest p parts word e =
      let b = bind_some (inner levels.Relational last) _ _ e in
      let c = guard_some (leb (height (tree.compare a op b.0.0)) (suc d)) _ _ b.2 in
      let q = inside levels.Relational last b.0.0 b.0.1 b.1 in
      retake (IsAt levels.Comparison (suc d)) c.1 (record { spelled = comparison p q.spelled.spelled; low = leb-true _ _ c.0 }) (glue parts (glue word q.parts))

  compared_sound : Sound (IsAt levels.Comparison (suc d)) (comparison_expression inner d)
  unfolding comparison_expression
  compared_sound ts t rest e =
      let b = bind_some (relational inner d ts) _ _ e in
      let q = relational_sound ts b.0.0 b.0.1 b.1 in
      elim (either_cases _ _ (comparison_at b.0.1) _ b.2) [
        | inl g ↦ retake (IsAt levels.Comparison (suc d)) g.1 (record { spelled = looser q.spelled.spelled; low = q.spelled.low }) q.parts
        | inr g ↦ compared_to_sound ts q.front b.0.0 g.0.0 b.0.1 g.0.1 t rest q.spelled.spelled q.parts (comparison_is b.0.1 g.0.0 g.0.1 g.1) g.2
      ]

  negated_sound : Sound (IsAt levels.Negation (suc d)) (negation_expression inner d)
  unfolding negation_expression prefix_expression
  negated_sound ts t rest e =
      elim (either_cases _ _ (expect (keyword k.Not) ts) _ e) [
        | inl g ↦ takes_looser levels.Negation (suc d) ts t rest (compared_sound ts t rest g.1)
        | inr g ↦
            let b = bind_some (inner levels.Negation g.0) _ _ g.2 in
            let q = inside levels.Negation g.0 b.0.0 b.0.1 b.1 in
            retake (IsAt levels.Negation (suc d)) b.2 (record { spelled = negation q.spelled.spelled; low = omega (arith, q.spelled.low) }) (glue (expect_front (keyword k.Not) ts g.0 g.1) q.parts)
      ]

  conjunction_sound : Sound (IsAt levels.Conjunction (suc d)) (conjunction inner d)
  unfolding conjunction
  conjunction_sound = chain_sound levels.Conjunction (negation_expression inner d) negated_sound

  disjunction_sound : Sound (IsAt levels.Disjunction (suc d)) (disjunction inner d)
  unfolding disjunction
  disjunction_sound = chain_sound levels.Disjunction (conjunction inner d) conjunction_sound

  restriction_sound : Sound (IsAt levels.Restriction (suc d)) (restriction inner d)
  unfolding restriction
  restriction_sound = chain_sound levels.Restriction (disjunction inner d) disjunction_sound

  named_sound : (ts after : List Lexeme) (t : Tree) (rest : List Lexeme) → expect (keyword k.With) ts ≡ Some after → binding_expression inner d after ≡ Some (t, rest) → Takes (IsAt levels.Binding (suc d)) ts t rest
  unfolding binding_expression
  named_sound ts after t rest word e =
      let b = bind_some (in_parentheses_read (list_by_commas (setting inner d)) after) _ _ e in
      let c = bind_some (expect (sign signs.Colon) b.0.1) _ _ b.2 in
      let f = bind_some (inner loosest c.0) _ _ c.2 in
      let l = enclosed_sound (list_by_commas (setting inner d)) (separated_sound (setting inner d) (setting_sound inner d inside)) after b.0.0 b.0.1 b.1 in
      let q = inside loosest c.0 f.0.0 f.0.1 f.1 in
      let all = are_settings l.spelled in
      retake (IsAt levels.Binding (suc d)) f.2 (record { spelled = grammar.binding all.spelled q.spelled.spelled; low = omega (arith, all.low, q.spelled.low) })
      (glue (expect_front (keyword k.With) ts after word) (glue l.parts (glue (expect_front (sign signs.Colon) b.0.1 c.0 c.1) q.parts)))

  binding_sound : Sound (IsAt levels.Binding (suc d)) (binding inner d)
  unfolding binding
  binding_sound ts t rest e =
      elim (either_cases _ _ (expect (keyword k.With) ts) _ e) [
        | inl g ↦ takes_looser levels.Binding (suc d) ts t rest (restriction_sound ts t rest g.1)
        | inr g ↦ named_sound ts g.0 t rest g.1 g.2
      ]

  by_level_sound : Inside (suc d) (by_level inner d)
  unfolding by_level
  by_level_sound levels.Binding = binding_sound
  by_level_sound levels.Restriction = restriction_sound
  by_level_sound levels.Disjunction = disjunction_sound
  by_level_sound levels.Conjunction = conjunction_sound
  by_level_sound levels.Negation = negated_sound
  by_level_sound levels.Comparison = compared_sound
  by_level_sound levels.Relational = relational_sound
  by_level_sound levels.Additive = additive_sound
  by_level_sound levels.Multiplicative = multiplicative_sound
  by_level_sound levels.Prefixed = prefixed_sound
  by_level_sound levels.Postfixed = postfixed_sound
  by_level_sound levels.Primary = primary_sound inner d inside

pub sound : (d : ℕ) → Inside d (read d)
unfolding read
sound zero level ts t rest e = absurd cc
sound (suc d) level ts t rest e = by_level_sound (read d) d (sound d) level ts t rest e
