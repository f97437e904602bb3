-- What is read as a primary expression is spelled, and not too high.
use Rattle.std.proofs.Common.{◌≡◌, ℕ, suc, ◌≤◌, Bool, true, false, cond, leb, List, [], ◌∷◌, ◌++◌, Some, refl, sym, ap, ◌∙◌, append_assoc, arith, inl, inr}
use Rattle.std.proofs.lemmas.Bool.{leb-true}
use Rattle.td_tree.specs.declared.keyword.Keyword.{Keyword}
use Rattle.td_tree.specs.declared.keyword.Keyword.TheVariants as k
use Rattle.td_tree.specs.declared.operator.Aggregate.{Aggregate}
use Rattle.td_tree.specs.declared.operator.Aggregate.TheVariants as aggregates
use Rattle.td_tree.specs.declared.operator.Level.{Level}
use Rattle.td_tree.specs.declared.operator.Level.TheVariants as levels
use Rattle.td_tree.specs.declared.operator.Measure.{Measure}
use Rattle.td_tree.specs.declared.operator.Measure.TheVariants as measures
use Rattle.td_tree.specs.declared.token.Sign.{Sign}
use Rattle.td_tree.specs.declared.token.Sign.TheVariants as signs
use Rattle.td_tree.specs.model.Grammar.{measure_word, aggregate_word, AttributeListSpelling, LiteralSpelling, number_literal, minus_literal, text_literal, true_literal, false_literal, dee_literal, dum_literal, loosest}
use Rattle.td_tree.specs.model.Grammar as grammar
use Rattle.td_tree.specs.model.Lexemes.{Lexeme, keyword, sign}
use Rattle.td_tree.specs.model.Lexemes as lexeme
use Rattle.td_tree.specs.model.Lists.{Listed, no_items, some_items, with_braces, with_parentheses}
use Rattle.td_tree.specs.model.Numbers.{numeral_limit}
use Rattle.td_parse.specs.code.Reading.{Read, named_from, numeral, negative, part, addition, setting, summaries, name_expression, component_of, measure_expression, aggregate_expression, headed_relation, elements, relation, tuple, extension_adding, extension_setting, extension, summary_per, summary_by, summarize_expression, choice, primary_of_word, primary_of_sign, primary}
use Rattle.td_parse.specs.code.Reading as reading
use Rattle.td_parse.specs.code.ReadingOperators.{call_at, heading_at}
use Rattle.td_parse.specs.code.ReadingSteps.{expect, read_up_to, in_parentheses_read, in_braces_read, list_by_commas, listed_to, attribute_list}
use Rattle.td_parse.specs.code.ReadingTypes.{relation_heading}
use Rattle.td_tree.specs.model.Trees as tree
use Rattle.td_tree.specs.model.Trees.{Text, Attributes, Literal, Tree, Summaries}
use Rattle.td_parse.proofs.AgainLists.{comma}
use Rattle.td_parse.proofs.SoundNames.{after_word, attributes_sound}
use Rattle.td_parse.proofs.SoundOperators.{call_is}
use Rattle.td_parse.proofs.SoundParts.{IsAt, are_expressions, are_listed, IsPart, are_parts, are_additions, are_settings, AreAdded, added, Inside, part_sound, addition_sound, setting_sound, summaries_sound}
use Rattle.td_parse.proofs.SoundSteps.{some, bind_some, guard_some, either_cases, Front, glue, expect_front, Takes, Sound, retake, up_to_sound, enclosed_sound, braced_sound, separated_sound, listed_sound}
use Rattle.td_parse.proofs.SoundTypes.{relation_heading_sound}

-- ---- literals

-- a primary expression with this first lexeme
abbrev TakesPrimary : ℕ → Lexeme → List Lexeme → Tree → List Lexeme → Type 0
TakesPrimary d x ts t rest = Takes (IsAt levels.Primary (suc d)) (x ∷ ts) t rest

-- one lexeme, or two, that spell a literal
literal_takes : (d : ℕ) (ts front after : List Lexeme) (l : Literal) (t : Tree) (rest : List Lexeme) → LiteralSpelling front l → Front ts front after
    → some {A = Tree × List Lexeme} (tree.literal l, after) ≡ some {A = Tree × List Lexeme} (t, rest) → Takes (IsAt levels.Primary (suc d)) ts t rest
literal_takes d ts front after l t rest p f e = retake (IsAt levels.Primary (suc d)) e (record { spelled = grammar.literal p; low = omega arith }) f

numeral_is : (minus : Bool) (n : ℕ) (ts : List Lexeme) (t : Tree) (rest : List Lexeme) → numeral minus n ts ≡ Some (t, rest)
    → (n ≤ numeral_limit minus) × (some {A = Tree × List Lexeme} (tree.literal (tree.number minus n), ts) ≡ some {A = Tree × List Lexeme} (t, rest))
unfolding numeral
numeral_is minus n ts t rest e =
    let g = guard_some (leb n (numeral_limit minus)) _ _ e in
    (leb-true n (numeral_limit minus) g.0, g.1)

negative_sound : (d : ℕ) (ts : List Lexeme) (t : Tree) (rest : List Lexeme) → negative ts ≡ Some (t, rest) → TakesPrimary d (sign signs.Minus) ts t rest
unfolding negative
negative_sound d (lexeme.number n ∷ ts) t rest e =
    let g = numeral_is true n ts t rest e in
    literal_takes d _ (sign signs.Minus ∷ (lexeme.number n ∷ [])) ts (tree.number true n) t rest (minus_literal g.0) (record { parts = refl }) g.1
negative_sound d _ t rest e = absurd cc

-- ---- productions

one_word : (d : ℕ) (x : Lexeme) (ts : List Lexeme) (l : Literal) (t : Tree) (rest : List Lexeme) → LiteralSpelling (x ∷ []) l → some {A = Tree × List Lexeme} (tree.literal l, ts) ≡ some {A = Tree × List Lexeme} (t, rest) → TakesPrimary d x ts t rest
one_word d x ts l t rest p e = literal_takes d (x ∷ ts) (x ∷ []) ts l t rest p (record { parts = refl }) e

tuple_spelled : {d : ℕ} {xs : List Lexeme} {all : List (Text × Tree)} → Listed (IsPart d) xs all → IsAt levels.Primary (suc d) (keyword k.Tuple ∷ with_braces xs) (tree.tuple (named_from all))
tuple_spelled no_items = record { spelled = grammar.empty_tuple; low = omega arith }
tuple_spelled (some_items p) =
    let r = are_parts p in
    record { spelled = grammar.tuple r.spelled; low = omega (arith, r.low) }

per_spelled : {d : ℕ} {xs ys zs : List Lexeme} {a b : Tree} {all : Summaries} → IsAt loosest d xs a → IsAt loosest d ys b → AreAdded d zs all
    → IsAt levels.Primary (suc d) (keyword k.Summarize ∷ (xs ++ (keyword k.Per ∷ (with_parentheses ys ++ zs)))) (tree.summarize_per a b all)
per_spelled p q (added r) = record { spelled = grammar.summary_per p.spelled q.spelled r.spelled; low = omega (arith, p.low, q.low, r.low) }

by_spelled : {d : ℕ} {xs ys zs : List Lexeme} {a : Tree} {by : Attributes} {all : Summaries} → IsAt loosest d xs a → AttributeListSpelling ys by → AreAdded d zs all
    → IsAt levels.Primary (suc d) (keyword k.Summarize ∷ (xs ++ (keyword k.By ∷ (ys ++ zs)))) (tree.summarize_by a by all)
by_spelled p q (added r) = record { spelled = grammar.summary_by p.spelled q r.spelled; low = omega (arith, p.low, r.low) }

-- a value up to a word, and what follows the word
word_front : (xs : List Lexeme) (w : Lexeme) {ts ys after rest : List Lexeme} → Front ts (xs ++ (w ∷ [])) after → Front after ys rest → Front ts (xs ++ (w ∷ ys)) rest
word_front xs w {ts} {ys} {after} {rest} p q = record { parts = (glue p q).parts ∙ ap (λ (l : List Lexeme). l ++ rest) (append_assoc xs (w ∷ []) ys) }

-- two values up to a word and up to another
pair_front : (xs ys : List Lexeme) (v w : Lexeme) {ts after rest : List Lexeme} → Front ts (xs ++ (v ∷ [])) after → Front after (ys ++ (w ∷ [])) rest → Front ts ((xs ++ (v ∷ ys)) ++ (w ∷ [])) rest
pair_front xs ys v w {ts} {after} {rest} p q = record { parts = (word_front xs v p q).parts ∙ ap (λ (l : List Lexeme). l ++ rest) (sym (append_assoc xs (v ∷ ys) (w ∷ []))) }

module _ (inner : Level → List Lexeme → Read) (d : ℕ) (inside : Inside d inner) where
  whole_sound : Sound (IsAt loosest d) (inner loosest)
  whole_sound = inside loosest

  named_sound : (n : Text) (ts : List Lexeme) (t : Tree) (rest : List Lexeme) → name_expression inner d n ts ≡ Some (t, rest) → TakesPrimary d (lexeme.name n) ts t rest
  unfolding name_expression
  named_sound n ts t rest e =
      elim (either_cases _ _ (call_at ts) _ e) [
        | inl g ↦ retake (IsAt levels.Primary (suc d)) g.1 (record { spelled = grammar.reference; low = omega arith }) (record { parts = refl })
        | inr g ↦
            let b = bind_some (listed_to (sign signs.CloseParenthesis) (inner loosest) g.0) _ _ g.2 in
            let l = listed_sound (inner loosest) whole_sound (sign signs.CloseParenthesis) g.0 b.0.0 b.0.1 b.1 in
            let all = are_listed l.spelled in
            retake (IsAt levels.Primary (suc d)) b.2 (record { spelled = grammar.selector all.spelled; low = omega (arith, all.low) }) (after_word (lexeme.name n) (glue (call_is ts g.0 g.1) l.parts))
      ]

  component_sound : (n : Text) (ts : List Lexeme) (t : Tree) (rest : List Lexeme) → component_of inner d n ts ≡ Some (t, rest) → TakesPrimary d (lexeme.component n) ts t rest
  unfolding component_of
  component_sound n ts t rest e =
      let b = bind_some (in_parentheses_read (inner loosest) ts) _ _ e in
      let a = enclosed_sound (inner loosest) whole_sound ts b.0.0 b.0.1 b.1 in
      retake (IsAt levels.Primary (suc d)) b.2 (record { spelled = grammar.component a.spelled.spelled; low = omega (arith, a.spelled.low) }) (after_word (lexeme.component n) a.parts)

  parenthesized_sound : (ts : List Lexeme) (t : Tree) (rest : List Lexeme) → reading.parenthesis_expression inner d ts ≡ Some (t, rest) → TakesPrimary d (sign signs.OpenParenthesis) ts t rest
  unfolding reading.parenthesis_expression
  parenthesized_sound ts t rest e =
      let b = bind_some (read_up_to (sign signs.CloseParenthesis) (inner loosest) ts) _ _ e in
      let a = up_to_sound (inner loosest) whole_sound (sign signs.CloseParenthesis) ts b.0.0 b.0.1 b.1 in
      retake (IsAt levels.Primary (suc d)) b.2 (record { spelled = grammar.parentheses a.spelled.spelled; low = omega (arith, a.spelled.low) }) (after_word (sign signs.OpenParenthesis) a.parts)

  measured_sound : (op : Measure) (ts : List Lexeme) (t : Tree) (rest : List Lexeme) → measure_expression inner d op ts ≡ Some (t, rest) → TakesPrimary d (keyword (measure_word op)) ts t rest
  unfolding measure_expression
  measured_sound op ts t rest e =
      let b = bind_some (in_parentheses_read (inner loosest) ts) _ _ e in
      let a = enclosed_sound (inner loosest) whole_sound ts b.0.0 b.0.1 b.1 in
      retake (IsAt levels.Primary (suc d)) b.2 (record { spelled = grammar.measure a.spelled.spelled; low = omega (arith, a.spelled.low) }) (after_word (keyword (measure_word op)) a.parts)

  aggregated_sound : (op : Aggregate) (ts : List Lexeme) (t : Tree) (rest : List Lexeme) → aggregate_expression inner d op ts ≡ Some (t, rest) → TakesPrimary d (keyword (aggregate_word op)) ts t rest
  unfolding aggregate_expression
  aggregated_sound op ts t rest e =
      let o = bind_some (expect (sign signs.OpenParenthesis) ts) _ _ e in
      let b = bind_some (read_up_to comma (inner loosest) o.0) _ _ o.2 in
      let c = bind_some (read_up_to (sign signs.CloseParenthesis) (inner loosest) b.0.1) _ _ b.2 in
      let a1 = up_to_sound (inner loosest) whole_sound comma o.0 b.0.0 b.0.1 b.1 in
      let a2 = up_to_sound (inner loosest) whole_sound (sign signs.CloseParenthesis) b.0.1 c.0.0 c.0.1 c.1 in
      let parts = glue (expect_front (sign signs.OpenParenthesis) ts o.0 o.1) (pair_front a1.front a2.front comma (sign signs.CloseParenthesis) a1.parts a2.parts) in
      retake (IsAt levels.Primary (suc d)) c.2 (record { spelled = grammar.aggregate a1.spelled.spelled a2.spelled.spelled; low = omega (arith, a1.spelled.low, a2.spelled.low) }) (after_word (keyword (aggregate_word op)) parts)

  headed_sound : (ts : List Lexeme) (t : Tree) (rest : List Lexeme) → headed_relation inner d ts ≡ Some (t, rest) → TakesPrimary d (keyword k.Relation) ts t rest
  unfolding headed_relation
  headed_sound ts t rest e =
      let b = bind_some (relation_heading d ts) _ _ e in
      let o = bind_some (expect (sign signs.OpenBrace) b.0.1) _ _ b.2 in
      let c = bind_some (listed_to (sign signs.CloseBrace) (inner loosest) o.0) _ _ o.2 in
      let h = relation_heading_sound d ts b.0.0 b.0.1 b.1 in
      let l = listed_sound (inner loosest) whole_sound (sign signs.CloseBrace) o.0 c.0.0 c.0.1 c.1 in
      let all = are_listed l.spelled in
      retake (IsAt levels.Primary (suc d)) c.2 (record { spelled = grammar.headed_relation h.spelled.spelled all.spelled; low = omega (arith, h.spelled.low, all.low) })
      (after_word (keyword k.Relation) (glue h.parts (glue (expect_front (sign signs.OpenBrace) b.0.1 o.0 o.1) l.parts)))

  elements_sound : (ts : List Lexeme) (t : Tree) (rest : List Lexeme) → elements inner d ts ≡ Some (t, rest) → TakesPrimary d (keyword k.Relation) ts t rest
  unfolding elements
  elements_sound ts t rest e =
      let o = bind_some (expect (sign signs.OpenBrace) ts) _ _ e in
      let b = bind_some (read_up_to (sign signs.CloseBrace) (list_by_commas (inner loosest)) o.0) _ _ o.2 in
      let l = up_to_sound (list_by_commas (inner loosest)) (separated_sound (inner loosest) whole_sound) (sign signs.CloseBrace) o.0 b.0.0 b.0.1 b.1 in
      let all = are_expressions l.spelled in
      retake (IsAt levels.Primary (suc d)) b.2 (record { spelled = grammar.relation all.spelled; low = omega (arith, all.low) }) (after_word (keyword k.Relation) (glue (expect_front (sign signs.OpenBrace) ts o.0 o.1) l.parts))

  either_relation : (b : Bool) (ts : List Lexeme) (t : Tree) (rest : List Lexeme) → cond b (headed_relation inner d ts) (elements inner d ts) ≡ Some (t, rest) → TakesPrimary d (keyword k.Relation) ts t rest
  either_relation true ts t rest e = headed_sound ts t rest e
  either_relation false ts t rest e = elements_sound ts t rest e

  relation_sound : (ts : List Lexeme) (t : Tree) (rest : List Lexeme) → relation inner d ts ≡ Some (t, rest) → TakesPrimary d (keyword k.Relation) ts t rest
  unfolding relation
  relation_sound ts t rest e = either_relation (heading_at ts) ts t rest e

  tuple_sound : (ts : List Lexeme) (t : Tree) (rest : List Lexeme) → tuple inner d ts ≡ Some (t, rest) → TakesPrimary d (keyword k.Tuple) ts t rest
  unfolding tuple
  tuple_sound ts t rest e =
      let o = bind_some (expect (sign signs.OpenBrace) ts) _ _ e in
      let b = bind_some (listed_to (sign signs.CloseBrace) (part inner d) o.0) _ _ o.2 in
      let l = listed_sound (part inner d) (part_sound inner d inside) (sign signs.CloseBrace) o.0 b.0.0 b.0.1 b.1 in
      retake (IsAt levels.Primary (suc d)) b.2 (tuple_spelled l.spelled) (after_word (keyword k.Tuple) (glue (expect_front (sign signs.OpenBrace) ts o.0 o.1) l.parts))

  extension_sound : (ts : List Lexeme) (t : Tree) (rest : List Lexeme) → extension inner d ts ≡ Some (t, rest) → TakesPrimary d (keyword k.Extend) ts t rest
  unfolding extension extension_adding extension_setting
  extension_sound ts t rest e =
      let b = bind_some (inner loosest ts) _ _ e in
      let a = whole_sound ts b.0.0 b.0.1 b.1 in
      elim (either_cases _ _ (expect (sign signs.Colon) b.0.1) _ b.2) [
        | inl g ↦
            let o = bind_some (expect (keyword k.Add) b.0.1) _ _ g.1 in
            let c = bind_some (in_parentheses_read (list_by_commas (addition inner d)) o.0) _ _ o.2 in
            let l = enclosed_sound (list_by_commas (addition inner d)) (separated_sound (addition inner d) (addition_sound inner d inside)) o.0 c.0.0 c.0.1 c.1 in
            let all = are_additions l.spelled in
            retake (IsAt levels.Primary (suc d)) c.2 (record { spelled = grammar.extension a.spelled.spelled all.spelled; low = omega (arith, a.spelled.low, all.low) })
            (after_word (keyword k.Extend) (glue a.parts (glue (expect_front (keyword k.Add) b.0.1 o.0 o.1) l.parts)))
        | inr g ↦
            let c = bind_some (in_braces_read (list_by_commas (setting inner d)) g.0) _ _ g.2 in
            let l = braced_sound (list_by_commas (setting inner d)) (separated_sound (setting inner d) (setting_sound inner d inside)) g.0 c.0.0 c.0.1 c.1 in
            let all = are_settings l.spelled in
            retake (IsAt levels.Primary (suc d)) c.2 (record { spelled = grammar.setting_extension a.spelled.spelled all.spelled; low = omega (arith, a.spelled.low, all.low) })
            (after_word (keyword k.Extend) (glue a.parts (glue (expect_front (sign signs.Colon) b.0.1 g.0 g.1) l.parts)))
      ]

  summarized_sound : (ts : List Lexeme) (t : Tree) (rest : List Lexeme) → summarize_expression inner d ts ≡ Some (t, rest) → TakesPrimary d (keyword k.Summarize) ts t rest
  unfolding summarize_expression summary_per summary_by
  summarized_sound ts t rest e =
      let b = bind_some (inner loosest ts) _ _ e in
      let a = whole_sound ts b.0.0 b.0.1 b.1 in
      elim (either_cases _ _ (expect (keyword k.Per) b.0.1) _ b.2) [
        | inl g ↦
            let o = bind_some (expect (keyword k.By) b.0.1) _ _ g.1 in
            let c = bind_some (attribute_list o.0) _ _ o.2 in
            let f = bind_some (summaries inner d c.0.1) _ _ c.2 in
            let by = attributes_sound o.0 c.0.0 c.0.1 c.1 in
            let all = summaries_sound inner d inside c.0.1 f.0.0 f.0.1 f.1 in
            retake (IsAt levels.Primary (suc d)) f.2 (by_spelled a.spelled by.spelled all.spelled) (after_word (keyword k.Summarize) (glue a.parts (glue (expect_front (keyword k.By) b.0.1 o.0 o.1) (glue by.parts all.parts))))
        | inr g ↦
            let c = bind_some (in_parentheses_read (inner loosest) g.0) _ _ g.2 in
            let f = bind_some (summaries inner d c.0.1) _ _ c.2 in
            let per = enclosed_sound (inner loosest) whole_sound g.0 c.0.0 c.0.1 c.1 in
            let all = summaries_sound inner d inside c.0.1 f.0.0 f.0.1 f.1 in
            retake (IsAt levels.Primary (suc d)) f.2 (per_spelled a.spelled per.spelled all.spelled) (after_word (keyword k.Summarize) (glue a.parts (glue (expect_front (keyword k.Per) b.0.1 g.0 g.1) (glue per.parts all.parts))))
      ]

  choice_sound : (ts : List Lexeme) (t : Tree) (rest : List Lexeme) → choice inner d ts ≡ Some (t, rest) → TakesPrimary d (keyword k.If) ts t rest
  unfolding choice
  choice_sound ts t rest e =
      let b = bind_some (read_up_to (keyword k.Then) (inner loosest) ts) _ _ e in
      let c = bind_some (read_up_to (keyword k.Else) (inner loosest) b.0.1) _ _ b.2 in
      let f = bind_some (read_up_to (keyword k.End) (inner loosest) c.0.1) _ _ c.2 in
      let l = bind_some (expect (keyword k.If) f.0.1) _ _ f.2 in
      let p = up_to_sound (inner loosest) whole_sound (keyword k.Then) ts b.0.0 b.0.1 b.1 in
      let q = up_to_sound (inner loosest) whole_sound (keyword k.Else) b.0.1 c.0.0 c.0.1 c.1 in
      let r = up_to_sound (inner loosest) whole_sound (keyword k.End) c.0.1 f.0.0 f.0.1 f.1 in
      retake (IsAt levels.Primary (suc d)) l.2 (record { spelled = grammar.choice p.spelled.spelled q.spelled.spelled r.spelled.spelled; low = omega (arith, p.spelled.low, q.spelled.low, r.spelled.low) })
      (after_word (keyword k.If) (word_front p.front (keyword k.Then) p.parts (word_front q.front (keyword k.Else) q.parts (word_front r.front (keyword k.End) r.parts (expect_front (keyword k.If) f.0.1 l.0 l.1)))))

  word_sound : (w : Keyword) (ts : List Lexeme) (t : Tree) (rest : List Lexeme) → primary_of_word inner d w ts ≡ Some (t, rest) → TakesPrimary d (keyword w) ts t rest
  unfolding primary_of_word
  word_sound k.True ts t rest e = one_word d (keyword k.True) ts (tree.truth true) t rest true_literal e
  word_sound k.False ts t rest e = one_word d (keyword k.False) ts (tree.truth false) t rest false_literal e
  word_sound k.TableDee ts t rest e = one_word d (keyword k.TableDee) ts tree.table_dee t rest dee_literal e
  word_sound k.TableDum ts t rest e = one_word d (keyword k.TableDum) ts tree.table_dum t rest dum_literal e
  word_sound k.Count ts t rest e = measured_sound measures.Count ts t rest e
  word_sound k.IsEmpty ts t rest e = measured_sound measures.IsEmpty ts t rest e
  word_sound k.Sum ts t rest e = aggregated_sound aggregates.Sum ts t rest e
  word_sound k.Max ts t rest e = aggregated_sound aggregates.Max ts t rest e
  word_sound k.Min ts t rest e = aggregated_sound aggregates.Min ts t rest e
  word_sound k.Relation ts t rest e = relation_sound ts t rest e
  word_sound k.Tuple ts t rest e = tuple_sound ts t rest e
  word_sound k.Extend ts t rest e = extension_sound ts t rest e
  word_sound k.Summarize ts t rest e = summarized_sound ts t rest e
  word_sound k.If ts t rest e = choice_sound ts t rest e
  word_sound _ ts t rest e = absurd cc

  sign_sound : (s : Sign) (ts : List Lexeme) (t : Tree) (rest : List Lexeme) → primary_of_sign inner d s ts ≡ Some (t, rest) → TakesPrimary d (sign s) ts t rest
  unfolding primary_of_sign
  sign_sound signs.OpenParenthesis ts t rest e = parenthesized_sound ts t rest e
  sign_sound signs.Minus ts t rest e = negative_sound d ts t rest e
  sign_sound _ ts t rest e = absurd cc

  pub primary_sound : Sound (IsAt levels.Primary (suc d)) (primary inner d)
  unfolding primary
  primary_sound (keyword w ∷ ts) t rest e = word_sound w ts t rest e
  primary_sound (sign s ∷ ts) t rest e = sign_sound s ts t rest e
  primary_sound (lexeme.name n ∷ ts) t rest e = named_sound n ts t rest e
  primary_sound (lexeme.component n ∷ ts) t rest e = component_sound n ts t rest e
  primary_sound (lexeme.number n ∷ ts) t rest e =
      let g = numeral_is false n ts t rest e in
      one_word d (lexeme.number n) ts (tree.number false n) t rest (number_literal g.0) g.1
  primary_sound (lexeme.text said ∷ ts) t rest e = one_word d (lexeme.text said) ts (tree.text said) t rest text_literal e
  primary_sound _ t rest e = absurd cc
