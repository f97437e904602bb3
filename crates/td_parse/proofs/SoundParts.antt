-- What is read as a list of expressions, of named expressions or of summaries is spelled, and not too high.
use Rattle.std.proofs.Common.{◌≡◌, ℕ, ◌≤◌, List, [], ◌∷◌, ◌++◌, Some, sym, subst, append_assoc, arith}
use Rattle.td_tree.specs.declared.keyword.Keyword.{Keyword}
use Rattle.td_tree.specs.declared.keyword.Keyword.TheVariants as k
use Rattle.td_tree.specs.declared.operator.Aggregate.{Aggregate}
use Rattle.td_tree.specs.declared.operator.Aggregate.TheVariants as aggregates
use Rattle.td_tree.specs.declared.operator.Level.{Level}
use Rattle.td_tree.specs.declared.token.Sign.TheVariants as signs
use Rattle.td_tree.specs.model.Grammar.{aggregate_word, Spelling, ListSpelling, no_expressions, some_expressions, ExpressionsSpelling, last_expression, next_expression, PartsSpelling, last_part, next_part, AdditionsSpelling, last_addition, next_addition, SettingsSpelling, last_setting, next_setting, SummariesSpelling, last_count, next_count, last_sum, next_sum, loosest}
use Rattle.td_tree.specs.model.Heights.{height, highest, highest_named, highest_summary}
use Rattle.td_tree.specs.model.Lexemes.{Lexeme, keyword, sign}
use Rattle.td_tree.specs.model.Lexemes as lexeme
use Rattle.td_tree.specs.model.Lists.{Listed, no_items, some_items, Separated, one_item, next_item, with_parentheses}
use Rattle.td_parse.specs.code.Reading.{Read, trees_from, named_from, SummaryItem, count_item, sum_item, summaries_from, part, addition, setting, count_summary, sum_summary, summary_of_word, summary, summaries}
use Rattle.td_parse.specs.code.ReadingSteps.{expect, read_name, read_as, in_parentheses_read, list_by_commas}
use Rattle.td_tree.specs.model.Trees as tree
use Rattle.td_tree.specs.model.Trees.{Text, Tree, Trees, NamedTrees, Summaries}
use Rattle.td_parse.proofs.AgainLists.{comma}
use Rattle.td_parse.proofs.SoundNames.{after_word}
use Rattle.td_parse.proofs.SoundSteps.{bind_some, glue, expect_front, Takes, Sound, retake, name_front, as_front, enclosed_sound, separated_sound}

-- an expression of a level of at most this height
pub record IsAt (level : Level) (d : ℕ) (xs : List Lexeme) (t : Tree) : Type 0 where
  pub spelled : Spelling level xs t
  pub low : height t ≤ d

-- ---- lists

pub record AreExpressions (d : ℕ) (xs : List Lexeme) (all : Trees) : Type 0 where
  pub spelled : ExpressionsSpelling xs all
  pub low : highest all ≤ d

pub are_expressions : {d : ℕ} {xs : List Lexeme} {all : List Tree} → Separated (IsAt loosest d) xs all → AreExpressions d xs (trees_from all)
are_expressions (one_item p) = record { spelled = last_expression p.spelled; low = omega (arith, p.low) }
are_expressions (next_item p q) =
    let r = are_expressions q in
    record { spelled = next_expression p.spelled r.spelled; low = omega (arith, p.low, r.low) }

pub record AreListed (d : ℕ) (xs : List Lexeme) (all : Trees) : Type 0 where
  pub spelled : ListSpelling xs all
  pub low : highest all ≤ d

pub are_listed : {d : ℕ} {xs : List Lexeme} {all : List Tree} → Listed (IsAt loosest d) xs all → AreListed d xs (trees_from all)
are_listed no_items = record { spelled = no_expressions; low = omega arith }
are_listed (some_items p) =
    let r = are_expressions p in
    record { spelled = some_expressions r.spelled; low = r.low }

pub data IsPart (d : ℕ) : List Lexeme → Text × Tree → Type 0 where
  part_item : {n : Text} {xs : List Lexeme} {a : Tree} → Spelling loosest xs a → height a ≤ d → IsPart d (lexeme.name n ∷ xs) (n, a)

pub record AreParts (d : ℕ) (xs : List Lexeme) (all : NamedTrees) : Type 0 where
  pub spelled : PartsSpelling xs all
  pub low : highest_named all ≤ d

pub are_parts : {d : ℕ} {xs : List Lexeme} {all : List (Text × Tree)} → Separated (IsPart d) xs all → AreParts d xs (named_from all)
are_parts (one_item (part_item p lt)) = record { spelled = last_part p; low = omega arith }
are_parts (next_item (part_item p lt) q) =
    let r = are_parts q in
    record { spelled = next_part p r.spelled; low = omega (arith, r.low) }

pub data IsAddition (d : ℕ) : List Lexeme → Text × Tree → Type 0 where
  addition_item : {n : Text} {xs : List Lexeme} {a : Tree} → Spelling loosest xs a → height a ≤ d → IsAddition d (xs ++ (keyword k.As ∷ (lexeme.name n ∷ []))) (n, a)

pub record AreAdditions (d : ℕ) (xs : List Lexeme) (all : NamedTrees) : Type 0 where
  pub spelled : AdditionsSpelling xs all
  pub low : highest_named all ≤ d

pub are_additions : {d : ℕ} {xs : List Lexeme} {all : List (Text × Tree)} → Separated (IsAddition d) xs all → AreAdditions d xs (named_from all)
are_additions (one_item (addition_item p lt)) = record { spelled = last_addition p; low = omega arith }
are_additions (next_item {ys = ys} {rest = others} (addition_item {n = n} {xs = zs} {a = b} p lt) q) =
    let r = are_additions q in
    record { spelled = subst (λ (l : List Lexeme). AdditionsSpelling l (tree.more_named n b (named_from others))) (sym (append_assoc zs (keyword k.As ∷ (lexeme.name n ∷ [])) (comma ∷ ys))) (next_addition p r.spelled); low = omega (arith, r.low) }

pub data IsSetting (d : ℕ) : List Lexeme → Text × Tree → Type 0 where
  setting_item : {n : Text} {xs : List Lexeme} {a : Tree} → Spelling loosest xs a → height a ≤ d → IsSetting d (lexeme.name n ∷ (sign signs.Assign ∷ xs)) (n, a)

pub record AreSettings (d : ℕ) (xs : List Lexeme) (all : NamedTrees) : Type 0 where
  pub spelled : SettingsSpelling xs all
  pub low : highest_named all ≤ d

pub are_settings : {d : ℕ} {xs : List Lexeme} {all : List (Text × Tree)} → Separated (IsSetting d) xs all → AreSettings d xs (named_from all)
are_settings (one_item (setting_item p lt)) = record { spelled = last_setting p; low = omega arith }
are_settings (next_item (setting_item p lt) q) =
    let r = are_settings q in
    record { spelled = next_setting p r.spelled; low = omega (arith, r.low) }

pub data IsSummary (d : ℕ) : List Lexeme → SummaryItem → Type 0 where
  count_of : {n : Text} → IsSummary d (keyword k.Count ∷ (with_parentheses [] ++ (keyword k.As ∷ (lexeme.name n ∷ [])))) (count_item n)
  sum_of : {op : Aggregate} {n : Text} {xs : List Lexeme} {a : Tree} → Spelling loosest xs a → height a ≤ d
      → IsSummary d (keyword (aggregate_word op) ∷ (with_parentheses xs ++ (keyword k.As ∷ (lexeme.name n ∷ [])))) (sum_item op a n)

pub record AreSummaries (d : ℕ) (xs : List Lexeme) (all : Summaries) : Type 0 where
  pub spelled : SummariesSpelling xs all
  pub low : highest_summary all ≤ d

pub are_summaries : {d : ℕ} {xs : List Lexeme} {all : List SummaryItem} → Separated (IsSummary d) xs all → AreSummaries d xs (summaries_from all)
are_summaries (one_item count_of) = record { spelled = last_count; low = omega arith }
are_summaries (one_item (sum_of p lt)) = record { spelled = last_sum p; low = omega arith }
are_summaries (next_item count_of q) =
    let r = are_summaries q in
    record { spelled = next_count r.spelled; low = r.low }
are_summaries (next_item {ys = ys} {rest = others} (sum_of {op = op} {n = n} {xs = zs} {a = b} p lt) q) =
    let r = are_summaries q in
    record {
      spelled = subst (λ (l : List Lexeme). SummariesSpelling (keyword (aggregate_word op) ∷ (sign signs.OpenParenthesis ∷ l)) (tree.summed op b n (summaries_from others)))
          (sym (append_assoc (zs ++ (sign signs.CloseParenthesis ∷ [])) (keyword k.As ∷ (lexeme.name n ∷ [])) (comma ∷ ys))) (next_sum p r.spelled);
      low = omega (arith, r.low);
    }

-- ADD and summaries in parentheses
pub data AreAdded (d : ℕ) : List Lexeme → Summaries → Type 0 where
  added : {xs : List Lexeme} {all : Summaries} → AreSummaries d xs all → AreAdded d (keyword k.Add ∷ with_parentheses xs) all

-- ---- items

abbrev pub Inside : ℕ → (Level → List Lexeme → Read) → Type 0
Inside d inner = (level : Level) → Sound (IsAt level d) (inner level)

module _ (inner : Level → List Lexeme → Read) (d : ℕ) (inside : Inside d inner) where
  pub part_sound : Sound (IsPart d) (part inner d)
  unfolding part
  part_sound ts a rest e =
      let b = bind_some (read_name ts) _ _ e in
      let c = bind_some (inner loosest b.0.1) _ _ b.2 in
      let t = inside loosest b.0.1 c.0.0 c.0.1 c.1 in
      retake (IsPart d) c.2 (part_item t.spelled.spelled t.spelled.low) (glue (name_front ts b.0.0 b.0.1 b.1) t.parts)

  pub addition_sound : Sound (IsAddition d) (addition inner d)
  unfolding addition
  addition_sound ts a rest e =
      let b = bind_some (inner loosest ts) _ _ e in
      let c = bind_some (read_as b.0.1) _ _ b.2 in
      let t = inside loosest ts b.0.0 b.0.1 b.1 in
      retake (IsAddition d) c.2 (addition_item t.spelled.spelled t.spelled.low) (glue t.parts (as_front b.0.1 c.0.0 c.0.1 c.1))

  pub setting_sound : Sound (IsSetting d) (setting inner d)
  unfolding setting
  setting_sound ts a rest e =
      let b = bind_some (read_name ts) _ _ e in
      let c = bind_some (expect (sign signs.Assign) b.0.1) _ _ b.2 in
      let f = bind_some (inner loosest c.0) _ _ c.2 in
      let t = inside loosest c.0 f.0.0 f.0.1 f.1 in
      retake (IsSetting d) f.2 (setting_item t.spelled.spelled t.spelled.low) (glue (name_front ts b.0.0 b.0.1 b.1) (glue (expect_front (sign signs.Assign) b.0.1 c.0 c.1) t.parts))

  count_sound : (ts : List Lexeme) (a : SummaryItem) (rest : List Lexeme) → count_summary inner d ts ≡ Some (a, rest) → Takes (IsSummary d) (keyword k.Count ∷ ts) a rest
  unfolding count_summary
  count_sound ts a rest e =
      let b = bind_some (expect (sign signs.OpenParenthesis) ts) _ _ e in
      let c = bind_some (expect (sign signs.CloseParenthesis) b.0) _ _ b.2 in
      let f = bind_some (read_as c.0) _ _ c.2 in
      retake (IsSummary d) f.2 count_of (after_word (keyword k.Count) (glue (glue (expect_front (sign signs.OpenParenthesis) ts b.0 b.1) (expect_front (sign signs.CloseParenthesis) b.0 c.0 c.1)) (as_front c.0 f.0.0 f.0.1 f.1)))

  sum_sound : (op : Aggregate) (ts : List Lexeme) (a : SummaryItem) (rest : List Lexeme) → sum_summary inner d op ts ≡ Some (a, rest) → Takes (IsSummary d) (keyword (aggregate_word op) ∷ ts) a rest
  unfolding sum_summary
  sum_sound op ts a rest e =
      let b = bind_some (in_parentheses_read (inner loosest) ts) _ _ e in
      let c = bind_some (read_as b.0.1) _ _ b.2 in
      let t = enclosed_sound (inner loosest) (inside loosest) ts b.0.0 b.0.1 b.1 in
      retake (IsSummary d) c.2 (sum_of t.spelled.spelled t.spelled.low) (after_word (keyword (aggregate_word op)) (glue t.parts (as_front b.0.1 c.0.0 c.0.1 c.1)))

  summary_word_sound : (w : Keyword) (ts : List Lexeme) (a : SummaryItem) (rest : List Lexeme) → summary_of_word inner d w ts ≡ Some (a, rest) → Takes (IsSummary d) (keyword w ∷ ts) a rest
  unfolding summary_of_word
  summary_word_sound k.Count ts a rest e = count_sound ts a rest e
  summary_word_sound k.Sum ts a rest e = sum_sound aggregates.Sum ts a rest e
  summary_word_sound k.Max ts a rest e = sum_sound aggregates.Max ts a rest e
  summary_word_sound k.Min ts a rest e = sum_sound aggregates.Min ts a rest e
  summary_word_sound _ ts a rest e = absurd cc

  summary_sound : Sound (IsSummary d) (summary inner d)
  unfolding summary
  summary_sound (keyword w ∷ ts) a rest e = summary_word_sound w ts a rest e
  summary_sound _ a rest e = absurd cc

  pub summaries_sound : Sound (AreAdded d) (summaries inner d)
  unfolding summaries
  summaries_sound ts all rest e =
      let b = bind_some (expect (keyword k.Add) ts) _ _ e in
      let c = bind_some (in_parentheses_read (list_by_commas (summary inner d)) b.0) _ _ b.2 in
      let t = enclosed_sound (list_by_commas (summary inner d)) (separated_sound (summary inner d) summary_sound) b.0 c.0.0 c.0.1 c.1 in
      retake (AreAdded d) c.2 (added (are_summaries t.spelled)) (glue (expect_front (keyword k.Add) ts b.0 b.1) t.parts)
