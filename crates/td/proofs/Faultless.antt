-- Where `clap` finds no fault in the words, they name `run` or `dump`.
use Rattle.std.proofs.Common.{◌≡◌, ◌∙◌, ◌∷◌, ◌&&◌, ◌||◌, Bool, true, false, List, [], Option, Some, None, sym, refl, codes, subst, true≢false}
use Rattle.std.specs.Prelude.{⊤, if◌then◌else◌, fold, is_some, option_map}
use Rattle.std.specs.Str.{bytes_eq}
use Rattle.std.proofs.lemmas.Slice.Eq.{bytes_eq-Decides}
use Rattle.clap.specs.Faults.{check_fault, defaults_fault, entered_fault, fault_of, level_fault, other_fault, settle_fault, step_fault, turn_fault, walk_fault, word_fault}
use Rattle.clap.specs.Kinds.{Kinds, or_else}
use Rattle.clap.specs.Lexer.{long_of, short_of}
use Rattle.clap.specs.Simple.{App, Shape, argument_words, built, entered, names_of, rows_at}
use Rattle.clap.specs.Walk.{Held, Names, Outcome, Row, Rule, Step, Text, Waiting, Walk, after_flag, after_step, answers_to, arg_by_index, finished, idle, long_or_other, next, nothing_held, option, plain_word, positional, settled, short_or_plain, subcommand, subcommand_met, subcommand_or_other, to_positional, trailing, value, walk, walk_from, walked, walked_from, word_met}
use Rattle.clap.specs.Walk as walks
use Rattle.clap.specs.Words.{subcommand_of}
use Rattle.td.specs.model.CommandLine.{IsOfMode, td_app}
use Rattle.td.specs.declared.line.Mode.TheVariants.{Run, Dump}

-- ---- a list of kinds that is empty

neither : (a b : Kinds) → or_else a b ≡ [] → (a ≡ []) × (b ≡ [])
neither [] b e = (refl, e)
neither (k ∷ ks) b e = absurd (cc)

-- ---- the walk does not stop at `help`

-- a word that is no subcommand
abbrev IsOtherStep : Step → Type 0
IsOtherStep (subcommand name) = ⊥
IsOtherStep _ = ⊤

plain_step : (c : List Rule) (w : Waiting) (word : Text) (h : Held) → IsOtherStep (plain_word c w word h).1
plain_step c idle word h = tt
plain_step c (option id) word h = tt
plain_step c positional word h = tt

flag_step : (c : List Rule) (w : Waiting) (word : Text) (h : Held) (o : Outcome) → IsOtherStep (after_flag c w word h o).1
flag_step c w word h walks.done = tt
flag_step c w word h (walks.waits id) = tt
flag_step c w word h walks.plain = plain_step c w word h
flag_step c w word h walks.refused = plain_step c w word h

short_step : (c : List Rule) (w : Waiting) (word : Text) (o : Option Text) (h : Held) → IsOtherStep (short_or_plain c w word o h).1
short_step c w word (Some flags) h = flag_step c w word _ _
short_step c w word None h = plain_step c w word h

other_step : (c : List Rule) (w : Waiting) (word : Text) (o : Option (Text × Option Text)) (h : Held) → IsOtherStep (long_or_other c w word o h).1
other_step c w word (Some p) h = flag_step c w word _ _
other_step c w word None h = short_step c w word (short_of word) h

-- it goes on at such a word
goes_on : (c : List Rule) (word : Text) (w : Walk) (h : Held) (step : Step) → IsOtherStep step → w.stopped ≡ None → (after_step c word w h step).stopped ≡ None
goes_on c word w h (next waiting) is e = e
goes_on c word w h (trailing position) is e = e
goes_on c word w h value is e = by_rule (arg_by_index c w.position)
  where
    by_rule : (o : Option Rule) → (to_positional c o word w h).stopped ≡ None
    by_rule None = e
    by_rule (Some a) = refl
goes_on c word w h (subcommand name) is e = absurd is

-- where it stopped is not at `help`
abbrev IsElsewhere : Option (Text × List Text) → Type 0
IsElsewhere None = ⊤
IsElsewhere (Some p) = bytes_eq p.0 (codes "help") ≡ false

unstopped : (o : Option (Text × List Text)) → o ≡ None → IsElsewhere o
unstopped o e = subst IsElsewhere (sym e) tt

no_help : (b : Bool) (kinds : Kinds) → (if b && true then kinds else []) ≡ [] → (kinds ≡ [] → ⊥) → b ≡ false
no_help false kinds e some = refl
no_help true kinds e some = absurd (some e)

module _ (s : Shape) (names : Names) (helps : s.disable_help_subcommand ≡ false) where
  word_elsewhere : (w : Walk) (word : Text) → w.stopped ≡ None → word_fault s names w.is_trailing w.waiting word w.held ≡ []
      → IsElsewhere (walked_from s.rules names None w word).stopped
  word_elsewhere w word none faultless = by_trailing w.is_trailing faultless
    where
      by_name : (o : Option Text) → other_fault s o word w.held ≡ []
          → let met = subcommand_or_other s.rules o w.waiting w.position word w.held in
          IsElsewhere (after_step s.rules word w met.0 met.1).stopped
      by_name (Some name) e = no_help (bytes_eq name (codes "help")) _ (rw helps at e) (λ f. cc)
      by_name None e = by_dashes (bytes_eq word (45 ∷ 45 ∷ []))
        where
          by_dashes : (b : Bool)
              → let met = (if b then (w.held, trailing w.position) else long_or_other s.rules w.waiting word (long_of word) w.held) in
              IsElsewhere (after_step s.rules word w met.0 met.1).stopped
          by_dashes true = unstopped _ none
          by_dashes false =
              unstopped _ (goes_on s.rules word w _ _ (other_step s.rules w.waiting word (long_of word) w.held) none)

      by_trailing : (b : Bool) → word_fault s names b w.waiting word w.held ≡ []
          → let met = word_met s.rules names b w.waiting w.position word w.held in
          IsElsewhere (after_step s.rules word w met.0 met.1).stopped
      by_trailing true e = unstopped _ (goes_on s.rules word w w.held value tt none)
      by_trailing false e = by_name (subcommand_met names w.waiting word) e

  turn_elsewhere : (w : Walk) (word : Text) → turn_fault s names w word ≡ [] → IsElsewhere w.stopped
      → IsElsewhere (walked s.rules names w word).stopped
  unfolding walked
  turn_elsewhere w word e h = by_stop w.stopped refl e h
    where
      by_stop : (o : Option (Text × List Text)) → w.stopped ≡ o
          → (let met = word_met s.rules names w.is_trailing w.waiting w.position word w.held in
          if is_some o then []
          else or_else (word_fault s names w.is_trailing w.waiting word w.held) (step_fault s w.position met.0 met.1)) ≡ []
          → IsElsewhere o → IsElsewhere (walked_from s.rules names o w word).stopped
      by_stop (Some p) is e h = h
      by_stop None is e h = word_elsewhere w word is (neither _ _ e).0

  walk_elsewhere : (w : Walk) (words : List Text) → walk_fault s names w words ≡ [] → IsElsewhere w.stopped
      → IsElsewhere (fold (walked s.rules names) w words).stopped
  unfolding walk_fault
  walk_elsewhere w [] e h = h
  walk_elsewhere w (word ∷ rest) e h =
      let parts = neither _ _ e in
      walk_elsewhere (walked s.rules names w word) rest parts.1 (turn_elsewhere w word parts.0 h)

-- ---- a level with no fault

level_parts : (s : Shape) (names : Names) (h : Held) (words : List Text) (has : Bool) (below : Kinds) → level_fault s names h words has below ≡ []
    → (walk_fault s names (walk_from h) words ≡ []) × (check_fault s (finished s.rules (walk s.rules names h words).held) has ≡ [])
level_parts s names h words has below e =
    let end = (walk s.rules names h words).held in
    let walks = neither (walk_fault s names (walk_from h) words) _ e in
    let enters = neither below _ walks.1 in
    let settles = neither (settle_fault s.rules s.args_override_self end) _ enters.1 in
    let fills = neither (defaults_fault (settled s.rules end).rows s.rules) _ settles.1 in
    (walks.0, fills.1)

-- ---- the command

abbrev app : App
app = built td_app

not_help : (word : Text) → bytes_eq word (codes "help") ≡ false → answers_to word (codes "help", []) ≡ true → ⊥
not_help word isnt is = true≢false (sym ((bytes_eq-Decides word (codes "help")).1 (sym ((bytes_eq-Decides (codes "help") word).0 (either _ is)))) ∙ isnt)
  where
    either : (b : Bool) → (b || false) ≡ true → b ≡ true
    either true e = refl
    either false e = absurd (true≢false (sym e))

-- of three subcommands it is one of the first two
module _ (run dump help : Shape) (run_is : run.name ≡ codes "run") (dump_is : dump.name ≡ codes "dump") (words : List Text) where
  of_mode : (r d h : Bool) → (h ≡ true → ⊥)
      → is_some (option_map (λ s. rows_at s words) (if r then Some run else (if d then Some dump else (if h then Some help else None)))) ≡ true
      → IsOfMode (option_map (λ s. rows_at s words) (if r then Some run else (if d then Some dump else (if h then Some help else None))))
  of_mode true d h other e = (Run, run_is)
  of_mode false true h other e = (Dump, dump_is)
  of_mode false false true other e = absurd (other refl)
  of_mode false false false other e = absurd (true≢false (sym e))

met : (stop : Option (Text × List Text)) → IsElsewhere stop → is_some (entered app stop) ≡ true → IsOfMode (entered app stop)
met None h e = absurd (true≢false (sym e))
met (Some p) h e =
    of_mode _ _ _ refl refl p.1 (answers_to p.0 (codes "run", [])) (answers_to p.0 (codes "dump", [])) (answers_to p.0 (codes "help", [])) (not_help p.0 h) e

has_subcommand : (rows : List Row) (b : Bool) → check_fault app.top rows b ≡ [] → b ≡ true
has_subcommand rows true e = refl
has_subcommand rows false e = absurd (cc)

pub faultless_line : (words : List Text) → fault_of td_app words ≡ [] → IsOfMode (subcommand_of td_app words)
faultless_line words e =
    let arguments = argument_words td_app words in
    let end = walk app.top.rules (names_of app) nothing_held arguments in
    let parts = level_parts app.top (names_of app) nothing_held arguments (is_some (entered app end.stopped)) (entered_fault app end.stopped) e in
    met end.stopped (walk_elsewhere app.top (names_of app) refl (walk_from nothing_held) arguments parts.0 tt)
    (has_subcommand (finished app.top.rules end.held) (is_some (entered app end.stopped)) parts.1)
