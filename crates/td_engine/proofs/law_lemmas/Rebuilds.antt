-- The machine's run of a dump, from nothing, makes the database.
use Rattle.std.proofs.Common.{◌≡◌, ◌∙◌, ◌∷◌, ◌++◌, ◌+◌, Bool, true, false, List, [], None, ap, map, refl, subst, sym}
use Rattle.std.specs.Prelude.{nat_lt}
use Rattle.std.specs.List.{AllByRecursion}
use Rattle.td_catalog.specs.model.Database.{Database, empty_database}
use Rattle.td_catalog.specs.model.Dumps.{dump_text}
use Rattle.td_engine.proofs.law_lemmas.Answered.{of_database}
use Rattle.td_engine.specs.code.Carried.{IsOfDatabase}
use Rattle.td_engine.specs.model.Machine.{Accepted, Progress, Runs, State, Step, Steps, and_then, progress_at_first, effect, empty_state, has_stopped, keeping, next, nothing, ok_text, state_of, step_of, step_of_outcome}
use Rattle.td_engine.specs.laws.Rebuilding.{AcceptsAll, AreReadAs, IsReadAs, Rebuilds, accepts, base_statement, constraint_statement, dump_statements, no_more, type_statement, virtual_statement}
use Rattle.td_parse.proofs.OneTree.{one_statement}
use Rattle.td_parse.specs.model.Meanings.{Parsed, statement_spelled}
use Rattle.td_tree.specs.model.Outcomes.{Valued}
use Rattle.td_tree.specs.model.Statements.{PlacedToken, statements}
use Rattle.td_tree.specs.model.TokenLexemes.{lexemes}
use Rattle.td_tree.specs.model.Trees.{Statement}

-- ---- one statement

-- what a statement does that is accepted, where no transaction is open
abbrev accepted_step : Database → Step State
accepted_step db = record { after = state_of db []; cause = None; text = ok_text }

reads : (ts : List PlacedToken) (s : Statement) → IsReadAs ts s → Parsed ts (Valued s)
reads ts s is = statement_spelled is.good (is.spelled, λ t spelled. one_statement (lexemes ts) t s spelled is.spelled)

does : (old new : Database) (s : Statement) → IsOfDatabase s → effect old s ≡ Accepted new ok_text
    → accepted_step new ≡ step_of_outcome (state_of old []) (Valued s)
does old new s is accepted =
    sym (ap (step_of (state_of old [])) (of_database (state_of old []) s is ∙ ap (keeping []) accepted))

steps : (before : State) (old new : Database) (ts : List PlacedToken) (s : Statement) → before ≡ state_of old [] → IsReadAs ts s → IsOfDatabase s
    → effect old s ≡ Accepted new ok_text → Steps before ts (accepted_step new)
steps before old new ts s at read is accepted =
    subst (λ (b : State). Steps b ts (accepted_step new)) (sym at) (Valued s, reads ts s read, does old new s is accepted)

goes : (stop : Bool) (p : Progress) → p.refusals ≡ 0 → has_stopped stop p ≡ false
goes true p none = ap (λ n. nat_lt 0 n) none
goes false p none = refl

-- ---- all of them

-- a run that refused nothing and left the database, with no transaction open
record Makes (stop : Bool) (p : Progress) (tss : List (List PlacedToken)) (new : Database) : Type 0 where
  progress : Progress
  runs : Runs stop p tss progress
  accepted : progress.refusals ≡ 0
  state_is : progress.state ≡ state_of new []

makes : (stop : Bool) (p : Progress) (tss : List (List PlacedToken)) (ss : List Statement) (old new : Database) → AreReadAs tss ss
    → AllByRecursion IsOfDatabase ss → AcceptsAll old ss new → p.state ≡ state_of old [] → p.refusals ≡ 0 → Makes stop p tss new
makes stop p [] _ old _ read is no_more at none = record { progress = p; runs = nothing; accepted = none; state_is = at }
makes stop p (ts ∷ tss) _ old new read is (accepts {next = made} {s = s} {ss = ss} accepted rest) at none =
    let step = accepted_step made in
    let others = makes stop (and_then p step) tss ss made new read.1 is.1 rest refl (ap (λ n. n + 0) none) in
    record {
      progress = others.progress;
      runs = next step (goes stop p none) (steps p.state old made ts s at read.0 is.0 accepted) others.runs;
      accepted = others.accepted;
      state_is = others.state_is;
    }
makes stop p [] _ old new read is (accepts accepted rest) at none = absurd read
makes stop p (ts ∷ tss) _ old _ read is no_more at none = absurd read

-- ---- the statements of a dump are not of transactions

all_mapped : {A : Type 0} (f : A → Statement) → ((x : A) → IsOfDatabase (f x)) → (xs : List A) → AllByRecursion IsOfDatabase (map f xs)
all_mapped f says [] = tt
all_mapped f says (x ∷ xs) = (says x, all_mapped f says xs)

all_append : (xs ys : List Statement) → AllByRecursion IsOfDatabase xs → AllByRecursion IsOfDatabase ys → AllByRecursion IsOfDatabase (xs ++ ys)
all_append [] ys h k = k
all_append (x ∷ xs) ys h k = (h.0, all_append xs ys h.1 k)

dump_of_database : (db : Database) → AllByRecursion IsOfDatabase (dump_statements db)
dump_of_database db =
    all_append _ (map constraint_statement db.constraints)
    (all_append _ (map virtual_statement db.virtuals)
    (all_append (map type_statement db.types) (map base_statement db.bases) (all_mapped type_statement (λ _. tt) db.types)
    (all_mapped base_statement (λ _. tt) db.bases))
    (all_mapped virtual_statement (λ _. tt) db.virtuals))
    (all_mapped constraint_statement (λ _. tt) db.constraints)

-- ---- the law, of what is read as the dump's statements, which are accepted

pub rebuilds : (stop : Bool) (db : Database) → AreReadAs (statements 0 (dump_text db)) (dump_statements db) → AcceptsAll empty_database (dump_statements db) db
    → Rebuilds stop (dump_text db) db
rebuilds stop db read accepted =
    let made = makes stop (progress_at_first empty_state) (statements 0 (dump_text db)) (dump_statements db) empty_database db read (dump_of_database db) accepted refl refl in
    record { progress = made.progress; runs = made.runs; accepted = made.accepted; state_is = made.state_is }
