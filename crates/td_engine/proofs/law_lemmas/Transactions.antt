-- What the statements of transactions do, by what is kept before and after.
use Rattle.std.proofs.Common.{◌≡◌, ◌∙◌, ◌≤◌, ◌<◌, ◌∷◌, ◌++◌, List, [], Some, None, ap, arith, length, reverse, subst, sym}
use Rattle.std.proofs.lemmas.List.{reverse-append}
use Rattle.std.specs.Prelude.{IsFalse, IsTrue, is_none}
use Rattle.std.specs.List.{AllByRecursion}
use Rattle.std.specs.String.{string_bytes}
use Rattle.td_catalog.specs.model.Database.{Database}
use Rattle.td_engine.proofs.law_lemmas.Answered.{ok_does}
use Rattle.td_engine.specs.model.Machine.{Effect, State, committed_transaction, denied_transaction, ok_text, rolled_back, state_of, step_of, transaction_limit}
use Rattle.td_engine.specs.model.Refusals.{cause_text, line}
use Rattle.td_engine.specs.model.Legality.{IsLegal, IsLegalState}
use Rattle.td_engine.specs.code.Steps.{Does}
use Rattle.td_engine.specs.declared.answer.Answer as code
use Rattle.td_tree.specs.declared.cause.Cause.TheVariants as causes

-- what is put last stands first in what is kept
pub kept_more : (items : List Database) (db : Database) → reverse (items ++ (db ∷ [])) ≡ db ∷ reverse items
kept_more items db = reverse-append items (db ∷ [])

-- an answer that says OK
abbrev pub SaysOk : code.Answer → Type 0
SaysOk answer = (IsTrue answer.accepted × (answer.cause ≡ None)) × (string_bytes answer.text ≡ ok_text)

-- an answer that refuses the statement as TRANSACTION
abbrev pub Refuses : code.Answer → Type 0
Refuses answer = (IsFalse answer.accepted × (answer.cause ≡ Some causes.Transaction)) × (string_bytes answer.text ≡ line (cause_text causes.Transaction))

refused_does : (answer : code.Answer) (s : State) (e : Effect State) → Refuses answer → e ≡ denied_transaction → Does (step_of s e) answer s
refused_does answer s e says is =
    subst (λ f. Does (step_of s f) answer s) (sym is) (record {
      is = λ i. record { after = s; cause = says.0.1 i; text = says.1 i };
      accepted = says.0.0 ∙ ap is_none (sym says.0.1);
    })

-- ---- COMMIT and ROLLBACK

pub commit_does : (answer : code.Answer) (s : State) (last : Database) (others : List Database) → SaysOk answer → s.kept ≡ last ∷ others
    → Does (step_of s (committed_transaction s.database s.kept)) answer (state_of s.database others)
commit_does answer s last others says is =
    ok_does answer s (state_of s.database others) (committed_transaction s.database s.kept) (ap (committed_transaction s.database) is) says.0 says.1

pub rollback_does : (answer : code.Answer) (s : State) (last : Database) (others : List Database) → SaysOk answer → s.kept ≡ last ∷ others
    → Does (step_of s (rolled_back s.kept)) answer (state_of last others)
rollback_does answer s last others says is = ok_does answer s (state_of last others) (rolled_back s.kept) (ap rolled_back is) says.0 says.1

-- ---- legality

pub begin_legal : (s : State) (kept : List Database) → IsLegalState s → length s.kept < transaction_limit → kept ≡ s.database ∷ s.kept
    → IsLegalState (state_of s.database kept)
begin_legal s kept legal room is =
    subst (λ k. IsLegalState (state_of s.database k)) (sym is)
    (record { database = legal.database; kept = (legal.database, legal.kept); few = room })

-- the database that was kept last, and the others
pub last_legal : (s : State) (last : Database) (others : List Database) → IsLegalState s → s.kept ≡ last ∷ others
    → IsLegal last × AllByRecursion IsLegal others × (length others ≤ transaction_limit)
last_legal s last others legal is =
    let all = subst (AllByRecursion IsLegal) is legal.kept in
    let few : length (last ∷ others) ≤ transaction_limit = subst (λ k. length k ≤ transaction_limit) is legal.few in
    (all.0, all.1, omega (arith, few))

pub commit_legal : (s : State) (last : Database) (others : List Database) → IsLegalState s → s.kept ≡ last ∷ others → IsLegalState (state_of s.database others)
commit_legal s last others legal is = let parts = last_legal s last others legal is in record { database = legal.database; kept = parts.1; few = parts.2 }

pub rollback_legal : (s : State) (last : Database) (others : List Database) → IsLegalState s → s.kept ≡ last ∷ others → IsLegalState (state_of last others)
rollback_legal s last others legal is = let parts = last_legal s last others legal is in record { database = parts.0; kept = parts.1; few = parts.2 }
