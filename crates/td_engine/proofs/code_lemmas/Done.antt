-- What a call that changes the catalogue in place has done, where it answers so.
use Rattle.std.proofs.Common.{◌≡◌, ◌∙◌, Bool, Some, Option, Result, Ok, Err, ap, not, subst, sym}
use Rattle.std.specs.Prelude.{IfSome, IsTrue, OnErr, OnOk, ⊤}
use Rattle.td_catalog.specs.model.Database.{Database}
use Rattle.td_catalog.specs.code.KeptDatabases.{CatalogView, advanced_view}
use Rattle.td_check.specs.model.StatementTypes.{holds_or}
use Rattle.td_engine.proofs.law_lemmas.Admitted.{is_held, only_memory, refused_on}
use Rattle.td_engine.proofs.code_lemmas.StageLaws.{goes_on, stays}
use Rattle.td_engine.specs.model.Checks.{BasesHold}
use Rattle.td_engine.specs.code.Stages.{GoesOn}
use Rattle.td_tree.specs.model.Outcomes.{Answers, Outcome, Valued, with_value}
use Rattle.td_tree.specs.declared.cause.Cause.TheVariants as causes
use Rattle.td_tree.specs.declared.fault.Fault.{Fault}

-- another database stands, before which the old one is kept, or nothing is changed
pub goes : {E : Type 0} (done : Result ⊤ E) (v w : CatalogView) (next : Database) → OnOk done (w ≡ advanced_view next v) → OnErr done (w ≡ v) → GoesOn v w
goes (Ok u) v w next made same = goes_on v w next made
goes (Err e) v w next made same = stays v w same

-- what was free to be added is there
pub defined : (done : Result ⊤ Fault) (v w : CatalogView) (next : Database) (free : Outcome ⊤) (o : Outcome Database) → free ≡ Valued tt
    → Answers (λ u. u) done free → OnOk done (w ≡ advanced_view next v) → o ≡ Valued next → Answers (λ (u : ⊤). w.database) done o
defined (Ok u) v w next free o is told made e = e ∙ ap (λ (x : CatalogView). Valued x.database) (sym made)
defined (Err f) v w next free o is told made e = only_memory (λ u. u) (λ (u : ⊤). w.database) f free tt o is told

-- what could be dropped is gone
pub dropped : (done : Result ⊤ Fault) (v w : CatalogView) (next : Database) (asked : Outcome ⊤) → Answers (λ u. u) done asked → OnOk done (w ≡ advanced_view next v)
    → Answers (λ (u : ⊤). w.database) done (with_value asked (λ _. Valued next))
dropped (Ok u) v w next asked told made = ap (λ o. with_value o (λ _. Valued next)) told ∙ ap (λ (x : CatalogView). Valued x.database) (sym made)
dropped (Err f) v w next asked told made = refused_on (λ u. u) (λ (u : ⊤). w.database) f asked (λ _. Valued next) told

-- the keys of base relvars hold there
pub held_there : {E : Type 0} (done : Result ⊤ E) (v w : CatalogView) (next : Database) → OnOk done (w ≡ advanced_view next v) → BasesHold next
    → OnOk done (BasesHold w.database)
held_there (Ok u) v w next made held = subst (λ (x : CatalogView). BasesHold x.database) (sym made) held
held_there (Err e) v w next made held = tt

-- what stands is the database that was made
pub made_there : {E : Type 0} (done : Result ⊤ E) (v w : CatalogView) (next : Database) → OnOk done (w ≡ advanced_view next v) → OnOk done (w.database ≡ next)
made_there (Ok u) v w next made = ap (λ (x : CatalogView). x.database) made
made_there (Err e) v w next made = tt

pub made_of : {E A : Type 0} (done : Result ⊤ E) (v w : CatalogView) (o : Option A) (x : A) (next : A → Database) → o ≡ Some x
    → OnOk done (IfSome o (λ x. w ≡ advanced_view (next x) v)) → OnOk done (w.database ≡ next x)
made_of (Ok u) v w o x next is made = ap (λ (y : CatalogView). y.database) (subst (λ p. IfSome p (λ x. w ≡ advanced_view (next x) v)) is made)
made_of (Err e) v w o x next is made = tt

-- what was added had a new name
pub new_there : (done : Result ⊤ Fault) (known here : Bool) → known ≡ here → Answers (λ u. u) done (holds_or causes.NameTaken (not known)) → OnOk done (IsTrue (not here))
new_there (Ok u) known here same told = ap not (sym same) ∙ is_held causes.NameTaken (not known) told
new_there (Err f) known here same told = tt

pub always_ok : {E : Type 0} (done : Result ⊤ E) (P : Type 0) → P → OnOk done P
always_ok (Ok u) P p = p
always_ok (Err e) P p = tt

-- what is made of a value that was answered
pub answers_then : {A B : Type 0} (result : Result A Fault) (o : Outcome A) (f : A → B) → Answers (λ x. x) result o
    → Answers f result (with_value o (λ x. Valued (f x)))
answers_then (Ok x) o f h = ap (λ p. with_value p (λ x. Valued (f x))) h
answers_then (Err e) o f h = refused_on (λ x. x) f e o (λ x. Valued (f x)) h
