-- The dump of a legal database rebuilds it.
use Rattle.std.proofs.Common.{◌≡◌, ℕ, Bool, List, Result, Ok, Err, subst, sym}
use Rattle.std.specs.Prelude.{IfOk}
use Rattle.td_catalog.specs.model.Database.{Database}
use Rattle.td_catalog.specs.model.Dumps.{dump_text}
use Rattle.td_engine.proofs.law_lemmas.DumpRead.{dumps_read}
use Rattle.td_engine.proofs.law_lemmas.Rebuilds.{rebuilds}
use Rattle.td_engine.proofs.law_lemmas.RebuiltDumps.{dumps_are_accepted}
use Rattle.td_engine.specs.laws.Rebuilding.{DumpsRebuild, Rebuilds}
use Rattle.td_engine.specs.model.Legality.{IsLegal}

pub dumps_rebuild : DumpsRebuild
dumps_rebuild stop db legal = rebuilds stop db (dumps_read db legal) (dumps_are_accepted db legal)

-- so does a text that is its dump
pub text_rebuilds : {X E : Type 0} (view : X → List ℕ) (db new : Database) (r : Result X E) → db ≡ new → IsLegal db → IfOk r (λ t. view t ≡ dump_text db)
    → IfOk r (λ t. (stop : Bool) → Rebuilds stop (view t) new)
text_rebuilds view db new (Ok t) same legal is =
    λ stop. subst (λ (d : Database). Rebuilds stop (view t) d) same (subst (λ bytes. Rebuilds stop bytes db) (sym is) (dumps_rebuild stop db legal))
text_rebuilds view db new (Err e) same legal is = tt
