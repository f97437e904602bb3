-- A fact for each fault of a run.
use Rattle.std.specs.Prelude.{ℕ, ⊤, Result, Ok, Err}
use Rattle.td_engine.specs.declared.run.RunFault.TheVariants.{Memory, Read, ReadLimit, Write}
use Rattle.td_engine.specs.declared.run.RunFault.{RunFault}

abbrev pub IfMemory : (ℕ → Type 0) → RunFault → Type 0
IfMemory P (Memory done) = P done
IfMemory P _ = ⊤

abbrev pub IfRead : (ℕ → Type 0) → RunFault → Type 0
IfRead P (Read done) = P done
IfRead P _ = ⊤

abbrev pub IfReadLimit : (ℕ → Type 0) → RunFault → Type 0
IfReadLimit P (ReadLimit done) = P done
IfReadLimit P _ = ⊤

abbrev pub IfWrite : (ℕ → Type 0) → RunFault → Type 0
IfWrite P (Write done) = P done
IfWrite P _ = ⊤

-- unless memory was refused
abbrev pub IfNotMemory : {T : Type 0} → Result T RunFault → Type 0 → Type 0
IfNotMemory (Ok x) P = P
IfNotMemory (Err (Memory done)) P = ⊤
IfNotMemory (Err _) P = P
