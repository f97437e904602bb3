-- Bytes that are told, over several calls.
use Rattle.std.proofs.Common.{ℕ, List, ◌++◌, Option, Some, None, ap, ◌∙◌, append_assoc}
use Rattle.std.specs.Io.KnownBytes.{Appends}
use Rattle.td_engine.specs.model.Told.{AppendsIfTold}
use Rattle.td_engine.specs.model.Told.{KeepsIfTold}

pub kept_after : (a b c : Option (List ℕ)) (bytes : List ℕ) → Appends a b bytes → KeepsIfTold b c → AppendsIfTold a c bytes
kept_after None b c bytes h k = tt
kept_after (Some xs) None c bytes h k = absurd h
kept_after (Some xs) (Some ys) None bytes h k = tt
kept_after (Some xs) (Some ys) (Some zs) bytes h k = k ∙ h

pub told_after : (a b c : Option (List ℕ)) (xs ys : List ℕ) → Appends a b xs → AppendsIfTold b c ys → AppendsIfTold a c (xs ++ ys)
told_after None b c xs ys h k = tt
told_after (Some os) None c xs ys h k = absurd h
told_after (Some os) (Some bs) None xs ys h k = tt
told_after (Some os) (Some bs) (Some cs) xs ys h k = k ∙ (ap (λ t. t ++ ys) h ∙ append_assoc os xs ys)
