use Rattle.std.proofs.Common.{◌≡◌, ℕ, ◌-◌, length-drop, ◌≤◌, List, ◌++◌, length, take, drop, sym, ◌∙◌, ap, append_assoc, length-append, arith, subst}
use Rattle.std.proofs.lemmas.List.{take-append-drop, take_all}
use Rattle.std.proofs.Math.Seq.{take-append_seam}
use Rattle.std.proofs.KnownBytes.{Appends-trans}
use Rattle.td_engine.proofs.code_lemmas.ToldLaws.{kept_after}
use Rattle.td_engine.proofs.sink.put_bytes.Goals as goal
use Rattle.td_engine.specs.model.Told.{AppendsIfTold}

take-drop-all : (n : ℕ) (xs : List ℕ) → take (length xs - n) (drop n xs) ≡ drop n xs
take-drop-all n xs = take_all (length xs - n) (drop n xs) (omega (arith, length-drop n xs))

split_at : (all front rest : List ℕ) (n : ℕ) → all ≡ front ++ rest → all ≡ (front ++ take n rest) ++ drop n rest
split_at all front rest n h = h ∙ (ap (λ t. front ++ t) (sym (take-append-drop n rest)) ∙ sym (append_assoc front (take n rest) (drop n rest)))

split_on : (all front rest : List ℕ) (n : ℕ) → all ≡ front ++ rest → all ≡ (front ++ take n rest) ++ take (length rest - n) (drop n rest)
split_on all front rest n h = rw (take-drop-all n rest) (split_at all front rest n h)

front_within : (all front rest : List ℕ) → all ≡ front ++ rest → length front ≤ length all
front_within all front rest h = omega (arith, ap length h, length-append front rest)

front_is : (all front rest : List ℕ) → all ≡ front ++ rest → front ≡ take (length front) all
front_is all front rest h = rw h (sym (take-append_seam front rest))

pub loop-rest-preserved : goal.loop-rest-preserved
loop-rest-preserved g c =
    let before = c.loop-rest.invariant in
    let n : ℕ = c.in-Ok.count in
    let rest : List ℕ = c.loop-rest.rest.now in (
      before.0 ++ take n rest,
      split_on _ before.0 rest n before.1,
      Appends-trans _ _ _ before.0 (take n rest) before.2 c.in-Ok.ensures.bytes,
      λ h. c.in-Ok.ensures.stays ∙ before.3 h,
    )

pub returns-in-Err-clause-cut : goal.returns-in-Err-clause-cut
returns-in-Err-clause-cut g c =
    let before = c.loop-rest.invariant in
    let told = kept_after _ _ _ before.0 before.2 c.in-Err.ensures.bytes in
    let cut = subst (λ t. AppendsIfTold (g.W.Sink.taken c.args.writer.now) (g.W.Sink.taken c.put.new.self) t) (front_is _ _ _ before.1) told in
    let fact : (x : ℕ) × x ≤ length c.args.bytes.now × AppendsIfTold (g.W.Sink.taken c.args.writer.now) (g.W.Sink.taken c.put.new.self) (take x c.args.bytes.now) = (length before.0, front_within _ _ _ before.1, cut) in
    fact
