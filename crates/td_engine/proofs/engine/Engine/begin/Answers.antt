use Rattle.std.proofs.Common.{rules, ◌≡◌, ◌∙◌, ◌<◌, ◌∷◌, [], ap, length, reverse, subst, sym}
use Rattle.std.proofs.lemmas.List.{length-reverse, reverse-append}
use Rattle.td_engine.proofs.code_lemmas.Opens.{engine_begun}
use Rattle.td_engine.specs.code.Stages.{IsEngine}
use Rattle.td_engine.proofs.engine.Engine.begin.Goals as goal

pub invariant_of-self-2 : goal.invariant_of-self-2
invariant_of-self-2 g c =
    let opens = c.self.inside.opens.items in
    let few : length opens < 16 = search rules in
    let room : length (reverse opens) < 16 = subst (λ n. n < 16) (sym (length-reverse opens)) few in
    let is : reverse c.push.new.self.items ≡ length c.self.inside.present.kept ∷ reverse opens =
    ap reverse c.in_ok-push.ensures.items ∙ reverse-append opens (c.kept_count.result ∷ []) ∙ ap (λ n. n ∷ reverse opens) c.kept_count.ensures in
    subst (IsEngine c.self.inside.present) (sym is) (engine_begun c.self.inside.present (reverse opens) c.self.invariant room)
