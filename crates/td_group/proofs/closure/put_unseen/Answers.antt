use Rattle.std.proofs.Common.{◌∙◌, ◌∷◌, [], ap, map, Bor}
use Rattle.std.proofs.lemmas.List.{map-append}
use Rattle.td_value.specs.model.Values.{Val}
use Rattle.td_group.proofs.Tables.{seen_pushed}
use Rattle.td_group.proofs.closure.put_unseen.Goals as goal

pub returns-in_ok-push-clause-seen : goal.returns-in_ok-push-clause-seen
returns-in_ok-push-clause-seen c =
    seen_pushed c.args.seen.now c.insert.new.self c.in_ok-try_clone.field-0 c.args.value.now _ _ c.in_ok-try_clone.ensures c.requires c.in_ok-insert.ensures.updates.0
    (ap (map (λ (v : Bor Val). v.now)) c.in_ok-push.ensures.items ∙ map-append (λ (v : Bor Val). v.now) c.args.found.now.items (c.args.value ∷ []))
