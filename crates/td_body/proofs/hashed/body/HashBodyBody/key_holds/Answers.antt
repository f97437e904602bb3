use Rattle.std.proofs.Common.{◌≡◌, ◌<◌, ◌∙◌, length, map, subst, sym}
use Rattle.std.specs.List.{slice_get}
use Rattle.std.specs.Prelude.{IfSome}
use Rattle.td_body.specs.model.Bodies.{BodyView, key_holds}
use Rattle.td_body.specs.code.KeyParts.{apart_at}
use Rattle.td_body.proofs.LookUps.{apart_held, at_some, key_at, names_at, places_at}
use Rattle.td_body.proofs.hashed.body.HashBodyBody.key_holds.Goals as goal

pub returns : goal.returns
returns c =
    let m = c.self.inside.members in
    let r = m.relation in
    let keys = map (λ key. key.items) c.self.inside.keys.value.items in
    let k = c.args.key in
    let low = subst (λ (s : BodyView). k < length s.keys) (sym c.self.view_is) c.requires in
    let names = names_at keys k in
    let told = at_some (λ ps. c.are_apart.result ≡ apart_at ps r.body) (slice_get m.places k) _ c.are_apart.ensures (places_at m keys k c.self.invariant.placed low) ∙ apart_held r c.reveal.ensures names in
    subst (λ (s : BodyView). IfSome (slice_get s.keys k) (λ ns. c.are_apart.result ≡ key_holds ns s.relation.body)) c.self.view_is
    (subst (λ o. IfSome o (λ ns. c.are_apart.result ≡ key_holds ns r.body)) (sym (key_at keys k low)) told)
