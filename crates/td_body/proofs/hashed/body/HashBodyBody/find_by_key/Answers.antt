use Rattle.std.proofs.Common.{◌≡◌, ◌<◌, ◌∙◌, ap, filter, length, map, subst, sym}
use Rattle.std.specs.List.{All, slice_get}
use Rattle.std.specs.Prelude.{IfOk, IfSome}
use Rattle.td_algebra.proofs.Keys.{if_ok}
use Rattle.td_types.specs.model.Headings.{projection}
use Rattle.td_types.specs.model.Types.{attribute_names}
use Rattle.td_value.specs.model.Agreement.{agree_on}
use Rattle.td_value.specs.model.Sets.{set_of}
use Rattle.td_value.specs.model.Values.{HaveSameMembers, IsTupleOf, heading_of, tuple_cmp, relation_view}
use Rattle.td_body.specs.model.Bodies.{BodyView, agreeing}
use Rattle.td_body.specs.code.Hashes.{with_part}
use Rattle.td_body.specs.code.KeyParts.{places_from}
use Rattle.td_body.proofs.LookUps.{at_some, found_agreeing, found_headed, key_at, names_at, part_count, places_at}
use Rattle.td_body.proofs.hashed.body.HashBodyBody.find_by_key.Goals as goal

pub members_with-requires-clause-same : goal.members_with-requires-clause-same
members_with-requires-clause-same c =
    let m = c.self.inside.members in
    let keys = map (λ key. key.items) c.self.inside.keys.value.items in
    let k = c.args.key in
    let part = c.args.part.now in
    let low = subst (λ (s : BodyView). k < length s.keys) (sym c.self.view_is) c.requires.declared in
    let asked = subst (λ (s : BodyView). IfSome (slice_get s.keys k) (λ ns. heading_of part ≡ projection ns s.relation.heading)) (sym c.self.view_is) c.requires.part in
    let is = at_some (λ ns. heading_of part ≡ projection ns m.relation.heading) (slice_get keys k) (names_at keys k) asked (key_at keys k low) in
    subst (λ o. IfSome o (λ ps. length ps ≡ length c.values.result.now)) (sym (places_at m keys k c.self.invariant.placed low))
    (part_count (names_at keys k) m.relation.heading part is ∙ ap length (sym c.values.ensures.values))

pub new-requires : goal.new-requires
new-requires c =
    let m = c.self.inside.members in
    let r = m.relation in
    let keys = map (λ key. key.items) c.self.inside.keys.value.items in
    let k = c.args.key in
    let names = names_at keys k in
    let part = c.args.part.now in
    let tuples = c.in_ok-tuples.tuples.items in
    let low = subst (λ (s : BodyView). k < length s.keys) (sym c.self.view_is) c.requires.declared in
    let asked = subst (λ (s : BodyView). IfSome (slice_get s.keys k) (λ ns. heading_of part ≡ projection ns s.relation.heading)) (sym c.self.view_is) c.requires.part in
    let is = at_some (λ ns. heading_of part ≡ projection ns r.heading) (slice_get keys k) names asked (key_at keys k low) in
    let found = at_some (λ ps. HaveSameMembers tuples (with_part ps c.values.result.now r.body)) (slice_get m.places k) _ c.in_ok-tuples.ensures (places_at m keys k c.self.invariant.placed low) in
    let headed : All (IsTupleOf r.heading) tuples =
    found_headed r c.reveal.ensures names part is tuples (subst (λ vs. HaveSameMembers tuples (with_part (places_from 0 names (attribute_names r.heading)) vs r.body)) c.values.ensures.values found) in
    subst (λ h. All (IsTupleOf h) tuples) (sym (c.in_ok-try_clone.ensures ∙ c.heading.ensures)) headed

pub returns : goal.returns
returns c =
    let m = c.self.inside.members in
    let r = m.relation in
    let keys = map (λ key. key.items) c.self.inside.keys.value.items in
    let k = c.args.key in
    let names = names_at keys k in
    let part = c.args.part.now in
    let tuples = c.in_ok-tuples.tuples.items in
    let low = subst (λ (s : BodyView). k < length s.keys) (sym c.self.view_is) c.requires.declared in
    let asked = subst (λ (s : BodyView). IfSome (slice_get s.keys k) (λ ns. heading_of part ≡ projection ns s.relation.heading)) (sym c.self.view_is) c.requires.part in
    let is = at_some (λ ns. heading_of part ≡ projection ns r.heading) (slice_get keys k) names asked (key_at keys k low) in
    let found = at_some (λ ps. HaveSameMembers tuples (with_part ps c.values.result.now r.body)) (slice_get m.places k) _ c.in_ok-tuples.ensures (places_at m keys k c.self.invariant.placed low) in
    let body : set_of tuple_cmp tuples ≡ filter (agree_on names part) r.body =
    found_agreeing r c.reveal.ensures names part is tuples (subst (λ vs. HaveSameMembers tuples (with_part (places_from 0 names (attribute_names r.heading)) vs r.body)) c.values.ensures.values found) in
    let heading = c.in_ok-try_clone.ensures ∙ c.heading.ensures in
    let told : IfOk c.new.result (λ f. f ≡ agreeing names part r) =
    if_ok (λ f. f ≡ relation_view c.in_ok-try_clone.field-0 (set_of tuple_cmp tuples)) (λ f. f ≡ agreeing names part r) c.new.result
    (λ f e. e ∙ (λ i. relation_view (heading i) (body i))) c.new.ensures.value in
    subst (λ (s : BodyView). IfSome (slice_get s.keys k) (λ ns. IfOk c.new.result (λ f. f ≡ agreeing ns part s.relation))) c.self.view_is
    (subst (λ o. IfSome o (λ ns. IfOk c.new.result (λ f. f ≡ agreeing ns part r))) (sym (key_at keys k low)) told)
