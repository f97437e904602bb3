use Rattle.std.proofs.Common.{◌≡◌, ◌∙◌, ◌+◌, ap, map, subst, sym}
use Rattle.td_body.specs.code.HashBodies.{IsHashBody}
use Rattle.td_body.proofs.HashBodyLaws.{body_changed, body_compacted, body_same}
use Rattle.td_body.proofs.hashed.body.HashBodyBody.change.Goals as goal

pub invariant_of-self : goal.invariant_of-self
invariant_of-self c =
    let b = c.self.inside in
    let keys = map (λ key. key.items) b.keys.value.items in
    let m = c.compact.new.self in
    let was : IsHashBody keys m b.aside.items b.count = body_compacted keys b.members m b.aside.items b.count c.self.invariant c.compact.ensures.relation c.compact.ensures.kept c.compact.ensures.places in
    let n = c.change_members.new.members in
    let next = c.change_members.new.aside.items in
    let placed = c.change_members.ensures.placed keys was.placed was.placed_aside in
    body_same keys m n b.aside.items next b.count was c.in_err-change_members.ensures.same.0 c.in_err-change_members.ensures.same.1 placed.0 placed.1

pub invariant_of-self-2 : goal.invariant_of-self-2
invariant_of-self-2 c =
    let b = c.self.inside in
    let keys = map (λ key. key.items) b.keys.value.items in
    let m = c.compact.new.self in
    let was : IsHashBody keys m b.aside.items b.count = body_compacted keys b.members m b.aside.items b.count c.self.invariant c.compact.ensures.relation c.compact.ensures.kept c.compact.ensures.places in
    let n = c.change_members.new.members in
    let next = c.change_members.new.aside.items in
    let placed = c.change_members.ensures.placed keys was.placed was.placed_aside in
    subst (IsHashBody keys n next) (sym c.in-Some.ensures.1)
    (body_changed keys m n b.aside.items next b.count was (ap (λ r. r.heading) c.in_ok-change_members.ensures.relation) c.in_ok-change_members.ensures.kept placed.0 placed.1)
