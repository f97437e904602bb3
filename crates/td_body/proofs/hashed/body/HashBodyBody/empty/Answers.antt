use Rattle.std.proofs.Common.{◌∙◌, [], ap, map, subst, sym}
use Rattle.std.specs.List.Sorted.{IsStrictlySortedBy}
use Rattle.td_types.specs.model.Types.{attribute_names}
use Rattle.td_value.specs.model.Values.{IsAscendingBody, Relation, tuple_cmp}
use Rattle.td_body.specs.code.HashBodies.{IsPlacedFor}
use Rattle.td_body.specs.code.Members.{ArePlaced}
use Rattle.td_body.proofs.HashBodyLaws.{body_empty}
use Rattle.td_body.proofs.hashed.body.HashBodyBody.empty.Goals as goal

none_ascend : IsStrictlySortedBy tuple_cmp []
unfolding IsStrictlySortedBy
none_ascend = tt

pub of_ascending-requires-clause-ascending : goal.of_ascending-requires-clause-ascending
of_ascending-requires-clause-ascending c = subst IsAscendingBody (sym c.new.ensures.items) none_ascend

pub invariant_of-result : goal.invariant_of-result
invariant_of-result c =
    let m = c.in_ok-members.members in
    let placed : ArePlaced (map (λ key. key.items) c.deref.result.now) (attribute_names m.relation.heading) m.places =
    subst (λ (r : Relation). ArePlaced (map (λ key. key.items) c.deref.result.now) (attribute_names r.heading) m.places) (sym c.in_ok-members.ensures.relation) c.in_ok-members.ensures.placed in
    body_empty (map (λ key. key.items) c.in_ok-keys.keys.value.items) m c.new-3.result.items c.new-3.ensures.items c.in_ok-members.ensures.kept
    (subst (λ keys. IsPlacedFor (map (λ key. key.items) keys) m) (c.deref.ensures.value ∙ ap (λ v. v.items) (sym c.in_ok-keys.ensures.ok)) placed)
