use Rattle.std.proofs.Common.{ap, subst, sym}
use Rattle.std.specs.Ordering.{is_eq}
use Rattle.std.specs.Prelude.{IfOk, IfSome}
use Rattle.td_algebra.proofs.Keys.{if_ok}
use Rattle.td_value.specs.model.Values.{HaveSameMembers}
use Rattle.td_body.specs.code.Hashes.{with_part}
use Rattle.td_body.specs.code.KeyParts.{values_cmp}
use Rattle.td_body.specs.code.Members.{Members}
use Rattle.td_body.specs.code.Numbered.{live}
use Rattle.td_body.proofs.News.{found_in_set, index_places}
use Rattle.td_body.proofs.hashed.members.Members.members_with.Goals as goal

pub returns : goal.returns
returns c =
    let xs = c.self.inside.indexes.items in
    let rows = c.self.inside.rows in
    let part = c.args.part.now in
    let x = c.index.result.now in
    let m = c.args.self.now in
    let same = ap (λ (m : Members). m.places) c.self.view_is in
    let told =
    if_ok (λ found. HaveSameMembers found.items (with_part x.places.items part (live rows.rows rows.gone))) (λ found. HaveSameMembers found.items (with_part x.places.items part m.relation.body)) c.found.result
    (λ found h. subst (λ (n : Members). HaveSameMembers found.items (with_part x.places.items part n.relation.body)) c.self.view_is
    (found_in_set (λ t. is_eq (values_cmp x.places.items t part)) found.items (live rows.rows rows.gone) h))
    c.found.ensures in
    subst (λ o. IfSome o (λ places. IfOk c.found.result (λ found. HaveSameMembers found.items (with_part places part m.relation.body))))
    (sym (index_places xs m.places same c.args.number c.requires.within x c.index.ensures)) told
