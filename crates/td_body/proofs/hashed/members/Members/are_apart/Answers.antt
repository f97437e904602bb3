use Rattle.std.proofs.Common.{◌≡◌, ◌∙◌, ap, nat_eq, subst, sym}
use Rattle.std.specs.Prelude.{IfSome}
use Rattle.td_body.specs.code.KeyIndexes.{IsIndex}
use Rattle.td_body.specs.code.KeyParts.{apart_at}
use Rattle.td_body.specs.code.Members.{Members}
use Rattle.td_body.specs.code.Numbered.{live}
use Rattle.td_body.proofs.News.{apart_now, index_low, index_places}
use Rattle.td_body.proofs.hashed.members.Members.are_apart.Goals as goal

pub returns : goal.returns
returns c =
    let xs = c.self.inside.indexes.items in
    let rows = c.self.inside.rows in
    let k = c.args.number in
    let x = c.index.result.now in
    let m = c.args.self.now in
    let same = ap (λ (m : Members). m.places) c.self.view_is in
    let index : IsIndex rows.rows rows.gone x = subst (IsIndex rows.rows rows.gone) (sym c.index.ensures) (c.self.invariant.indexed k x (index_low xs m.places same k c.requires)) in
    let told = apart_now x.places.items (live rows.rows rows.gone) x.clashes.now c.self.invariant.apart index.1 ∙ ap (λ (m : Members). apart_at x.places.items m.relation.body) c.self.view_is in
    subst (λ o. IfSome o (λ places. nat_eq x.clashes.now 0 ≡ apart_at places m.relation.body)) (sym (index_places xs m.places same k c.requires x c.index.ensures)) told
