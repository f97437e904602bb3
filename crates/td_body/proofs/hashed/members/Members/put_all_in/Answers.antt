use Rattle.std.proofs.Common.{◌∙◌, ap, refl, sym}
use Rattle.td_algebra.proofs.Relations.{rows_ascend}
use Rattle.td_body.specs.code.Members.{Members}
use Rattle.td_body.proofs.MemberChanges.{is_new, put_more, put_new, put_none}
use Rattle.td_body.proofs.TupleSets.{changed_none}
use Rattle.td_body.proofs.hashed.members.Members.put_all_in.Goals as goal
use Rattle.td_body.proofs.hashed.members.Members.put_all_in.Goals.{then-index+in_ok-put_in, else-index}

pub loop-place-init : goal.loop-place-init
loop-place-init c =
    let r = c.args.self.now.relation in
    record { heading = refl; body = sym (changed_none r.body (rows_ascend r c.reveal.ensures)); kept = refl; places = refl }

pub put_in-requires-clause-new : goal.put_in-requires-clause-new
put_in-requires-clause-new c =
    let ts = c.args.self.now.relation.body in
    let add = c.args.add.now in
    let i = c.loop-place.place in
    let t = c.index-add-place.result in
    let low = c.loop-place-test.true in
    let asked = is_new ts add c.in_ok-new.new.items i t c.index.result.now low c.in_ok-new.ensures c.index-add-place.is c.index.ensures in
    put_new ts add i t low c.index-add-place.is c.loop-place.self.relation.body c.index.result.now c.requires.ascending c.loop-place.invariant.body asked c.if-index.true

pub loop-place-preserved : goal.loop-place-preserved
loop-place-preserved c =
    let ts = c.args.self.now.relation.body in
    let add = c.args.add.now in
    let i = c.loop-place.place in
    let t = c.index-add-place.result in
    let low = c.loop-place-test.true in
    let now = c.loop-place.self.relation.body in
    let v = c.loop-place.invariant in
    let asked = is_new ts add c.in_ok-new.new.items i t c.index.result.now low c.in_ok-new.ensures c.index-add-place.is c.index.ensures in
    elim c.if-index.branch [
      | then-index+in_ok-put_in w ↦
          let made = ap (λ (m : Members). m.relation) w.self-is ∙ w.in_ok-put_in.ensures.relation in
          record {
            heading = ap (λ r. r.heading) made ∙ v.heading;
            body = ap (λ r. r.body) made ∙ put_more ts add i t low c.index-add-place.is now v.body;
            kept = ap (λ (m : Members). m.kept) w.self-is ∙ w.put_in.ensures.kept ∙ v.kept;
            places = ap (λ (m : Members). m.places) w.self-is ∙ w.put_in.ensures.places ∙ v.places;
          }
      | else-index w ↦
          record {
            heading = ap (λ (m : Members). m.relation.heading) w.self-is ∙ v.heading;
            body = ap (λ (m : Members). m.relation.body) w.self-is ∙ put_none ts add i t low c.index-add-place.is now c.index.result.now v.body asked w.if-index.false;
            kept = ap (λ (m : Members). m.kept) w.self-is ∙ v.kept;
            places = ap (λ (m : Members). m.places) w.self-is ∙ v.places;
          }
    ]
