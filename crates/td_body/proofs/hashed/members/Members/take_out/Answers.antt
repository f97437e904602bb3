use Rattle.std.proofs.Common.{◌≡◌, ◌∙◌, ◌+◌, ◌∷◌, [], ap, drop, sym}
use Rattle.std.proofs.lemmas.List.{at_drop_all, drop_more}
use Rattle.td_algebra.proofs.Relations.{rows_ascend}
use Rattle.td_value.specs.model.Values.{relation_view}
use Rattle.td_body.specs.code.Members.{Members, changed_set}
use Rattle.td_body.proofs.TupleSets.{changed_none, changed_out}
use Rattle.td_body.proofs.hashed.members.Members.take_out.Goals as goal

pub loop-tuple-preserved : goal.loop-tuple-preserved
loop-tuple-preserved c =
    let t = c.tuple-item.result in
    let i = c.loop-tuple.tuple-index in
    let out = c.args.out.now in
    let body = c.loop-tuple.self.relation.body in
    let gone = c.in_ok-remove.ensures.relation in
    let first : drop i out ≡ t ∷ drop (i + 1) out = drop_more out i t c.loop-tuple-test.true ∙ ap (λ u. u ∷ drop (i + 1) out) (sym c.tuple-item.is) in
    record {
      heading = ap (λ r. r.heading) gone ∙ c.loop-tuple.invariant.heading;
      body = ap (λ r. changed_set (drop (i + 1) out) [] r.body) gone ∙ changed_out t (drop (i + 1) out) body
          ∙ ap (λ l. changed_set l [] body) (sym first) ∙ c.loop-tuple.invariant.body;
      kept = c.remove.ensures.kept ∙ c.loop-tuple.invariant.kept;
      places = c.remove.ensures.places ∙ c.loop-tuple.invariant.places;
    }

pub returns-clause-relation : goal.returns-clause-relation
returns-clause-relation c =
    let r = c.loop-tuple.self.relation in
    let out = c.args.out.now in
    let heading = c.loop-tuple.invariant.heading ∙ ap (λ (m : Members). m.relation.heading) c.self.view_is in
    let rest : changed_set (drop c.loop-tuple.tuple-index out) [] r.body ≡ changed_set [] [] r.body = at_drop_all (λ l. changed_set l [] r.body) out c.loop-tuple.tuple-index c.loop-tuple-test.false in
    let body = sym (changed_none r.body (rows_ascend r c.reveal.ensures)) ∙ sym rest ∙ c.loop-tuple.invariant.body ∙ ap (λ (m : Members). changed_set out [] m.relation.body) c.self.view_is in
    λ i. relation_view (heading i) (body i)
