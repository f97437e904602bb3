use Rattle.std.proofs.Common.{◌∙◌, ap, sym}
use Rattle.td_algebra.proofs.Relations.{rows_ascend}
use Rattle.td_value.specs.model.Values.{relation_view}
use Rattle.td_body.proofs.TupleSets.{put_again}
use Rattle.td_body.proofs.hashed.members.Members.insert.Goals as goal

pub returns-then-contains-clause-relation : goal.returns-then-contains-clause-relation
returns-then-contains-clause-relation c =
    let r = c.args.self.now.relation in
    ap (relation_view r.heading) (sym (put_again c.args.tuple.now r.body (rows_ascend r c.reveal.ensures) (sym c.contains.ensures ∙ c.if-contains.true)))
