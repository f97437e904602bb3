use Rattle.std.proofs.Common.{◌∙◌, ap, map, subst, sym}
use Rattle.td_value.specs.model.Values.{relation_view}
use Rattle.td_body.specs.code.Logs.{kept_by}
use Rattle.td_body.specs.code.Members.{AreMembers, tuples_of}
use Rattle.td_body.proofs.News.{members_new}
use Rattle.td_body.proofs.hashed.members.Members.fresh.Goals as goal

pub invariant_of-result : goal.invariant_of-result
invariant_of-result c =
    let r = c.args.rows in
    subst (AreMembers r.rows r.gone r.fixed c.of.result.now c.of.result.before.items c.args.indexes.items) (sym c.new.ensures.items)
    (members_new r.rows r.gone r.fixed c.of.result.now c.of.result.before.items c.args.indexes.items c.requires.apart c.count-count.ensures.marks (c.of.ensures.now ∙ c.requires.alive)
    c.of.ensures.before c.requires.index c.requires.before c.requires.some)

pub returns-clause-relation : goal.returns-clause-relation
returns-clause-relation c = ap (relation_view c.args.rows.heading) c.requires.apart

pub returns-clause-kept : goal.returns-clause-kept
returns-clause-kept c = ap (λ log. map (relation_view c.args.rows.heading) (kept_by tuples_of log c.args.rows.rows c.args.rows.gone)) c.new.ensures.items
