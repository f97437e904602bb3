use Rattle.std.proofs.Common.{◌∙◌, [], ap}
use Rattle.std.proofs.lemmas.Result.{on_ok_weaker}
use Rattle.td_value.specs.model.Values.{relation_view}
use Rattle.td_body.specs.code.Members.{changed_set}
use Rattle.td_body.proofs.TupleSets.{changed_both}
use Rattle.td_body.proofs.hashed.members.Members.apply.Goals as goal

pub returns-clause-relation : goal.returns-clause-relation
returns-clause-relation c =
    let r = c.args.self.now.relation in
    let out = c.in_ok-take_out.ensures.relation in
    on_ok_weaker c.put_all_in.result
    (λ e. e ∙ ap (λ s. relation_view s.heading (changed_set [] c.args.add.now s.body)) out ∙ ap (relation_view r.heading) (changed_both c.args.out.now c.args.add.now r.body))
    c.put_all_in.ensures.relation
