use Rattle.std.proofs.Common.{◌≡◌, ◌∙◌, subst}
use Rattle.td_body.proofs.TupleSets.{has_tuple}
use Rattle.td_body.proofs.StepLaws.{find_has}
use Rattle.td_body.proofs.hashed.members.Members.contains.Goals as goal

pub returns : goal.returns
returns c = subst (λ s. c.is_some.result ≡ has_tuple c.args.tuple.now s.relation.body) c.self.view_is
    (c.is_some.ensures ∙ find_has c.self.inside.rows.rows c.self.inside.rows.gone c.args.tuple.now c.find.result c.self.invariant.marks c.find.ensures.within c.find.ensures.there c.find.ensures.same c.find.ensures.none)
