use Rattle.std.proofs.Common.{◌≡◌, ◌∙◌, ap, length, subst, sym}
use Rattle.std.proofs.lemmas.List.{length-map}
use Rattle.td_value.specs.model.Values.{relation_view}
use Rattle.td_body.specs.code.Logs.{kept_by}
use Rattle.td_body.specs.code.Members.{tuples_of}
use Rattle.td_body.proofs.StepLaws.{kept_many}
use Rattle.td_body.proofs.hashed.members.Members.kept_count.Goals as goal

pub returns : goal.returns
returns c =
    let rows = c.self.inside.rows in
    let log = c.self.inside.log.items in
    subst (λ s. c.len.result ≡ length s.kept) c.self.view_is
    (c.len.ensures ∙ c.self.inside.alive.before.ok.0 ∙ ap length c.self.invariant.kept ∙ kept_many length tuples_of log rows.rows rows.gone
    ∙ sym (length-map (kept_by tuples_of log rows.rows rows.gone) (relation_view rows.heading)))
