use Rattle.std.proofs.Common.{◌≡◌, ◌∙◌, ap, filter, length, not, subst}
use Rattle.std.specs.List.{slice_get}
use Rattle.std.specs.Prelude.{◌==◌, IfSome}
use Rattle.td_body.specs.model.Bodies.{agreeing}
use Rattle.td_plan.proofs.PartnerLaws.{partner_found}
use Rattle.td_value.specs.model.Agreement.{agree_on}
use Rattle.td_plan.proofs.running.partners.has_partner.Goals as goal

pub returns : goal.returns
returns g c =
    let key = c.args.key.now in
    let b = g.B.Body.relation c.args.entry.now.body in
    let at = ap (λ ks. slice_get ks c.args.place) c.requires.entry.keys_are ∙ c.requires.place in
    let found = subst (λ o. IfSome o (λ names. c.in_ok-found.found ≡ agreeing names c.in_ok-project.field-0 b)) at c.in_ok-found.ensures in
    let rows = c.rows.ensures.rows ∙ ap (λ r. r.body) found ∙ ap (λ part. filter (agree_on key part) b.body) c.in_ok-project.ensures in
    ap not (c.is_empty.ensures ∙ ap (λ ts. length ts == 0) rows) ∙ partner_found key b c.args.tuple.now
