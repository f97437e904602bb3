use Rattle.std.proofs.Common.{◌∙◌, ◌++◌, ◌<◌, ap, length, subst, sym}
use Rattle.td_body.specs.code.Numbered.{live}
use Rattle.td_body.proofs.Lives.{append_none, live_all}
use Rattle.td_body.proofs.hashed.rows.Rows.of.Goals as goal

pub returns-clause-live : goal.returns-clause-live
returns-clause-live c =
    ap (λ l. live l c.in_ok-gone.gone.items) (ap (λ l. c.args.base.body ++ l) c.new.ensures.items ∙ append_none c.args.base.body)
    ∙ live_all c.args.base.body c.in_ok-gone.gone.items (c.in_ok-gone.ensures.length ∙ ap length c.rows.ensures.rows)
    (λ i d low. c.in_ok-gone.ensures.clear i d (subst (λ n. i < n) (sym (ap length c.rows.ensures.rows)) low))
