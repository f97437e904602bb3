use Rattle.std.proofs.Common.{◌≡◌, ◌∙◌, sym, true}
use Rattle.td_value.specs.model.Values.{relation_view}
use Rattle.td_algebra.specs.code.Merges.{is_wanted}
use Rattle.td_algebra.specs.model.Operators.{intersection, restriction}
use Rattle.td_algebra.proofs.Keys.{if_ok}
use Rattle.td_algebra.proofs.Merges.{common_turned}
use Rattle.td_algebra.proofs.sets.intersect.Goals as goal

pub returns-then-rows : goal.returns-then-rows
returns-then-rows c =
    let r = c.args.rel.now in
    let s = c.args.other.now in
    if_ok (λ made. made ≡ restriction (is_wanted true r.body) s) (λ made. made ≡ intersection r s) c.wanted_part.result
    (λ made e. e ∙ (λ i. relation_view (sym c.requires i) (common_turned s.body r.body c.rows.ensures.ascending c.rows-2.ensures.ascending i)))
    c.wanted_part.ensures
