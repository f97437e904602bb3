use Rattle.std.proofs.Common.{◌∙◌, sym}
use Rattle.td_eval.proofs.code_lemmas.WalkedTotals.{part_agrees}
use Rattle.td_types.specs.model.Headings.{is_part}
use Rattle.td_eval.proofs.operators.summaries.groups_by_per.Goals as goal

pub groups-requires : goal.groups-requires
groups-requires c =
    part_agrees c.args.per.now.heading c.args.rel.now.heading
    ((λ i. is_part (sym c.heading.ensures i) (sym c.heading-2.ensures i)) ∙ sym c.is_part_of.ensures ∙ c.in_ok-fit.ensures.fits)
