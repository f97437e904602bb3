use Rattle.std.proofs.Common.{◌∙◌, sym}
use Rattle.td_types.specs.code.TypeOrder.{heading_eq-Decides}
use Rattle.td_engine.proofs.evaluation.of_heading.Goals as goal

pub returns-then-eq-clause-heading : goal.returns-then-eq-clause-heading
returns-then-eq-clause-heading c =
    sym c.heading.ensures ∙ (heading_eq-Decides c.heading.result.now c.args.heading.now).0 (sym c.if-eq.ensures)
