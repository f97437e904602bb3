use Rattle.std.proofs.Common.{codes, sym, ◌∙◌, subst}
use Rattle.clap.specs.Words.{rows_of, found_of}
use Rattle.clap.proofs.WalkLemmas.{one_text-rows}
use Rattle.td.specs.model.CommandLine.{Stops}
use Rattle.td.specs.declared.line.Mode.{Mode}
use Rattle.td.proofs.line.stops.Goals as goal

pub returns-in-Run : goal.returns-in-Run
returns-in-Run c =
    let found = found_of c.args.found.now in
    subst (λ (mode : Mode). Stops mode (rows_of found) c.get_flag.result) (sym c.in-Run.is) (
      λ h. c.get_flag.ensures.value (one_text-rows found (codes "stop") ∙ h),
      λ h. c.get_flag.ensures.other (one_text-rows found (codes "stop") ∙ h),
    )
