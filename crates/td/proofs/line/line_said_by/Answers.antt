use Rattle.std.proofs.Common.{◌≡◌, List, [], map, refl, subst, sym, true}
use Rattle.clap.specs.Faults.{fault_of, is_simple_and_free}
use Rattle.clap.specs.Words.{HasMatchesOf, Text, subcommand_of, subcommand_rows_of}
use Rattle.td.proofs.Faultless.{faultless_line}
use Rattle.td.specs.model.CommandLine.{IsOfMode, td_app}
use Rattle.td.proofs.line.line_said_by.Goals as goal

pub unreachable-requires : goal.unreachable-requires
unreachable-requires c =
    let words : List Text = map (λ s. s.now) c.args.words.now in
    let matches = c.in_ok-matches.matches in
    let faultless : fault_of td_app words ≡ [] =
    subst (λ a. is_simple_and_free a ≡ true → fault_of a words ≡ []) c.requires c.in_ok-matches.ensures.kinds refl in
    let rows : subcommand_rows_of matches ≡ subcommand_of td_app words =
    (subst (λ a. HasMatchesOf a words matches) c.requires c.in_ok-matches.ensures.ok.2 refl).1 in
    c.in_default.ensures.none (subst IsOfMode (sym rows) (faultless_line words faultless))
