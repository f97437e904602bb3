use Rattle.std.proofs.Common.{rules, ◌≡◌, List, Option, Some, None, option_map, codes, sym, ◌∙◌, subst}
use Rattle.clap.specs.Words.{Row, Text, rows_of, found_of, subcommand_rows_of}
use Rattle.clap.proofs.WalkLemmas.{first_value-rows}
use Rattle.td.specs.model.CommandLine.{IsSaidBy}
use Rattle.td.specs.declared.line.Line.{Line}
use Rattle.td.proofs.line.line_of.Goals as goal

both : {B : Type 0} (name : B → Text) (rows : B → List Row) (s : Option B) (n : Text) (r : List Row) → let pair : B → Text × List Row = λ b. (name b, rows b) in
    Some n ≡ option_map name s → Some r ≡ option_map (λ (p : Text × List Row). p.1) (option_map pair s) → option_map pair s ≡ Some (n, r)
both name rows None n r h k = cc
both name rows (Some b) n r h k = cc

pub returns-clause-some : goal.returns-clause-some
returns-clause-some c =
    let found = found_of c.in_ok-name.found.now in
    let line : Line = record { mode = c.in_ok-mode.mode; stop = c.stops.result; file = c.get_str.result } in
    let said : subcommand_rows_of c.args.matches.now ≡ Some (c.in_ok-name.name.now, rows_of found) = both _ _ _ _ _ (search rules) (search rules) in
    subst (IsSaidBy line) (sym said) (record {
      mode = c.in_ok-mode.ensures.some;
      stops = c.stops.ensures;
      file = c.get_str.ensures ∙ first_value-rows found (codes "file");
    })
