-- The command line of `td` (this project's own), in the words of `clap`'s port.
use Rattle.std.specs.Prelude.{◌≡◌, Bool, true, false, List, Option, Some, None, codes, option_map}
use Rattle.clap.specs.Words.{App, Row, Rule, Text, first_of, one_of, new_app, new_rule, with_rule, with_subcommand}
use Rattle.clap.specs.Simple.{on_top}
use Rattle.clap.specs.declared.builder.ArgAction.TheVariants.{SetTrue}
use Rattle.td.specs.declared.line.Mode.{Mode}
use Rattle.td.specs.declared.line.Mode.TheVariants.{Run, Dump}
use Rattle.td.specs.declared.line.Line.{Line}

-- the flag `--stop`
abbrev pub stop_rule : Rule
stop_rule = record (new_rule (codes "stop")) { long = Some (codes "stop"); action = Some SetTrue }

-- `run`: a flag `--stop` and a file
abbrev pub run_app : App
run_app = with_rule (with_rule (new_app (codes "run")) stop_rule) (new_rule (codes "file"))

-- `dump`: a file
abbrev pub dump_app : App
dump_app = with_rule (new_app (codes "dump")) (new_rule (codes "file"))

-- the command `td`, which wants a subcommand
abbrev pub td_app : App
td_app =
    with_subcommand (with_subcommand (on_top (λ s. record s { subcommand_required = true }) (new_app (codes "td"))) run_app.top) dump_app.top

-- the word of a mode
abbrev pub mode_word : Mode → Text
mode_word Run = codes "run"
mode_word Dump = codes "dump"

-- whether the first refusal ends the run: where `--stop` was said; `dump` has no such flag
abbrev pub Stops : Mode → List Row → Bool → Type 0
Stops Run rows stop =
    (one_of (codes "stop") rows ≡ Some (codes "true") → stop ≡ true) × (one_of (codes "stop") rows ≡ Some (codes "false") → stop ≡ false)
Stops Dump rows stop = stop ≡ false

-- the line says what the subcommand's matches hold
pub record Says (line : Line) (name : Text) (rows : List Row) : Type 0 where
  pub mode : name ≡ mode_word line.mode
  pub stops : Stops line.mode rows line.stop
  pub file : option_map (λ s. s.now) line.file ≡ first_of (codes "file") rows

abbrev pub IsSaidBy : Line → Option (Text × List Row) → Type 0
IsSaidBy line None = ⊥
IsSaidBy line (Some p) = Says line p.0 p.1

-- the subcommand names a mode
abbrev pub IsOfMode : Option (Text × List Row) → Type 0
IsOfMode None = ⊥
IsOfMode (Some p) = (mode : Mode) × (p.0 ≡ mode_word mode)
