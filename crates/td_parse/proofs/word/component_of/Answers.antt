use Rattle.std.proofs.Common.{◌-◌, arith, length, drop}
use Rattle.std.proofs.lemmas.List.{take_all, length-drop}
use Rattle.td_parse.proofs.Seen.{behind_is_utf8}
use Rattle.td_parse.proofs.word.component_of.Goals as goal

pub unreachable-requires : goal.unreachable-requires
unreachable-requires c =
    let t = c.args.text.now in
    c.in-Err.ensures.cases.0 (rw (take_all (length t - 4) (drop 4 t) (omega (arith, length-drop 4 t))) (behind_is_utf8 t c.requires))
