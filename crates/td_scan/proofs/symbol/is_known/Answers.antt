use Rattle.std.proofs.Common.{◌∙◌, sym}
use Rattle.td_scan.proofs.KnownLaws.{known_ascii}
use Rattle.td_scan.proofs.symbol.is_known.Goals as goal

pub returns-else-bytes-char_size-clause-known : goal.returns-else-bytes-char_size-clause-known
returns-else-bytes-char_size-clause-known c = λ has. known_ascii c.args.bytes.now (sym c.has_ascii.ensures ∙ has)
