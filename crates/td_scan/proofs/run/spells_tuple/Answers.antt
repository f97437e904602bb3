use Rattle.std.proofs.Common.{◌≡◌, arith, length}
use Rattle.td_scan.proofs.RunLaws.{tuple_word}
use Rattle.td_scan.proofs.run.spells_tuple.Goals as goal

pub returns-then-e-eq69 : goal.returns-then-e-eq69
returns-then-e-eq69 c = λ spelled.
    let five : length c.args.text.now ≡ 5 = omega (arith, c.in-len5.len_at_least, c.in-len5.len_below) in
    tuple_word c.args.text.now five c.if-t-eq84.true c.if-u-eq85.true c.if-p-eq80.true c.if-l-eq76.true c.if-e-eq69.true
