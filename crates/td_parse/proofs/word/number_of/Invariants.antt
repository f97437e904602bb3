use Rattle.std.proofs.Common.{◌≡◌, ◌+◌, ◌-◌, ◌*◌, true, drop}
use Rattle.std.specs.Prelude.{fold}
use Rattle.std.specs.Char.{is_ascii_digit}
use Rattle.std.specs.List.{list_all}
use Rattle.td_tree.specs.model.Numbers.{decimal_value}
use Rattle.td_parse.proofs.word.number_of.Given as goal

-- what is left goes on from the value so far, and is digits
abbrev pub invariant-loop-digit : goal.invariant-loop-digit
invariant-loop-digit l = record {
  value : fold (λ n digit. n * 10 + (digit - 48)) l.value (drop l.digit-index l.text) ≡ decimal_value l.text;
  digits : list_all is_ascii_digit (drop l.digit-index l.text) ≡ true;
}
