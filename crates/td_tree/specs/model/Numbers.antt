-- Numbers as they are spelled (this project's own).
use Rattle.std.specs.Prelude.{ℕ, ◌+◌, ◌-◌, ◌*◌, ◌^◌, Bool, true, false, List, fold}

-- the number that digits spell
abbrev pub decimal_value : List ℕ → ℕ
decimal_value digits = fold (λ n digit. n * 10 + (digit - 48)) 0 digits

-- up to 9223372036854775807; with a minus up to 9223372036854775808
abbrev pub numeral_limit : Bool → ℕ
numeral_limit true = 2 ^ 63
numeral_limit false = 2 ^ 63 - 1
