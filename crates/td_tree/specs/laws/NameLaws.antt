-- What the bytes of names tell: a law (this project's own).
use Rattle.std.specs.Prelude.{◌≡◌, ℕ, List, IsUtf8}
use Rattle.std.specs.Cmp.Lexicographic.{slice_cmp}
use Rattle.std.specs.Ordering.{nat_cmp}
use Rattle.std.specs.Str.{chars}

-- texts compare by their bytes in UTF-8 as by the code points of their characters
abbrev pub BytesCompareAsCodePoints : Type 0
BytesCompareAsCodePoints = (s t : List ℕ) → IsUtf8 s → IsUtf8 t
    → slice_cmp nat_cmp s t ≡ slice_cmp nat_cmp (chars s) (chars t)
