-- Equal names are hashed alike.
use Rattle.std.specs.Prelude.{◌≡◌, ℕ, ◌==◌, List, IsTrue}
use Rattle.std.specs.Hash as fed
use Rattle.std.specs.Cmp.Lexicographic.{same_text}
use Rattle.std.proofs.Common.{ap, sym}
use lib.Pointwise.{pointwise}

pub fed_alike : (m n : List ℕ) → IsTrue (pointwise ◌==◌ m n) → fed.str m ≡ fed.str n
fed_alike m n h = ap fed.str (same_text m n (sym h))
