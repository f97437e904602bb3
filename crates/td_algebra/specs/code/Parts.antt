-- The equality and the hash of lists of values.
use Rattle.std.specs.Prelude.{◌≡◌, ℕ, IsTrue, List, refl}
use Rattle.std.specs.Bool.{Decides}
use Rattle.std.specs.Cmp.{IsEquivalence}
use Rattle.std.specs.List.{flat_map}
use Rattle.std.proofs.Common.{ap}
use Rattle.std.proofs.lemmas.Cmp.{eq_by_cmp_equiv, lists_equiv}
use Rattle.std.proofs.lemmas.Slice.Eq.{slice_eq-Decides}
use Rattle.td_value.specs.code.Hashes.{fed_value}
use Rattle.td_value.specs.code.ValueOrder.{order_total, value_Decides}
use Rattle.td_value.specs.model.Values.{Val}
use Rattle.td_algebra.specs.code.Lookups.{are_same}

-- what the hash of a list of values is fed: what the hash of each is fed
abbrev pub fed_values : List Val → List (List ℕ)
fed_values = flat_map fed_value

pub same_equiv : IsEquivalence are_same
same_equiv = lists_equiv (eq_by_cmp_equiv order_total)

-- only equal lists have the same values
pub same_Decides : (vs ws : List Val) → Decides (are_same vs ws) (vs ≡ ws)
same_Decides vs ws = slice_eq-Decides value_Decides vs ws (are_same vs ws) refl

pub same_fed_alike : (vs ws : List Val) → IsTrue (are_same vs ws) → fed_values vs ≡ fed_values ws
same_fed_alike vs ws h = ap fed_values ((same_Decides vs ws).0 h)
