-- What is declared or known is so where more types are declared.
use Rattle.std.proofs.Common.{◌≡◌, ◌∙◌, ℕ, List, ◌++◌, Some, ap}
use Rattle.std.specs.Prelude.{is_some}
use Rattle.td_types.specs.model.TypeLists.{AreKnown, DeclaredType, IsKnown, declared_at}
use Rattle.td_types.specs.model.Types.{Type', boolean, integer, char, user, tuple, relation, Attrs, no_attrs, attr}
use Rattle.td_types.proofs.DeclaredTypes.{declared_at-earlier, is_declared-earlier}

pub declared_more : (name : List ℕ) (ds more : List DeclaredType) (d : DeclaredType) → declared_at name ds ≡ Some d
    → declared_at name (ds ++ more) ≡ Some d
declared_more name ds more d e = declared_at-earlier name ds more (ap is_some e) ∙ e

mutual
  pub known_more : (ds more : List DeclaredType) (t : Type') → IsKnown ds t → IsKnown (ds ++ more) t
  known_more ds more boolean k = tt
  known_more ds more integer k = tt
  known_more ds more char k = tt
  known_more ds more (user name) k = is_declared-earlier name ds more k
  known_more ds more (tuple heading) k = all_known_more ds more heading k
  known_more ds more (relation heading) k = all_known_more ds more heading k

  pub all_known_more : (ds more : List DeclaredType) (heading : Attrs) → AreKnown ds heading → AreKnown (ds ++ more) heading
  all_known_more ds more no_attrs k = tt
  all_known_more ds more (attr name t rest) k = (known_more ds more t k.0, all_known_more ds more rest k.1)
