-- The writes that the hash of a type makes (this project's own): equal types are hashed alike.
use Rattle.std.specs.Prelude.{◌≡◌, ℕ, List, ◌++◌, IsTrue}
use Rattle.std.specs.Hash as fed
use Rattle.std.specs.Ordering.{eq_by_cmp}
use Rattle.std.proofs.Common.{ap}
use Rattle.td_types.specs.declared.ty.Ty.{Ty}
use Rattle.td_types.specs.model.Types.{Type', boolean, integer, char, user, tuple, relation, Attrs, no_attrs, attr, Heading, pack, heading_cmp}
use Rattle.td_types.specs.code.TypeOrder.{heading_eq-Decides, ty_cmp, type_eq-Decides}
use Rattle.td_types.specs.code.Views.{type_view}

abbrev mutual
  -- the place of the kind, and then the name or the heading
  pub fed_type : Type' → List (List ℕ)
  fed_type boolean = fed.u8 0
  fed_type integer = fed.u8 1
  fed_type char = fed.u8 2
  fed_type (user n) = fed.u8 3 ++ fed.str n
  fed_type (tuple xs) = fed.u8 4 ++ fed_heading xs
  fed_type (relation xs) = fed.u8 5 ++ fed_heading xs

  -- each attribute, and then an end
  pub fed_heading : Attrs → List (List ℕ)
  fed_heading no_attrs = fed.u8 6
  fed_heading (attr n t xs) = fed.str n ++ fed_type t ++ fed_heading xs

pub types_fed_alike : (s t : Ty) → IsTrue (eq_by_cmp ty_cmp s t) → fed_type (type_view s) ≡ fed_type (type_view t)
types_fed_alike s t h = ap fed_type ((type_eq-Decides (type_view s) (type_view t)).0 h)

pub headings_fed_alike : (g h : Heading) → IsTrue (eq_by_cmp heading_cmp g h) → fed_heading (pack g) ≡ fed_heading (pack h)
headings_fed_alike g h e = ap (λ k. fed_heading (pack k)) ((heading_eq-Decides g h).0 e)
