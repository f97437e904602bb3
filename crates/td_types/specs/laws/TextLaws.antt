-- What the texts of types tell: a law (this project's own).
use Rattle.std.specs.Prelude.{◌≡◌, ◌↔◌}
use Rattle.td_types.specs.model.Types.{Type', IsType}
use Rattle.td_types.specs.model.Texts.{type_text}

-- two types have one text exactly where they are one
abbrev pub TextsTellTypesApart : Type 0
TextsTellTypesApart = (s t : Type') → IsType s → IsType t → (type_text s ≡ type_text t) ↔ (s ≡ t)
