-- What headings are as finite maps from names to types: laws (Tutorial D's).
use Rattle.std.specs.Prelude.{◌≡◌, ℕ, List, Some, IsTrue, ◌↔◌}
use Rattle.td_types.specs.model.Types.{Type', Heading, IsAscending, type_at}
use Rattle.td_types.specs.model.Headings.{IsMap, agree, can_rename, has_attribute, new_name, renamed_attributes}

-- a heading is determined by the type that it gives each name
abbrev pub TypesDetermineHeading : Type 0
TypesDetermineHeading = (g h : Heading) → IsAscending g → IsAscending h → IsMap g (λ name. type_at name h) → g ≡ h

-- two headings agree exactly where each name that both have has one type
abbrev pub AgreementIsOneType : Type 0
AgreementIsOneType =
    (g h : Heading) → IsAscending g
    → IsTrue (agree g h) ↔ ((name : List ℕ) (s t : Type') → type_at name g ≡ Some s → type_at name h ≡ Some t → s ≡ t)

-- renaming gives each new name the type of its old one, and there are no others
abbrev pub RenamingKeepsTypes : Type 0
RenamingKeepsTypes =
    (renamings : List (List ℕ × List ℕ)) (h : Heading) → IsTrue (can_rename renamings h)
    → ((name : List ℕ) → IsTrue (has_attribute name h)
    → type_at (new_name renamings name) (renamed_attributes renamings h) ≡ type_at name h)
    × ((name : List ℕ) → IsTrue (has_attribute name (renamed_attributes renamings h))
    → (old : List ℕ) × IsTrue (has_attribute old h) × (new_name renamings old ≡ name))
