-- Which user types stand in a type, and lists of declared types without one (this project's own).
use Rattle.std.specs.Prelude.{ℕ, Bool, false, ◌||◌, List}
use Rattle.std.specs.List.{list_any}
use Rattle.std.specs.Set.{remove_key}
use Rattle.td_types.specs.model.TypeLists.{DeclaredType}
use Rattle.td_types.specs.model.Types.{Type', boolean, integer, char, user, tuple, relation, Attrs, no_attrs, attr, pack, same_name}

abbrev mutual
  -- whether the user type of the name stands in a type, at any depth
  pub names_user : List ℕ → Type' → Bool
  names_user name boolean = false
  names_user name integer = false
  names_user name char = false
  names_user name (user n) = same_name n name
  names_user name (tuple heading) = any_names_user name heading
  names_user name (relation heading) = any_names_user name heading

  pub any_names_user : List ℕ → Attrs → Bool
  any_names_user name no_attrs = false
  any_names_user name (attr n ty rest) = names_user name ty || any_names_user name rest

-- whether a declared type has a component of such a type
abbrev pub is_made_of : List ℕ → DeclaredType → Bool
is_made_of name d = any_names_user name (pack d.components)

-- whether one of the declared types has
abbrev pub is_component : List ℕ → List DeclaredType → Bool
is_component name = list_any (is_made_of name)

-- the declared types without the one of the name
abbrev pub without_declared : List ℕ → List DeclaredType → List DeclaredType
without_declared name = remove_key (λ d. same_name d.name name)
