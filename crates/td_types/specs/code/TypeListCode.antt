-- How the logic stores declared types: the code that a Model asks for.
use Rattle.std.specs.Prelude.{ℕ, List, Option, refl}
use Rattle.std.specs.Coded.{Coded, code_by, coded×, coded_list, coded_ℕ, coded_option}
use Rattle.td_tree.specs.code.TreeCode.{tree_code}
use Rattle.td_tree.specs.model.Trees.{Tree}
use Rattle.td_types.specs.code.TypeCode.{heading_code}
use Rattle.td_types.specs.model.TypeLists.{DeclaredType, declared_type}
use Rattle.td_types.specs.model.Types.{Heading}

abbrev pub declared_code : Coded DeclaredType
declared_code =
    code_by (List ℕ × (Heading × Option Tree)) (coded× (coded_list coded_ℕ) (coded× heading_code (coded_option tree_code)))
    (λ d. (d.name, (d.components, d.constraint))) (λ p. declared_type p.0 p.1.0 p.1.1) (λ _. refl)

abbrev pub declared_list_code : Coded (List DeclaredType)
declared_list_code = coded_list declared_code
