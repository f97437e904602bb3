-- The results of the operators are relations (Tutorial D's): a law.
use Rattle.std.specs.Prelude.{◌≡◌, ℕ, Bool, List, IsTrue}
use Rattle.std.specs.List.{All}
use Rattle.td_tree.specs.model.Names.{IsName}
use Rattle.td_types.specs.model.Headings.{are_distinct, can_rename}
use Rattle.td_types.specs.model.Types.{IsType, attribute_names}
use Rattle.td_value.specs.model.Values.{Relation, IsRelation, IsValue, Tuple, type_of}
use Rattle.td_algebra.specs.laws.Membership.{AreNew, IsIn}
use Rattle.td_algebra.specs.model.Operators.{Addition, added_attributes, composition, difference, extended_relation, intersection, join, product, projected_relation, renamed_relation, restriction, semidifference, semijoin, set_relation, union}

-- a name, a type, and in each tuple of the relation a value of that type
abbrev pub IsTyped : Relation → Addition → Type 0
IsTyped r a =
    IsName a.name × IsType a.kind
    × ((u : Tuple) → IsIn u r → IsValue (a.value u) × (type_of (a.value u) ≡ a.kind))

-- each new name of the renamings is a name
abbrev pub NewNamesAreNames : List (List ℕ × List ℕ) → Type 0
NewNamesAreNames = All (λ (r : List ℕ × List ℕ). IsName r.1)

-- of relations the result is a relation, of UNION where they have one heading, of RENAME, EXTEND and a setting where these can be done
pub record ResultsAreRelations : Type 0 where
  pub of_restriction : (p : Tuple → Bool) (r : Relation) → IsRelation r → IsRelation (restriction p r)
  pub of_projection : (names : List (List ℕ)) (r : Relation) → IsRelation r → IsRelation (projected_relation names r)
  pub of_renaming :
      (renamings : List (List ℕ × List ℕ)) (r : Relation) → IsRelation r → IsTrue (can_rename renamings r.heading)
      → NewNamesAreNames renamings → IsRelation (renamed_relation renamings r)
  pub of_extension :
      (additions : List Addition) (r : Relation) → IsRelation r → AreNew additions r → All (IsTyped r) additions
      → IsRelation (extended_relation additions r)
  pub of_setting :
      (additions : List Addition) (r : Relation) → IsRelation r
      → IsTrue (are_distinct (attribute_names (added_attributes additions))) → All (IsTyped r) additions
      → IsRelation (set_relation additions r)
  pub of_union : (r s : Relation) → IsRelation r → IsRelation s → r.heading ≡ s.heading → IsRelation (union r s)
  pub of_intersection : (r s : Relation) → IsRelation r → IsRelation (intersection r s)
  pub of_difference : (r s : Relation) → IsRelation r → IsRelation (difference r s)
  pub of_join : (r s : Relation) → IsRelation r → IsRelation s → IsRelation (join r s)
  pub of_product : (r s : Relation) → IsRelation r → IsRelation s → IsRelation (product r s)
  pub of_composition : (r s : Relation) → IsRelation r → IsRelation s → IsRelation (composition r s)
  pub of_semijoin : (r s : Relation) → IsRelation r → IsRelation (semijoin r s)
  pub of_semidifference : (r s : Relation) → IsRelation r → IsRelation (semidifference r s)
