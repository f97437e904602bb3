-- One thing for each tuple of a relation, in the order of the tuples, is always what some function gives of them (this project's own).
use Rattle.std.specs.Prelude.{◌≡◌, Bool, List, length, map}
use Rattle.td_value.specs.model.Values.{Val, Tuple, Relation, IsRelation}
use Rattle.td_algebra.specs.code.Columns.{AreColumns, AreColumnsOf, NamedColumn}
use Rattle.td_algebra.specs.model.Operators.{Addition}

-- each mask is that of a condition
abbrev pub MasksAreOfConditions : Type 0
MasksAreOfConditions =
    (r : Relation) (mask : List Bool) → IsRelation r → length mask ≡ length r.body
    → (p : Tuple → Bool) × (mask ≡ map p r.body)

-- each list of values is that of a function
abbrev pub ValuesAreOfFunctions : Type 0
ValuesAreOfFunctions =
    (r : Relation) (values : List Val) → IsRelation r → length values ≡ length r.body
    → (value : Tuple → Val) × (values ≡ map value r.body)

-- columns are those of new attributes
abbrev pub ColumnsAreOfAdditions : Type 0
ColumnsAreOfAdditions =
    (r : Relation) (cs : List NamedColumn) → IsRelation r → AreColumns cs r.body
    → (additions : List Addition) × AreColumnsOf cs r.body additions

-- masks, values and columns with one place for each tuple are what functions give of the tuples
pub record ListsAreOfFunctions : Type 0 where
  pub masks : MasksAreOfConditions
  pub values : ValuesAreOfFunctions
  pub columns : ColumnsAreOfAdditions
