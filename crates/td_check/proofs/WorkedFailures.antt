-- Whether some expressions cannot fail, worked from the definition alone: in a scope with the type QTY, which has a constraint, a
-- base relvar R and a virtual one V, both of the heading {A INTEGER}.
use Rattle.std.proofs.Common.{◌≡◌, [], ◌∷◌, Some, false, true, refl}
use Rattle.std.specs.Prelude.{codes}
use Rattle.td_check.specs.laws.CannotFail.{cannot_fail}
use Rattle.td_check.specs.model.Scopes.{Scope}
use Rattle.td_check.specs.declared.scope.Kind.TheVariants.{Base, Virtual}
use Rattle.td_tree.specs.model.Trees.{Tree, literal, number, truth, name, compare, binary, postfix, extend_setting, binding, more_named, none_named, headed_relation, attribute, no_attributes, measure, more, none, select, prefix, rename, restriction}
use Rattle.td_tree.specs.model.Trees as trees
use Rattle.td_tree.specs.declared.operator.Comparison.TheVariants.{Equal}
use Rattle.td_tree.specs.declared.operator.Measure.TheVariants.{Count, IsEmpty}
use Rattle.td_tree.specs.declared.operator.Operator.TheVariants.{DisjointUnion, Divide, IncludedMinus, Union}
use Rattle.td_tree.specs.declared.operator.Prefix.TheVariants.{Negate}
use Rattle.td_tree.specs.declared.operator.Style.TheVariants.{Older}
use Rattle.td_types.specs.model.TypeLists.{declared_type}
use Rattle.td_types.specs.model.Types.{integer}

abbrev scope : Scope
scope =
    record {
      types = declared_type (codes "QTY") ((codes "C", integer) ∷ []) (Some (literal (truth true))) ∷ [];
      relvars = record { name = codes "R"; kind = Base; heading = (codes "A", integer) ∷ [] }
          ∷ record { name = codes "V"; kind = Virtual; heading = (codes "A", integer) ∷ [] } ∷ [];
      constraints = [];
      entered = [];
    }

abbrev one : Tree
one = literal (number false 1)

abbrev r : Tree
r = name (codes "R")

-- 1 and -1 cannot fail; - -1 may, and so may 1 / 0
literal_cannot : cannot_fail scope one ≡ true
literal_cannot = refl

minus_cannot : cannot_fail scope (literal (number true 1)) ≡ true
minus_cannot = refl

negation_may : cannot_fail scope (prefix Negate (literal (number true 1))) ≡ false
negation_may = refl

quotient_may : cannot_fail scope (binary one Divide (literal (number false 0))) ≡ false
quotient_may = refl

-- R UNION R cannot fail; R D_UNION R and R I_MINUS R may
union_cannot : cannot_fail scope (binary r Union r) ≡ true
union_cannot = refl

disjoint_union_may : cannot_fail scope (binary r DisjointUnion r) ≡ false
disjoint_union_may = refl

included_minus_may : cannot_fail scope (binary r IncludedMinus r) ≡ false
included_minus_may = refl

-- EXTEND R : {A := A} cannot fail; EXTEND R : {A := 1 / 0} may
setting_cannot : cannot_fail scope (extend_setting r (more_named (codes "A") (name (codes "A")) none_named)) ≡ true
setting_cannot = refl

setting_may : cannot_fail scope (extend_setting r (more_named (codes "A") (binary one Divide (literal (number false 0))) none_named)) ≡ false
setting_may = refl

-- R WHERE A = 1 cannot fail; R WHERE COUNT(R) = 1 may
test_cannot : cannot_fail scope (restriction r (compare (name (codes "A")) Equal one)) ≡ true
test_cannot = refl

count_may : cannot_fail scope (restriction r (compare (measure Count r) Equal one)) ≡ false
count_may = refl

-- V may; R RENAME (A AS V) WHERE V = 1 cannot, since V is an attribute there
virtual_may : cannot_fail scope (name (codes "V")) ≡ false
virtual_may = refl

hidden_cannot : cannot_fail scope (restriction (postfix r (rename Older (record { old = codes "A"; new = codes "V" } ∷ [])))
    (compare (name (codes "V")) Equal one)) ≡ true
hidden_cannot = refl

-- WITH (V := R) : V cannot fail, since V is its item there; WITH (X := V) : X and WITH (X := 1 / 0) : 1 may
bound_cannot : cannot_fail scope (binding (more_named (codes "V") r none_named) (name (codes "V"))) ≡ true
bound_cannot = refl

bound_may : cannot_fail scope (binding (more_named (codes "X") (name (codes "V")) none_named) (name (codes "X"))) ≡ false
bound_may = refl

unused_may : cannot_fail scope (binding (more_named (codes "X") (binary one Divide (literal (number false 0))) none_named) one) ≡ false
unused_may = refl

-- QTY(1) may; IS_EMPTY(RELATION {Q QTY} {}) cannot
selector_may : cannot_fail scope (select (codes "QTY") (more one none)) ≡ false
selector_may = refl

heading_cannot : cannot_fail scope (measure IsEmpty (headed_relation (attribute (codes "Q") (trees.user (codes "QTY")) no_attributes) none)) ≡ true
heading_cannot = refl
