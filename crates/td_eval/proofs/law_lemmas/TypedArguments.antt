-- The values of a selector's arguments, where they have the types of its components.
use Rattle.std.proofs.Common.{◌≡◌, true, List, [], ◌∷◌, Option, Some, None, ap, subst, sym}
use Rattle.std.specs.List.{AllByRecursion}
use Rattle.td_algebra.proofs.Members.{first_true, second_true}
use Rattle.td_check.specs.model.OperatorTypes.{are_types_of, known_or, same_type}
use Rattle.td_check.specs.model.StaticTypes.{type_of, types_of}
use Rattle.td_check.specs.model.Scopes.{Scope}
use Rattle.td_tree.specs.declared.cause.Cause.{Cause}
use Rattle.td_tree.specs.model.Outcomes.{Outcome, Valued}
use Rattle.td_tree.specs.model.Trees.{Trees, none, more}
use Rattle.td_types.specs.model.TypeLists.{DeclaredType}
use Rattle.td_types.specs.model.Types.{Type', Attribute}
use Rattle.td_types.proofs.OutcomeLaws.{valued_is, values_of_both}
use Rattle.td_value.specs.model.KnownValues.{AreOfTypes}
use Rattle.td_value.specs.model.Values.{Val, AreValues, Tuple, pack_parts}
use Rattle.td_eval.specs.model.TreeValues.{argument_values, value_of}
use Rattle.td_eval.specs.laws.ValueTypes.{IsOfType, IsTypedTuple, KeepsScope, KeepsType}
use Rattle.td_eval.specs.model.Worlds.{World, with_tuples}
use Rattle.td_eval.proofs.code_lemmas.TypedTrees.{keeps}
use Rattle.td_eval.proofs.code_lemmas.TypedValues.{type_is}
use Rattle.td_tree.specs.model.WrittenTrees.{GiveNames, HaveTexts}

-- what is known is there
pub known_is : {A : Type 0} (cause : Cause) (o : Option A) (x : A) → known_or cause o ≡ Valued x → o ≡ Some x
known_is cause None x e = absurd (cc)
known_is cause (Some y) x e = ap Some (valued_is y x e)

no_fewer : {A : Type 0} (x : A) (xs : List A) → Valued [] ≡ Valued (x ∷ xs) → ⊥
no_fewer x xs e = absurd (cc)

-- a value where an expression that has a type has one
pub of_kept : (ds : List DeclaredType) (x : Outcome Type') (o : Outcome Val) (t : Type') (v : Val) → KeepsType ds x o → x ≡ Valued t → o ≡ Valued v → IsOfType ds v t
of_kept ds x o t v k e f = subst (λ p. KeepsType ds (Valued t) p) f (subst (λ y. KeepsType ds y o) e k)

module _ (w : World) (scope : Scope) (k : KeepsScope w scope) (s : List Tuple) (h : AllByRecursion (IsTypedTuple scope.types) s) where
  -- the values are of the types of the components
  pub arguments_typed : (es : Trees) (ts : List Type') (vs : List Val) (cs : List Attribute) → GiveNames es → HaveTexts es
      → types_of (with_tuples scope s) es ≡ Valued ts → argument_values w s es ≡ Valued vs → are_types_of ts cs ≡ true
      → AreValues (pack_parts vs) × AreOfTypes scope.types (pack_parts vs) cs
  arguments_typed none ts vs cs n x is at fit = none_typed ts vs cs (valued_is [] ts is) (valued_is [] vs at) fit
    where
      none_typed : (ts : List Type') (vs : List Val) (cs : List Attribute) → [] ≡ ts → [] ≡ vs → are_types_of ts cs ≡ true
          → AreValues (pack_parts vs) × AreOfTypes scope.types (pack_parts vs) cs
      none_typed [] [] [] e f fit = (tt, tt)
      none_typed [] [] (a ∷ cs) e f fit = absurd (cc)
      none_typed [] (v ∷ vs) cs e f fit = absurd (cc)
      none_typed (t ∷ ts) vs cs e f fit = absurd (cc)
  arguments_typed (more first rest) ts vs cs n x is at fit =
      let types = values_of_both (type_of (with_tuples scope s) first) (types_of (with_tuples scope s) rest) (λ t ts. Valued (t ∷ ts)) ts is in
      let values = values_of_both (value_of w s first) (argument_values w s rest) (λ v vs. Valued (v ∷ vs)) vs at in
      let one = of_kept scope.types (type_of (with_tuples scope s) first) (value_of w s first) types.0 values.0
      (keeps w scope k first s h n.0 x.0) types.2 values.2 in
      subst (λ us. AreValues (pack_parts us) × AreOfTypes scope.types (pack_parts us) cs) (valued_is (values.0 ∷ values.1) vs values.4)
      (both types.0 types.1 values.0 values.1 cs (subst (λ us. are_types_of us cs ≡ true) (sym (valued_is (types.0 ∷ types.1) ts types.4)) fit) one
      (λ ds. arguments_typed rest types.1 values.1 ds n.1 x.1 types.3 values.3))
    where
      both : (t : Type') (ts : List Type') (v : Val) (vs : List Val) (cs : List Attribute) → are_types_of (t ∷ ts) cs ≡ true → IsOfType scope.types v t
          → ((ds : List Attribute) → are_types_of ts ds ≡ true → AreValues (pack_parts vs) × AreOfTypes scope.types (pack_parts vs) ds)
          → AreValues (pack_parts (v ∷ vs)) × AreOfTypes scope.types (pack_parts (v ∷ vs)) cs
      both t ts v vs [] fit one others = absurd (cc)
      both t ts v vs (a ∷ cs) fit one others =
          let same : t ≡ a.1 = type_is t a.1 (first_true (same_type t a.1) (are_types_of ts cs) fit) in
          let first = subst (IsOfType scope.types v) same one in
          let later = others cs (second_true (same_type t a.1) (are_types_of ts cs) fit) in
          ((first.0, later.0), (first.1, later.1))
