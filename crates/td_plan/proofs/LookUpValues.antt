-- A look-up by a key that a condition fixes narrows what WHERE by the condition is asked of.
use Rattle.std.proofs.Common.{◌≡◌, ◌∙◌, ℕ, true, List, ◌∷◌, Option, None, Some, ap, option_map, refl, subst, sym}
use Rattle.std.specs.Prelude.{IsTrue}
use Rattle.td_body.specs.model.Bodies.{agreeing}
use Rattle.td_check.specs.laws.CannotFail.{cannot_fail}
use Rattle.td_check.specs.model.OperatorTypes.{known_or, over_relation, restriction_type, same_type}
use Rattle.td_check.specs.model.Scopes.{KnownRelvar, Scope, entered_with, innermost, known_relvar}
use Rattle.td_check.specs.model.StaticTypes.{name_type, type_of}
use Rattle.td_eval.proofs.code_lemmas.KeepsOperators.{typed_restriction}
use Rattle.td_eval.proofs.code_lemmas.KeepsRelations.{typed_from_value, value_from_typed}
use Rattle.td_eval.proofs.code_lemmas.OpValues.{relation_unpacked, tuple_unpacked}
use Rattle.td_eval.proofs.code_lemmas.TypedRows.{parts_typed, rows_typed}
use Rattle.td_eval.proofs.code_lemmas.TypedTrees.{innermost_typed}
use Rattle.td_eval.proofs.code_lemmas.TypedValues.{rows_of, type_is}
use Rattle.td_eval.specs.model.OperatorValues.{of_relation, on_relation}
use Rattle.td_eval.specs.laws.TreeNumbers.{HasNumbers}
use Rattle.td_eval.specs.model.TreeValues.{value_of}
use Rattle.td_eval.specs.laws.UnfailingValues.{GivesValues}
use Rattle.td_eval.specs.laws.ValueTypes.{IsOfType, KeepsType}
use Rattle.td_eval.specs.model.Worlds.{World, innermost_value, known_outcome, with_tuples}
use Rattle.td_plan.proofs.EqualValues.{where_after_look_up}
use Rattle.td_plan.proofs.LookUpParts.{entries_heading, entries_tuple, fixed_entries, fixed_names, fixed_plans, fixed_values_hold, part_found, part_value}
use Rattle.td_plan.proofs.TotalConditions.{unfailing_conditions_are_total}
use Rattle.td_plan.specs.declared.rewriting.fixed.FixedValue.{FixedValue}
use Rattle.td_plan.specs.laws.EqualitiesOfValues.{IsTotalIn, where_value}
use Rattle.td_plan.specs.code.LookUps.{IsBase, MeansName}
use Rattle.td_plan.specs.code.Narrowing.{AreFixed, Narrows}
use Rattle.td_plan.specs.code.Plans as plans
use Rattle.td_plan.specs.code.Plans.{looked_up}
use Rattle.td_plan.specs.code.PlansOf.{AreInHand, outermost}
use Rattle.td_tree.specs.declared.cause.Cause.TheVariants as causes
use Rattle.td_tree.specs.model.Outcomes.{Outcome, Valued, with_value}
use Rattle.td_tree.specs.model.Trees as trees
use Rattle.td_tree.specs.model.Trees.{Tree}
use Rattle.td_tree.specs.model.WrittenTrees.{IsWritten}
use Rattle.td_types.proofs.OutcomeLaws.{value_of_test, value_of_with, valued_is}
use Rattle.td_types.specs.model.Headings.{projection}
use Rattle.td_types.specs.code.TypeCode.{unpack_pack}
use Rattle.td_types.specs.model.TypeLists.{DeclaredType}
use Rattle.td_types.specs.model.Types as types
use Rattle.td_types.specs.model.Types.{Heading, IsHeading, Type', attribute_names, pack, unpack}
use Rattle.td_value.proofs.Packed.{pack_unpack_rows}
use Rattle.td_value.specs.model.Agreement.{agree_on}
use Rattle.td_value.specs.model.Values.{Relation, Tuple, Val, relation_value, unpack_rows, relation_view}
use Rattle.td_value.specs.model.Values as values

-- ---- the value of a base relvar

-- a relation of the heading, whose tuples' values are of their types
pub record IsTypedOf (ds : List DeclaredType) (h : Heading) (o : Outcome Val) (r : Relation) : Type 0 where
  pub is_value : o ≡ of_relation r
  pub headed : r.heading ≡ h
  pub typed : IsOfType ds (relation_value r) (types.relation (pack r.heading))

pub relation_of_value : (ds : List DeclaredType) (h : Heading) (v : Val) → IsOfType ds v (types.relation (pack h)) → (r : Relation) × IsTypedOf ds h (Valued v) r
relation_of_value ds h v p =
    let rows = rows_of ds (pack h) v p.1 in
    let r = relation_view (unpack (pack h)) (unpack_rows rows.0) in
    let typed = parts_typed ds (pack h) rows.0 (subst (λ x. IsOfType ds x (types.relation (pack h))) rows.1 p) in
    (r, record { is_value = ap Valued rows.1 ∙ same rows.0; headed = unpack_pack h; typed = typed })
  where
    same : (rs : _) → Valued (values.relation (pack h) rs) ≡ of_relation (relation_view (unpack (pack h)) (unpack_rows rs))
    same rs = ap Valued (λ i. values.relation (pack (sym (unpack_pack h) i)) (sym (pack_unpack_rows rs) i))

-- the type of what is asked for, where no attribute has the name
abbrev type_or : Scope → List ℕ → Option Type' → Outcome Type'
type_or scope n o =
    elim o as (λ _. Outcome Type') [
      | Some t ↦ Valued t
      | None ↦ with_value (known_or causes.NameUnknown (known_relvar scope n)) (λ r. Valued (types.relation (pack r.heading)))
    ]

known_type : (scope : Scope) (n : List ℕ) (r : KnownRelvar) → innermost n scope.entered ≡ None → known_relvar scope n ≡ Some r
    → name_type scope n ≡ Valued (types.relation (pack r.heading))
known_type scope n r shown known =
    ap (type_or scope n) shown ∙ ap (λ o. with_value (known_or causes.NameUnknown o) (λ r. Valued (types.relation (pack r.heading)))) known

none_before : (f : Val → Type') (o : Option Val) → option_map f o ≡ None → o ≡ None
none_before f None e = refl
none_before f (Some v) e = absurd (cc)

abbrev name_or : World → List ℕ → Option Val → Outcome Val
name_or w n o = elim o as (λ _. Outcome Val) [ Some v ↦ Valued v | None ↦ known_outcome (w.relvar n) ]

-- where the name of a base relvar is asked for
record IsFound (scope : Scope) (w : World) (s : List Tuple) (n : List ℕ) (d : Tree) (h : Heading) (r : Relation) : Type 0 where
  known : known_outcome (w.relvar n) ≡ of_relation r
  asked : value_of w s d ≡ of_relation r
  headed : r.heading ≡ h
  typed : IsOfType scope.types (relation_value r) (types.relation (pack r.heading))

base_found : (scope : Scope) (n : List ℕ) (d : Tree) (h : Heading) → IsBase scope n → MeansName n d
    → type_of scope d ≡ Valued (types.relation (pack h)) → (w : World) (s : List Tuple) → GivesValues w (outermost scope) → AreInHand scope s
    → (r : Relation) × IsFound scope w s n d h r
base_found scope n d h base named static w s k hand =
    let r = base.known.0 in
    let given = k.relvars n r base.known.1 base.known.2 in
    let keeps = k.keeps.relvars n r base.known.1 in
    let one : Some keeps.0 ≡ Some (Valued given.0) = sym keeps.1 ∙ given.1 in
    let one_outcome : keeps.0 ≡ Valued given.0 = cc in
    let of_heading : types.relation (pack r.heading) ≡ types.relation (pack h) =
    valued_is (types.relation (pack r.heading)) (types.relation (pack h)) (sym (known_type scope n r base.shown base.known.1) ∙ sym (named.typed scope) ∙ static) in
    let value : IsOfType scope.types given.0 (types.relation (pack h)) =
    subst (IsOfType scope.types given.0) of_heading (subst (KeepsType scope.types (Valued (types.relation (pack r.heading)))) one_outcome keeps.2) in
    let found = relation_of_value scope.types h given.0 value in
    let known = ap known_outcome given.1 ∙ found.1.is_value in
    let hidden : innermost_value n s ≡ None =
    none_before values.type_of (innermost_value n s) (sym (innermost_typed n s) ∙ ap (innermost n) hand.1 ∙ base.shown) in (
      found.0,
      record {
        known = known;
        asked = named.value w s ∙ ap (name_or w n) hidden ∙ known;
        headed = found.1.headed;
        typed = found.1.typed;
      },
    )

-- ---- the condition

-- what WHERE asks is a truth value
condition_type : (scope : Scope) (d c : Tree) (h : Heading) (t : Type') → type_of scope d ≡ Valued (types.relation (pack h))
    → type_of scope (trees.restriction d c) ≡ Valued t → type_of (entered_with h scope) c ≡ Valued types.boolean
condition_type scope d c h t static is =
    let into =
    subst (λ o. with_value o (λ q. over_relation q (λ i. with_value (type_of (entered_with i scope) c) (restriction_type q))) ≡ Valued t) static is in
    let z = value_of_with (type_of (entered_with (unpack (pack h)) scope) c) (restriction_type (types.relation (pack h))) t into in
    let test = value_of_test (same_type z.0 types.boolean) (types.relation (pack h)) t causes.TypeMismatch z.2 in
    subst (λ i. type_of (entered_with i scope) c ≡ Valued types.boolean) (unpack_pack h) (z.1 ∙ ap Valued (type_is z.0 types.boolean test.0))

-- it has one in each tuple where it cannot fail
pub answers : (scope : Scope) (c : Tree) (h : Heading) (w : World) (s : List Tuple) → GivesValues w (outermost scope) → AreInHand scope s
    → IsWritten c → HasNumbers c → IsTrue (cannot_fail (entered_with h scope) c) → type_of (entered_with h scope) c ≡ Valued types.boolean
    → (r : Relation) → r.heading ≡ h → IsOfType scope.types (relation_value r) (types.relation (pack r.heading))
    → IsTotalIn (λ t. value_of w (t ∷ s) c) r
answers scope c h w s k hand written numbers never is r headed typed =
    let here : with_tuples (outermost scope) s ≡ scope =
    λ i. record { types = scope.types; relvars = scope.relvars; constraints = scope.constraints; entered = hand.1 i } in
    let there : entered_with r.heading (with_tuples (outermost scope) s) ≡ entered_with h scope = λ i. entered_with (headed i) (here i) in
    unfailing_conditions_are_total w (outermost scope) s r c k hand.0 typed written numbers
    (subst (λ z. type_of z c ≡ Valued types.boolean) (sym there) is) (subst (λ z. cannot_fail z c ≡ true) (sym there) never)

-- ---- the look-up

pub look_up_narrows : (scope : Scope) (n : List ℕ) (key : List (List ℕ)) (part : List FixedValue) (d c : Tree) (h : Heading) → IsBase scope n → MeansName n d
    → type_of scope d ≡ Valued (types.relation (pack h)) → HasNumbers c → IsTrue (cannot_fail (entered_with h scope) c)
    → (IsWritten c → AreFixed scope h c part) → fixed_names part ≡ attribute_names (projection key h)
    → Narrows scope (plans.look_up n key (plans.select (plans.tuple (fixed_names part)) (fixed_plans part))) d c h
look_up_narrows scope n key part d c h base named static numbers never fixed names = λ written t is w s slots k hand f.
    let ds = scope.types in
    let asked = λ (u : Tuple). value_of w (u ∷ s) c in
    let condition : IsWritten c = (written.0.1, written.1.1) in
    let found = base_found scope n d h base named static w s k hand in
    let r = found.0 in
    let there = found.1 in
    let given = part_found scope h c w s slots k hand f part (fixed condition) in
    let es = given.0 in
    let p : IsHeading (pack h) = subst (λ g. IsHeading (pack g)) there.headed there.typed.0.2 in
    let entries = fixed_entries scope h c w s slots k hand f p es given.1.fixed in
    let tuple_names = given.1.names ∙ names in
    let total = answers scope c h w s k hand condition numbers never (condition_type scope d c h t static is) r there.headed there.typed in
    let agrees = typed_restriction ds (agree_on key es) r (typed_from_value ds r there.typed) in
    let value =
    ap (λ o. with_value o (looked_up key (known_outcome (w.relvar n)))) (part_value scope h c w s slots k hand f key part es p given.1 names)
    ∙ tuple_unpacked es (λ u. with_value (known_outcome (w.relvar n)) (λ v. on_relation v (λ q. of_relation (agreeing key u q))))
    ∙ ap (λ o. with_value o (λ v. on_relation v (λ q. of_relation (agreeing key es q)))) there.known
    ∙ relation_unpacked r (λ q. of_relation (agreeing key es q)) in
    record {
      kept =
          subst (KeepsType ds (Valued (types.relation (pack h)))) (sym value)
          (subst (λ (g : Heading). IsOfType ds (relation_value (agreeing key es r)) (types.relation (pack g))) there.headed
          (value_from_typed ds (agreeing key es r) agrees));
      same =
          ap (where_value asked) value
          ∙ sym (where_after_look_up key es asked r (there.typed.0, total)
          (entries_tuple h key p es entries tuple_names, entries_heading h key p es entries tuple_names ∙ ap (projection key) (sym there.headed))
          (λ u m e.
          let at = rows_typed ds r there.typed u m in
          fixed_values_hold scope h c w s slots k hand f u at.0 (at.1 ∙ there.headed) e es given.1.fixed))
          ∙ ap (where_value asked) (sym there.asked);
    }
