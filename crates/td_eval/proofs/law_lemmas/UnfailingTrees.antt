-- The value of an expression that has a type and cannot fail: there is one.
use Rattle.std.proofs.Common.{◌≡◌, ◌∙◌, ◌++◌, ℕ, Bool, true, false, not, List, [], ◌∷◌, Option, Some, None, map, option_map, ap, append-nil, arith, refl, subst, sym, zero, suc}
use Rattle.std.specs.List.{AllByRecursion}
use Rattle.std.specs.Prelude.{◌^◌, if◌then◌else◌, is_some, nat_lt}
use Rattle.std.proofs.lemmas.Bool.Decides.{nat_tests}
use Rattle.td_algebra.proofs.Members.{first_true, second_true}
use Rattle.td_check.specs.laws.CannotFail.{all_cannot_fail, cannot_fail, is_no_virtual, items_cannot_fail, measure_cannot_fail, name_cannot_fail, none_fails_where_bound, operator_cannot_fail, parts_cannot_fail, prefix_cannot_fail, selector_cannot_fail}
use Rattle.td_check.specs.declared.scope.Kind.{Kind}
use Rattle.td_check.specs.declared.scope.Kind.TheVariants as kinds
use Rattle.td_check.specs.model.Mentions.{behind_item, in_tuples}
use Rattle.td_check.specs.model.OperatorTypes.{are_types_of, choice_type, comparison_type, component_type, extension_type, extracted_type, headed_type, known_or, listed_type, measure_type, misfit, mismatch, named_part, operator_type, over_relation, per_heading, postfix_type, prefix_type, restriction_type, selector_type, setting_type, summary_type, tuple_type}
use Rattle.td_check.specs.model.Scopes.{KnownRelvar, Scope, bound_to, entered_with, innermost, known_relvar}
use Rattle.td_check.specs.laws.StaticLaws.{HasMore}
use Rattle.td_check.specs.model.StaticTypes.{items_of, name_type, named_types, both_types, type_of, type_where_bound, types_of, with_items}
use Rattle.td_check.proofs.StaticLaws.{more_changes_no_parts}
use Rattle.td_eval.specs.model.OperatorValues.{comparison_value, component_value, extended_by_settings, extended_value, extracted_value, headed_value, listed_value, literal_value, measure_value, on_relation, on_truth, operator_value, postfix_value, prefix_value, restricted_value, signed_number, tuple_from}
use Rattle.td_eval.specs.model.TreeValues.{argument_values, entry_values, value_of, value_where_bound, values_in_tuples}
use Rattle.td_eval.specs.model.AggregateValues.{summary_value}
use Rattle.td_eval.specs.laws.ValueTypes.{IsOfType, IsTypedTuple, KeepsType}
use Rattle.td_eval.specs.model.Worlds.{World, innermost_value, known_outcome, name_value, selector_outcome, with_tuples}
use Rattle.td_eval.proofs.law_lemmas.TypedArguments.{arguments_typed, known_is}
use Rattle.td_eval.proofs.code_lemmas.TypedRows.{one_typed, rows_typed}
use Rattle.td_value.proofs.KnownValues.{has_its_type}
use Rattle.td_eval.proofs.code_lemmas.TypedTrees.{innermost_typed, keeps, typed_behind}
use Rattle.td_eval.specs.laws.TreeNumbers.{HasNumbers, HaveNumbers, IsInRangeLiteral, PartsHaveNumbers}
use Rattle.td_eval.specs.laws.UnfailingValues.{GivesValues, UnfailingExpressionsHaveValues}
use Rattle.td_eval.proofs.law_lemmas.StaticOperators.{comparison_static, component_static, extracted_static, headed_static, listed_static, measure_static, operator_static, postfix_static, prefix_static, tuple_from_static}
use Rattle.td_eval.proofs.law_lemmas.StaticOutcomes.{IsStatic, both_static, has_value, truth_static, with_static}
use Rattle.td_eval.proofs.law_lemmas.StaticRows.{AreStaticIn, extension_static, in_its_tuples, kept_static, over_its_heading, restricted_static, rows_static, setting_static, summary_static}
use Rattle.td_tree.specs.declared.cause.Cause.TheVariants as causes
use Rattle.td_tree.specs.model.Outcomes.{Outcome, Valued, Refused, value_if, with_value}
use Rattle.td_tree.specs.model.Trees.{AttributeTrees, Literal, number, text, truth, table_dee, table_dum, Tree, literal, name, parentheses, prefix, extract, restriction, binary, compare, postfix, select, component, measure, aggregate, relation, headed_relation, tuple, extend, extend_setting, summarize_per, summarize_by, choice, binding, Trees, none, more, NamedTrees, none_named, more_named, Summaries, no_summaries, counted, summed, project}
use Rattle.td_tree.specs.model.WrittenTrees.{GiveNames, GivesNames, HasTexts, HaveTexts, PartsGiveNames, PartsHaveTexts}
use Rattle.td_types.specs.model.Headings.{has_name, made_heading}
use Rattle.td_types.specs.model.TypeLists.{DeclaredType, attributes_meant, declared_at, heading_meant}
use Rattle.td_types.specs.model.Types.{Type', Attribute, Heading, pack}
use Rattle.td_types.specs.model.Types as types
use Rattle.td_types.proofs.Meanings.{attributes_later}
use Rattle.td_types.proofs.OutcomeLaws.{value_of_test, value_of_with, values_of_both}
use Rattle.td_value.specs.model.Values.{Val, Relation, Tuple, heading_of, of_number, relation_value}
use Rattle.td_value.specs.model.Values as values

-- ---- nodes

-- a number that is in range has its value
number_static : (minus : Bool) (n : ℕ) → IsInRangeLiteral (number minus n) → IsStatic (of_number (signed_number minus n))
number_static false n h = let low : nat_lt n (2 ^ 63) ≡ true = grind (arith, nat_tests, h) in rw low tt
number_static true zero h = tt
number_static true (suc n) h = let low : nat_lt n (2 ^ 63) ≡ true = grind (arith, nat_tests, h) in rw low tt

literal_static : (l : Literal) → IsInRangeLiteral l → IsStatic (literal_value l)
literal_static (number minus magnitude) h = number_static minus magnitude h
literal_static (text content) h = tt
literal_static (truth b) h = tt
literal_static table_dee h = tt
literal_static table_dum h = tt

branch_static : (b : Bool) (o p : Outcome Val) → IsStatic o → IsStatic p → IsStatic (if b then o else p)
branch_static true o p k l = k
branch_static false o p k l = l

is_base : (r : KnownRelvar) → is_no_virtual (Some r) ≡ true → r.kind ≡ kinds.Base
is_base r e = by_kind r.kind refl
  where
    by_kind : (kind : Kind) → r.kind ≡ kind → r.kind ≡ kinds.Base
    by_kind kinds.Base is = is
    by_kind kinds.Virtual is = let clash : false ≡ true = rw is at e in absurd (cc)

none_of : {A : Type 0} (o : Option A) → not (is_some o) ≡ true → o ≡ None
none_of None e = refl
none_of (Some x) e = absurd (cc)

no_items : (items : Summaries) → items_cannot_fail items ≡ true → items ≡ no_summaries
no_items no_summaries e = refl
no_items (counted n rest) e = absurd (cc)
no_items (summed op value n rest) e = absurd (cc)

-- ---- trees

module _ (w : World) (scope : Scope) (k : GivesValues w scope) where
  abbrev ds : List DeclaredType
  ds = scope.types

  abbrev AreTyped : List Tuple → Type 0
  AreTyped s = AllByRecursion (IsTypedTuple ds) s

  -- the world knows more types where a relation's tuples are in hand too
  more_there : (s : List Tuple) (h : Heading) → HasMore (entered_with h (with_tuples scope s)) (entered_with h (with_tuples w.scope s))
  more_there s h = record { types = k.keeps.types; relvars = ([], k.keeps.known ∙ sym (append-nil scope.relvars)); entered = refl }

  -- a name of an attribute or of a base relvar
  name_static : (n : List ℕ) (s : List Tuple) (t : Type') → name_type (with_tuples scope s) n ≡ Valued t → name_cannot_fail (with_tuples scope s) n ≡ true
      → IsStatic (name_value w s n)
  name_static n s t is never = by_value (innermost_value n s) refl
    where
      by_relvar : (o : Option KnownRelvar) → known_relvar scope n ≡ o
          → with_value (known_or causes.NameUnknown o) (λ r. Valued (types.relation (pack r.heading))) ≡ Valued t → is_no_virtual o ≡ true
          → IsStatic (known_outcome (w.relvar n))
      by_relvar None e is never = absurd (cc)
      by_relvar (Some r) e is never = let v = k.relvars n r e (is_base r never) in rw v.1 tt

      by_value : (o : Option Val) → innermost_value n s ≡ o
          → IsStatic (elim o as (λ _. Outcome Val) [ Some v ↦ Valued v | None ↦ known_outcome (w.relvar n) ])
      by_value (Some v) e = tt
      by_value None e =
          let out : innermost n (map heading_of s) ≡ None = innermost_typed n s ∙ ap (option_map values.type_of) e in
          by_relvar (known_relvar scope n) refl (rw (name_type, out) at is) (rw out at never)

  -- the selector of a type that has no constraint
  select_static : (n : List ℕ) (es : Trees) (s : List Tuple) (t : Type') → AreTyped s → GiveNames es → HaveTexts es
      → type_of (with_tuples scope s) (select n es) ≡ Valued t → selector_cannot_fail ds n ≡ true → IsStatic (argument_values w s es)
      → IsStatic (value_of w s (select n es))
  select_static n es s t h names texts is never static = by_values (argument_values w s es) refl static
    where
      kinds_are : (ts : List Type') × (types_of (with_tuples scope s) es ≡ Valued ts) × (selector_type ds n ts ≡ Valued t)
      kinds_are = value_of_with (types_of (with_tuples scope s) es) (selector_type ds n) t is

      declared : (d : DeclaredType) × (known_or causes.NameUnknown (declared_at n ds) ≡ Valued d)
          × (value_if (are_types_of kinds_are.0 d.components) (types.user n) causes.TypeMismatch ≡ Valued t)
      declared =
          value_of_with (known_or causes.NameUnknown (declared_at n ds))
          (λ d. value_if (are_types_of kinds_are.0 d.components) (types.user n) causes.TypeMismatch) t kinds_are.2

      found : declared_at n ds ≡ Some declared.0
      found = known_is causes.NameUnknown (declared_at n ds) declared.0 declared.1

      by_values : (o : Outcome (List Val)) → argument_values w s es ≡ o → IsStatic o → IsStatic (with_value o (selector_outcome w n))
      by_values (Refused cs) e static = static
      by_values (Valued vs) e static =
          let fit = (value_of_test (are_types_of kinds_are.0 declared.0.components) (types.user n) t causes.TypeMismatch declared.2).0 in
          let free = none_of declared.0.constraint (rw found at never) in
          let v = k.selectors n declared.0 vs found free
          (arguments_typed w scope k.keeps s h es kinds_are.0 vs declared.0.components names texts kinds_are.1 e fit) in
          rw v.1 tt

  -- a heading that is meant here is meant in the world
  meant_static : (heading : AttributeTrees) (g : Heading) → heading_meant ds heading ≡ Valued g → IsStatic (heading_meant w.scope.types heading)
  meant_static heading g is =
      let m = value_of_with (attributes_meant ds heading) made_heading g is in
      let later : heading_meant (ds ++ k.keeps.types.0) heading ≡ Valued g =
      ap (λ o. with_value o made_heading) (attributes_later ds k.keeps.types.0 heading m.0 m.1) ∙ m.2 in
      subst (λ known. IsStatic (heading_meant known heading)) (sym k.keeps.types.1) (subst (λ (o : Outcome Heading). IsStatic o) (sym later) tt)

  -- what attributes that are added or set give, where the operand has a value and so has each of their expressions in its tuples
  over_tuples_static : (operand : Tree) (parts : NamedTrees) (s : List Tuple) (t : Type') (rule : Heading → List Attribute → Outcome Type')
      (given : Outcome (List Attribute) → List (Tuple → Outcome Val) → Relation → Outcome Val)
      → KeepsType ds (type_of (with_tuples scope s) operand) (value_of w s operand)
      → with_value (type_of (with_tuples scope s) operand) (λ u. over_relation u (λ g. with_value (named_types (entered_with g (with_tuples scope s)) parts) (rule g))) ≡ Valued t
      → parts_cannot_fail (in_tuples (with_tuples scope s) (type_of (with_tuples scope s) operand)) parts ≡ true
      → ((u : Type') → type_of (with_tuples scope s) operand ≡ Valued u → IsStatic (value_of w s operand))
      → ((r : Relation) (attributes : List Attribute) → IsOfType ds (relation_value r) (types.relation (pack r.heading))
      → named_types (entered_with r.heading (with_tuples scope s)) parts ≡ Valued attributes
      → parts_cannot_fail (entered_with r.heading (with_tuples scope s)) parts ≡ true → IsStatic (given (Valued attributes) (values_in_tuples w s parts) r))
      → IsStatic (with_value (value_of w s operand)
      (λ v. on_relation v (λ r. given (named_types (entered_with r.heading (with_tuples w.scope s)) parts) (values_in_tuples w s parts) r)))
  over_tuples_static operand parts s t rule given kept is never first each =
      let sc = with_tuples scope s in
      let y = value_of_with (type_of sc operand) (λ u. over_relation u (λ g. with_value (named_types (entered_with g sc) parts) (rule g))) t is in
      kept_static ds (type_of sc operand) (value_of w s operand) y.0
      (λ v. on_relation v (λ r. given (named_types (entered_with r.heading (with_tuples w.scope s)) parts) (values_in_tuples w s parts) r))
      kept y.1 (first y.0 y.1)
      (λ v q. rows_static ds v y.0 (λ r. given (named_types (entered_with r.heading (with_tuples w.scope s)) parts) (values_in_tuples w s parts) r) q
      (λ r f p.
      let z = value_of_with (named_types (entered_with r.heading sc) parts) (rule r.heading) t
      (sym (over_its_heading y.0 r.heading (λ g. with_value (named_types (entered_with g sc) parts) (rule g)) f) ∙ y.2) in
      let there = more_changes_no_parts (entered_with r.heading sc) (entered_with r.heading (with_tuples w.scope s)) parts z.0 (more_there s r.heading) z.1 in
      let free = subst (λ there. parts_cannot_fail there parts ≡ true) (in_its_tuples sc (type_of sc operand) y.0 r.heading y.1 f) never in
      subst (λ o. IsStatic (given o (values_in_tuples w s parts) r)) (sym there) (each r z.0 p z.1 free)))

  mutual
    tree_static : (e : Tree) (s : List Tuple) (t : Type') → AreTyped s → GivesNames e → HasTexts e → HasNumbers e
        → type_of (with_tuples scope s) e ≡ Valued t → cannot_fail (with_tuples scope s) e ≡ true → IsStatic (value_of w s e)
    tree_static (literal l) s t h n x m is never = literal_static l m
    tree_static (name a) s t h n x m is never = name_static a s t is never
    tree_static (parentheses inner) s t h n x m is never = tree_static inner s t h n x m is never
    tree_static (prefix op operand) s t h n x m is never =
        let y = value_of_with (type_of (with_tuples scope s) operand) (prefix_type op) t is in
        with_static (value_of w s operand) (prefix_value op)
        (tree_static operand s y.0 h n x m y.1 (second_true (prefix_cannot_fail op) _ never))
        (λ v. prefix_static op v (first_true (prefix_cannot_fail op) _ never))
    tree_static (extract a operand) s t h n x m is never =
        let y = value_of_with (type_of (with_tuples scope s) operand) (extracted_type a) t is in
        with_static (value_of w s operand) (extracted_value a) (tree_static operand s y.0 h n x m y.1 never) (λ v. extracted_static a v)
    tree_static (restriction operand condition) s t h n x m is never =
        let sc = with_tuples scope s in
        let y = value_of_with (type_of sc operand)
        (λ u. over_relation u (λ g. with_value (type_of (entered_with g sc) condition) (restriction_type u))) t is in
        kept_static ds (type_of sc operand) (value_of w s operand) y.0 (λ v. on_relation v (restricted_value (λ u. value_of w (u ∷ s) condition)))
        (keeps w scope k.keeps operand s h n.0 x.0) y.1
        (tree_static operand s y.0 h n.0 x.0 m.0 y.1 (first_true (cannot_fail sc operand) _ never))
        (λ v q. rows_static ds v y.0 (restricted_value (λ u. value_of w (u ∷ s) condition)) q
        (λ r f p. restricted_static (λ u. value_of w (u ∷ s) condition) r
        (λ u c.
        let at = rows_typed ds r p u c in
        let z = value_of_with (type_of (entered_with r.heading sc) condition) (restriction_type y.0) t
        (sym (over_its_heading y.0 r.heading (λ g. with_value (type_of (entered_with g sc) condition) (restriction_type y.0)) f) ∙ y.2) in
        let free = subst (λ there. cannot_fail there condition ≡ true) (in_its_tuples sc (type_of sc operand) y.0 r.heading y.1 f)
        (second_true (cannot_fail sc operand) _ never) in
        tree_static condition (u ∷ s) z.0 (at.0, h) n.1 x.1 m.1
        (subst (λ g. type_of (entered_with g sc) condition ≡ Valued z.0) (sym at.1) z.1)
        (subst (λ g. cannot_fail (entered_with g sc) condition ≡ true) (sym at.1) free))))
    tree_static (binary left op right) s t h n x m is never =
        let sc = with_tuples scope s in
        let y = values_of_both (type_of sc left) (type_of sc right) (operator_type op) t is in
        let free = second_true (operator_cannot_fail op) _ never in
        both_static (value_of w s left) (value_of w s right) (operator_value op)
        (tree_static left s y.0 h n.0 x.0 m.0 y.2 (first_true (cannot_fail sc left) _ free))
        (tree_static right s y.1 h n.1 x.1 m.1 y.3 (second_true (cannot_fail sc left) _ free))
        (λ u v. operator_static op u v (first_true (operator_cannot_fail op) _ never))
    tree_static (compare left op right) s t h n x m is never =
        let sc = with_tuples scope s in
        let y = values_of_both (type_of sc left) (type_of sc right) (comparison_type op) t is in
        both_static (value_of w s left) (value_of w s right) (comparison_value op)
        (tree_static left s y.0 h n.0 x.0 m.0 y.2 (first_true (cannot_fail sc left) _ never))
        (tree_static right s y.1 h n.1 x.1 m.1 y.3 (second_true (cannot_fail sc left) _ never))
        (λ u v. comparison_static op u v)
    tree_static (postfix operand op) s t h n x m is never =
        let y = value_of_with (type_of (with_tuples scope s) operand) (postfix_type op) t is in
        with_static (value_of w s operand) (postfix_value op) (tree_static operand s y.0 h n.0 x m y.1 never) (λ v. postfix_static op v)
    tree_static (select a arguments) s t h n x m is never =
        let y = value_of_with (types_of (with_tuples scope s) arguments) (selector_type ds a) t is in
        select_static a arguments s t h n x is (first_true (selector_cannot_fail ds a) _ never)
        (arguments_static arguments s y.0 h n x m y.1 (second_true (selector_cannot_fail ds a) _ never))
    tree_static (component rest operand) s t h n x m is never =
        let y = value_of_with (type_of (with_tuples scope s) operand) (component_type ds rest) t is in
        with_static (value_of w s operand) (component_value w.scope.types rest) (tree_static operand s y.0 h n x m y.1 never)
        (λ v. component_static w.scope.types rest v)
    tree_static (measure op operand) s t h n x m is never =
        let y = value_of_with (type_of (with_tuples scope s) operand) (measure_type op) t is in
        with_static (value_of w s operand) (measure_value op)
        (tree_static operand s y.0 h n x m y.1 (second_true (measure_cannot_fail op) _ never))
        (λ v. measure_static op v (first_true (measure_cannot_fail op) _ never))
    tree_static (aggregate op operand value) s t h n x m is never = absurd (cc)
    tree_static (relation elements) s t h n x m is never =
        let y = value_of_with (types_of (with_tuples scope s) elements) listed_type t is in
        with_static (argument_values w s elements) listed_value (arguments_static elements s y.0 h n x m y.1 never) (λ vs. listed_static vs)
    tree_static (headed_relation heading elements) s t h n x m is never =
        let y = values_of_both (heading_meant ds heading) (types_of (with_tuples scope s) elements) headed_type t is in
        both_static (heading_meant w.scope.types heading) (argument_values w s elements) headed_value (meant_static heading y.0 y.2)
        (arguments_static elements s y.1 h n.1 x m y.3 never) (λ g vs. headed_static g vs)
    tree_static (tuple parts) s t h n x m is never =
        let y = value_of_with (named_types (with_tuples scope s) parts) tuple_type t is in
        with_static (entry_values w s parts) tuple_from (entries_static parts s y.0 h n x m y.1 never) (λ es. tuple_from_static es)
    tree_static (extend operand parts) s t h n x m is never =
        over_tuples_static operand parts s t extension_type extended_value (keeps w scope k.keeps operand s h n.0 x.0) is
        (second_true (cannot_fail (with_tuples scope s) operand) _ never)
        (λ u e. tree_static operand s u h n.0 x.0 m.0 e (first_true (cannot_fail (with_tuples scope s) operand) _ never))
        (λ r attributes p e free. extension_static attributes (values_in_tuples w s parts) r (parts_static parts s r attributes h n.1 x.1 m.1 p e free))
    tree_static (extend_setting operand settings) s t h n x m is never =
        over_tuples_static operand settings s t setting_type extended_by_settings (keeps w scope k.keeps operand s h n.0 x.0) is
        (second_true (cannot_fail (with_tuples scope s) operand) _ never)
        (λ u e. tree_static operand s u h n.0 x.0 m.0 e (first_true (cannot_fail (with_tuples scope s) operand) _ never))
        (λ r attributes p e free. setting_static attributes (values_in_tuples w s settings) r (parts_static settings s r attributes h n.1 x.1 m.1 p e free))
    tree_static (summarize_per operand per no_summaries) s t h n x m is never =
        let sc = with_tuples scope s in
        let y = values_of_both (with_value (type_of sc operand) (λ u. with_items u (λ g. items_of (entered_with g sc) no_summaries))) (type_of sc per)
        (λ operand_items u. elim operand_items as (λ _. Outcome Type') [
          | Some both ↦ summary_type (per_heading both.0 u) both.1
          | None ↦ mismatch
        ]) t is in
        let z = value_of_with (type_of sc operand) (λ u. with_items u (λ g. items_of (entered_with g sc) no_summaries)) y.0 y.2 in
        both_static (value_of w s operand) (value_of w s per) (summary_value (λ g. Valued []) [])
        (tree_static operand s z.0 h n.0 x.0 m.0 z.1 (first_true (cannot_fail sc operand) _ never))
        (tree_static per s y.1 h n.1 x.1 m.1 y.3 (second_true (cannot_fail sc operand) _ never))
        (λ u v. summary_static u v)
    tree_static (summarize_per operand per (counted a rest)) s t h n x m is never = absurd (cc)
    tree_static (summarize_per operand per (summed op value a rest)) s t h n x m is never = absurd (cc)
    tree_static (summarize_by operand by no_summaries) s t h n x m is never =
        let sc = with_tuples scope s in
        let y = value_of_with (with_value (type_of sc operand) (λ u. with_items u (λ g. items_of (entered_with g sc) no_summaries)))
        (λ operand_items. elim operand_items as (λ _. Outcome Type') [
          | Some both ↦ summary_type (named_part by both.0) both.1
          | None ↦ mismatch
        ]) t is in
        let z = value_of_with (type_of sc operand) (λ u. with_items u (λ g. items_of (entered_with g sc) no_summaries)) y.0 y.1 in
        with_static (value_of w s operand) (λ v. with_value (postfix_value (project by) v) (summary_value (λ g. Valued []) [] v))
        (tree_static operand s z.0 h n.0 x.0 m.0 z.1 never)
        (λ v. with_static (postfix_value (project by) v) (summary_value (λ g. Valued []) [] v) (postfix_static (project by) v) (λ u. summary_static v u))
    tree_static (summarize_by operand by (counted a rest)) s t h n x m is never = absurd (cc)
    tree_static (summarize_by operand by (summed op value a rest)) s t h n x m is never = absurd (cc)
    tree_static (choice condition consequent alternative) s t h n x m is never =
        let sc = with_tuples scope s in
        let y = values_of_both (type_of sc condition) (both_types (type_of sc consequent) (type_of sc alternative)) (λ c both. choice_type c both.0 both.1) t is in
        let z = values_of_both (type_of sc consequent) (type_of sc alternative) (λ a b. Valued (a, b)) y.1 y.3 in
        let free = second_true (cannot_fail sc condition) _ never in
        with_static (value_of w s condition) (λ v. on_truth v (λ b. if b then value_of w s consequent else value_of w s alternative))
        (tree_static condition s y.0 h n.0 x.0 m.0 y.2 (first_true (cannot_fail sc condition) _ never))
        (λ v. truth_static v (λ b. if b then value_of w s consequent else value_of w s alternative)
        (λ b. branch_static b (value_of w s consequent) (value_of w s alternative)
        (tree_static consequent s z.0 h n.1 x.1 m.1 z.2 (first_true (cannot_fail sc consequent) _ free))
        (tree_static alternative s z.1 h n.2 x.2 m.2 z.3 (second_true (cannot_fail sc consequent) _ free))))
    tree_static (binding items result) s t h n x m is never =
        bound_static items [] s t (λ inner. type_of inner result) (λ inner. cannot_fail inner result) (λ inner. value_of w inner result) h n.0 x.0 m.0 is never
        (λ inner a e free. tree_static result inner t a n.1 x.1 m.1 e free)

    -- where none of WITH's items can fail, what stands where they are in scope has a value if it has one where typed tuples are
    bound_static : (items : NamedTrees) (before : List (List ℕ)) (s : List Tuple) (t : Type') (kind : Scope → Outcome Type') (free : Scope → Bool)
        (given : List Tuple → Outcome Val) → AreTyped s → PartsGiveNames items → PartsHaveTexts items → PartsHaveNumbers items
        → type_where_bound before (with_tuples scope s) items kind ≡ Valued t → none_fails_where_bound (with_tuples scope s) items free ≡ true
        → ((inner : List Tuple) → AreTyped inner → kind (with_tuples scope inner) ≡ Valued t → free (with_tuples scope inner) ≡ true → IsStatic (given inner))
        → IsStatic (value_where_bound w s items given)
    bound_static none_named before s t kind free given h n x m is never inside = inside s h is never
    bound_static (more_named a value rest) before s t kind free given h n x m is never inside =
        let sc = with_tuples scope s in
        let y = value_of_with (type_of sc value) (λ u. if has_name a before then misfit else type_where_bound (a ∷ before) (bound_to a u sc) rest kind) t is in
        let behind = typed_behind (has_name a before) (type_where_bound (a ∷ before) (bound_to a y.0 sc) rest kind) t y.2 in
        let others : none_fails_where_bound (bound_to a y.0 sc) rest free ≡ true =
        subst (λ o. none_fails_where_bound (behind_item a o sc) rest free ≡ true) y.1 (second_true (cannot_fail sc value) _ never) in
        kept_static ds (type_of sc value) (value_of w s value) y.0 (λ v. value_where_bound w (((a, v) ∷ []) ∷ s) rest given)
        (keeps w scope k.keeps value s h n.1 x.0) y.1
        (tree_static value s y.0 h n.1 x.0 m.0 y.1 (first_true (cannot_fail sc value) _ never))
        (λ v q.
        let own : y.0 ≡ values.type_of v = sym (has_its_type ds v y.0 q.1) in
        bound_static rest (a ∷ before) (((a, v) ∷ []) ∷ s) t kind free given (one_typed ds a v y.0 n.0 q, h) n.2 x.1 m.1
        (subst (λ u. type_where_bound (a ∷ before) (bound_to a u sc) rest kind ≡ Valued t) own behind)
        (subst (λ u. none_fails_where_bound (bound_to a u sc) rest free ≡ true) own others) inside)

    arguments_static : (es : Trees) (s : List Tuple) (ts : List Type') → AreTyped s → GiveNames es → HaveTexts es → HaveNumbers es
        → types_of (with_tuples scope s) es ≡ Valued ts → all_cannot_fail (with_tuples scope s) es ≡ true → IsStatic (argument_values w s es)
    arguments_static none s ts h n x m is never = tt
    arguments_static (more first rest) s ts h n x m is never =
        let sc = with_tuples scope s in
        let y = values_of_both (type_of sc first) (types_of sc rest) (λ u us. Valued (u ∷ us)) ts is in
        both_static (value_of w s first) (argument_values w s rest) (λ v vs. Valued (v ∷ vs))
        (tree_static first s y.0 h n.0 x.0 m.0 y.2 (first_true (cannot_fail sc first) _ never))
        (arguments_static rest s y.1 h n.1 x.1 m.1 y.3 (second_true (cannot_fail sc first) _ never))
        (λ v vs. tt)

    entries_static : (parts : NamedTrees) (s : List Tuple) (attributes : List Attribute) → AreTyped s → PartsGiveNames parts → PartsHaveTexts parts
        → PartsHaveNumbers parts → named_types (with_tuples scope s) parts ≡ Valued attributes → parts_cannot_fail (with_tuples scope s) parts ≡ true
        → IsStatic (entry_values w s parts)
    entries_static none_named s attributes h n x m is never = tt
    entries_static (more_named a value rest) s attributes h n x m is never =
        let sc = with_tuples scope s in
        let y = values_of_both (type_of sc value) (named_types sc rest) (λ u us. Valued ((a, u) ∷ us)) attributes is in
        both_static (value_of w s value) (entry_values w s rest) (λ v entries. Valued ((a, v) ∷ entries))
        (tree_static value s y.0 h n.1 x.0 m.0 y.2 (first_true (cannot_fail sc value) _ never))
        (entries_static rest s y.1 h n.2 x.1 m.1 y.3 (second_true (cannot_fail sc value) _ never))
        (λ v entries. tt)

    parts_static : (parts : NamedTrees) (s : List Tuple) (r : Relation) (attributes : List Attribute) → AreTyped s → PartsGiveNames parts
        → PartsHaveTexts parts → PartsHaveNumbers parts → IsOfType ds (relation_value r) (types.relation (pack r.heading))
        → named_types (entered_with r.heading (with_tuples scope s)) parts ≡ Valued attributes
        → parts_cannot_fail (entered_with r.heading (with_tuples scope s)) parts ≡ true → AreStaticIn r.body (values_in_tuples w s parts)
    parts_static none_named s r attributes h n x m p is never = tt
    parts_static (more_named a value rest) s r attributes h n x m p is never =
        let sc = with_tuples scope s in
        let y = values_of_both (type_of (entered_with r.heading sc) value) (named_types (entered_with r.heading sc) rest) (λ u us. Valued ((a, u) ∷ us)) attributes is in (
          (λ u c.
              let at = rows_typed ds r p u c in
              tree_static value (u ∷ s) y.0 (at.0, h) n.1 x.0 m.0
              (subst (λ g. type_of (entered_with g sc) value ≡ Valued y.0) (sym at.1) y.2)
              (subst (λ g. cannot_fail (entered_with g sc) value ≡ true) (sym at.1) (first_true (cannot_fail (entered_with r.heading sc) value) _ never))),
          parts_static rest s r y.1 h n.2 x.1 m.1 p y.3 (second_true (cannot_fail (entered_with r.heading sc) value) _ never),
        )

pub unfailing_expressions_have_values : UnfailingExpressionsHaveValues
unfailing_expressions_have_values w scope s e t k h p m is never =
    has_value scope.types t (value_of w s e)
    (subst (λ o. KeepsType scope.types o (value_of w s e)) is (keeps w scope k.keeps e s h p.0 p.1))
    (tree_static w scope k e s t h p.0 p.1 m is never)
