-- The value of an expression that has a type is of that type, or its causes are dynamic.
use Rattle.std.proofs.Common.{◌≡◌, ◌∙◌, ◌++◌, ℕ, Bool, true, false, Contains, List, [], ◌∷◌, Option, Some, None, map, option_map, ap, refl, subst, sym, append-nil}
use Rattle.std.specs.List.{AllByRecursion}
use Rattle.std.specs.Prelude.{⊤, if◌then◌else◌}
use Rattle.td_algebra.proofs.Entries.{type_at-heading_of}
use Rattle.td_algebra.proofs.Members.{first_true, second_true}
use Rattle.td_check.specs.model.OperatorTypes.{count_item, aggregate_item, aggregate_type, are_types_of, comparison_type, component_type, extension_type, extracted_type, headed_type, item_type, known_or, listed_type, measure_type, misfit, operator_type, over_relation, postfix_type, prefix_type, same_type, selector_type, setting_type, tuple_type, restriction_type}
use Rattle.td_check.specs.model.Scopes.{KnownRelvar, Scope, bound_to, entered_with, innermost, known_relvar}
use Rattle.td_check.specs.laws.StaticLaws.{HasMore, IsKnownHeading, IsScope}
use Rattle.td_check.specs.model.StaticTypes.{items_of, name_type, named_types, type_of, type_where_bound, types_of}
use Rattle.td_check.proofs.GivenLaws.{items_give}
use Rattle.td_check.proofs.KnownLaws.{known_closed, supplies}
use Rattle.td_check.proofs.OperatorLaws.{Gives, ItemFits}
use Rattle.td_check.proofs.StaticLaws.{more_changes_no_parts, types_are_known}
use Rattle.td_check.proofs.SummaryLaws.{Items}
use Rattle.td_tree.specs.declared.cause.Cause.TheVariants as causes
use Rattle.td_tree.specs.declared.operator.Operator.{Operator}
use Rattle.td_tree.specs.declared.operator.Operator.TheVariants as operators
use Rattle.td_tree.specs.model.Names.{IsName}
use Rattle.td_tree.specs.model.Outcomes.{Outcome, Valued, Refused, gathered, value_if, with_both, with_value}
use Rattle.td_tree.specs.model.Trees.{AttributeTrees, Tree, literal, name, parentheses, prefix, extract, restriction, binary, compare, postfix, select, component, measure, aggregate, relation, headed_relation, tuple, extend, extend_setting, summarize_per, summarize_by, choice, binding, Trees, none, more, NamedTrees, none_named, more_named, Summaries, no_summaries, counted, summed}
use Rattle.td_types.specs.model.Headings.{has_name, made_heading}
use Rattle.td_types.specs.model.TypeLists.{AreKnown, DeclaredType, IsKnown, attributes_meant, declared_at, heading_meant}
use Rattle.td_types.specs.model.Types.{Type', Attribute, Heading, IsHeading, IsType, pack, type_at}
use Rattle.td_types.specs.model.Types as types
use Rattle.td_types.proofs.Meanings.{attributes_later}
use Rattle.td_types.proofs.OutcomeLaws.{value_of_with, valued_is, values_of_both}
use Rattle.td_value.specs.model.KnownValues.{AreOfTypes}
use Rattle.td_value.specs.model.Values.{Val, AreValues, Relation, Tuple, heading_of, pack_fields, pack_parts, relation_value, value_at}
use Rattle.td_value.specs.model.Values as values
use Rattle.td_value.proofs.HeadingOf.{fields_type-heading}
use Rattle.td_value.proofs.KnownValues.{has_its_type, has_known_type}
use Rattle.td_value.proofs.Typed.{typed}
use Rattle.td_eval.specs.model.AggregateValues.{aggregated_value, asked_of, summary_attributes}
use Rattle.td_eval.specs.model.OperatorValues.{comparison_value, component_value, extended_by_settings, extended_value, extracted_value, headed_value, listed_value, measure_value, on_relation, operator_value, postfix_value, prefix_value, restricted_value, tuple_from}
use Rattle.td_eval.specs.model.TreeValues.{argument_values, entry_values, items_in_tuples, value_of, value_where_bound, values_in_tuples}
use Rattle.td_eval.specs.laws.ValueTypes.{IsOfType, IsTypedTuple, KeepsScope, KeepsType, ValuesKeepTypes}
use Rattle.td_eval.specs.model.Worlds.{World, innermost_value, known_outcome, name_value, selector_outcome, with_tuples}
use Rattle.td_eval.proofs.code_lemmas.KeepsGathered.{member_from_all}
use Rattle.td_eval.proofs.code_lemmas.KeepsAggregates.{aggregation_keeps}
use Rattle.td_eval.proofs.code_lemmas.KeepsExtension.{PartsKeep, extended_keeps, settings_keep}
use Rattle.td_eval.proofs.code_lemmas.KeepsOperators.{compose_keeps, disjoint_union_keeps, included_minus_keeps, intersect_keeps, join_keeps, matching_keeps, minus_keeps, not_matching_keeps, times_keeps, union_keeps}
use Rattle.td_eval.proofs.code_lemmas.KeepsPostfix.{postfix_keeps}
use Rattle.td_eval.proofs.code_lemmas.KeepsSummaries.{ItemsKeep, summarize_by_keeps, summarize_per_keeps}
use Rattle.td_eval.proofs.code_lemmas.SummaryParts.{attributes_of_items, more_changes_no_items}
use Rattle.td_eval.proofs.code_lemmas.TypedOperators.{add_keeps, and_keeps, choice_keeps, comparison_keeps, component_keeps, concatenate_keeps, divide_keeps, extracted_keeps, literal_keeps, measure_keeps, multiply_keeps, or_keeps, prefix_keeps, subtract_keeps}
use Rattle.td_eval.proofs.code_lemmas.TypedOutcomes.{KeepsAs, Of, as_typed, both_keep, keeps_both, made_keeps, test_keeps, typed_as, value_keeps}
use Rattle.td_eval.proofs.code_lemmas.TypedRows.{AreEntriesOf, AreOf, extend_keeps, headed_keeps, listed_keeps, one_typed, own_type, rows_typed, tuple_from_keeps, where_keeps}
use Rattle.td_eval.proofs.code_lemmas.TypedValues.{BothFound, found_in_tuple, type_is}
use Rattle.td_tree.specs.model.WrittenTrees.{GiveNames, GivesNames, HasTexts, HaveNames, HaveTexts, ItemsGiveNames, ItemsHaveTexts, PartsGiveNames, PartsHaveTexts}

-- ---- operators between two operands

operator_keeps : (ds : List DeclaredType) (op : Operator) (v w : Val) (s t : Type') → IsOfType ds v s → IsOfType ds w t
    → KeepsType ds (operator_type op s t) (operator_value op v w)
operator_keeps ds operators.Or v w s t h k = or_keeps ds v w s t h k
operator_keeps ds operators.And v w s t h k = and_keeps ds v w s t h k
operator_keeps ds operators.Union v w s t h k = union_keeps ds v w s t h k
operator_keeps ds operators.Intersect v w s t h k = intersect_keeps ds v w s t h k
operator_keeps ds operators.Minus v w s t h k = minus_keeps ds v w s t h k
operator_keeps ds operators.DisjointUnion v w s t h k = disjoint_union_keeps ds v w s t h k
operator_keeps ds operators.IncludedMinus v w s t h k = included_minus_keeps ds v w s t h k
operator_keeps ds operators.Join v w s t h k = join_keeps ds v w s t h k
operator_keeps ds operators.Times v w s t h k = times_keeps ds v w s t h k
operator_keeps ds operators.Compose v w s t h k = compose_keeps ds v w s t h k
operator_keeps ds operators.Matching v w s t h k = matching_keeps ds v w s t h k
operator_keeps ds operators.NotMatching v w s t h k = not_matching_keeps ds v w s t h k
operator_keeps ds operators.Add v w s t h k = add_keeps ds v w s t h k
operator_keeps ds operators.Subtract v w s t h k = subtract_keeps ds v w s t h k
operator_keeps ds operators.Multiply v w s t h k = multiply_keeps ds v w s t h k
operator_keeps ds operators.Divide v w s t h k = divide_keeps ds v w s t h k
operator_keeps ds operators.Concatenate v w s t h k = concatenate_keeps ds v w s t h k

-- ---- names of types, where more are declared

-- a heading that is meant here is meant there, and is one of known types
abbrev IsMeant : List DeclaredType → Heading → Heading → Type 0
IsMeant ds g h = (h ≡ g) × IsHeading (pack g) × AreKnown ds (pack g)

meant_more : (scope : Scope) → IsScope scope → (further : List DeclaredType) (heading : AttributeTrees) → HaveNames heading
    → KeepsAs (IsMeant scope.types) (heading_meant scope.types heading) (heading_meant (scope.types ++ further) heading)
meant_more scope is further heading names = by_outcome (heading_meant scope.types heading) refl
  where
    by_outcome : (o : Outcome Heading) → heading_meant scope.types heading ≡ o → KeepsAs (IsMeant scope.types) o (heading_meant (scope.types ++ further) heading)
    by_outcome (Valued h) e =
        let xs = value_of_with (attributes_meant scope.types heading) made_heading h e in
        let later : heading_meant (scope.types ++ further) heading ≡ Valued h =
        ap (λ o. with_value o made_heading) (attributes_later scope.types further heading xs.0 xs.1) ∙ xs.2 in
        let known = (supplies scope is).headings heading h names e in
        rw later (refl, known.0, known.1)
    by_outcome (Refused cs) e = tt

-- ---- values of several types

components_are : (ds : List DeclaredType) (ts : List Type') (vs : List Val) (cs : List Attribute) → AreOf ds ts vs → are_types_of ts cs ≡ true
    → AreValues (pack_parts vs) × AreOfTypes ds (pack_parts vs) cs
components_are ds [] [] [] k e = (tt, tt)
components_are ds [] [] (c ∷ cs) k e = absurd (cc)
components_are ds [] (v ∷ vs) cs k e = absurd k
components_are ds (t ∷ ts) [] cs k e = absurd k
components_are ds (t ∷ ts) (v ∷ vs) [] k e = absurd (cc)
components_are ds (t ∷ ts) (v ∷ vs) (c ∷ cs) k e =
    let rest = components_are ds ts vs cs k.1 (second_true (same_type t c.1) (are_types_of ts cs) e) in
    let same : t ≡ c.1 = type_is t c.1 (first_true (same_type t c.1) (are_types_of ts cs) e) in
    let first = subst (IsOfType ds v) same k.0 in
    ((first.0, rest.0), (first.1, rest.1))

-- ---- names

-- the innermost attribute of a name
innermost_found : (ds : List DeclaredType) (n : List ℕ) (s : List Tuple) → AllByRecursion (IsTypedTuple ds) s
    → BothFound ds (innermost n (map heading_of s)) (innermost_value n s)
innermost_found ds n [] h = tt
innermost_found ds n (t ∷ s) h = by_option (type_at n (heading_of t)) (value_at n t) (found_in_tuple ds n t h.0) (innermost_found ds n s h.1)
  where
    by_option : (a : Option Type') (b : Option Val) → BothFound ds a b → BothFound ds (innermost n (map heading_of s)) (innermost_value n s)
        → BothFound ds (elim a as (λ _. Option Type') [ Some u ↦ Some u | None ↦ innermost n (map heading_of s) ])
        (elim b as (λ _. Option Val) [ Some v ↦ Some v | None ↦ innermost_value n s ])
    by_option (Some u) (Some v) k rest = k
    by_option (Some u) None k rest = absurd k
    by_option None (Some v) k rest = absurd k
    by_option None None k rest = rest

-- it has the type of its value
pub innermost_typed : (n : List ℕ) (s : List Tuple) → innermost n (map heading_of s) ≡ option_map values.type_of (innermost_value n s)
innermost_typed n [] = refl
innermost_typed n (t ∷ s) = by_option (type_at n (heading_of t)) (value_at n t) (type_at-heading_of n t) (innermost_typed n s)
  where
    by_option : (a : Option Type') (b : Option Val) → a ≡ option_map values.type_of b
        → innermost n (map heading_of s) ≡ option_map values.type_of (innermost_value n s)
        → elim a as (λ _. Option Type') [ Some u ↦ Some u | None ↦ innermost n (map heading_of s) ]
        ≡ option_map values.type_of (elim b as (λ _. Option Val) [ Some v ↦ Some v | None ↦ innermost_value n s ])
    by_option a (Some v) e rest = rw e refl
    by_option a None e rest = rw e rest

else_keeps : (ds : List DeclaredType) (a : Option Type') (b : Option Val) (x : Outcome Type') (o : Outcome Val) → BothFound ds a b → KeepsType ds x o
    → KeepsType ds (elim a as (λ _. Outcome Type') [ Some t ↦ Valued t | None ↦ x ]) (elim b as (λ _. Outcome Val) [ Some v ↦ Valued v | None ↦ o ])
else_keeps ds (Some t) (Some v) x o k h = k
else_keeps ds (Some t) None x o k h = absurd k
else_keeps ds None (Some v) x o k h = absurd k
else_keeps ds None None x o k h = h

-- ---- parts of EXTEND

abbrev KeepParts : List DeclaredType → Relation → Outcome (List Attribute) → List (Tuple → Outcome Val) → Type 0
KeepParts ds r (Valued attributes) fs = PartsKeep ds r attributes fs
KeepParts ds r (Refused cs) fs = ⊤

one_more_part : (ds : List DeclaredType) (r : Relation) (n : List ℕ) (x : Outcome Type') (xs : Outcome (List Attribute)) (f : Tuple → Outcome Val)
    (fs : List (Tuple → Outcome Val)) → ((u : Tuple) → Contains r.body u → KeepsType ds x (f u)) → KeepParts ds r xs fs
    → KeepParts ds r (with_both x xs (λ t attributes. Valued ((n, t) ∷ attributes))) (f ∷ fs)
one_more_part ds r n (Valued t) (Valued attributes) f fs h k = (h, k)
one_more_part ds r n (Valued t) (Refused cs) f fs h k = tt
one_more_part ds r n (Refused bs) (Valued attributes) f fs h k = tt
one_more_part ds r n (Refused bs) (Refused cs) f fs h k = tt

-- ---- items of WITH

-- a name twice has no type
unless_misfit : (ds : List DeclaredType) (b : Bool) (x : Outcome Type') (o : Outcome Val) → KeepsType ds x o → KeepsType ds (if b then misfit else x) o
unless_misfit ds true x o k = tt
unless_misfit ds false x o k = k

-- where an item of WITH has a type, so has what stands behind it
pub typed_behind : (b : Bool) (x : Outcome Type') (t : Type') → (if b then misfit else x) ≡ Valued t → x ≡ Valued t
typed_behind true x t e = absurd (cc)
typed_behind false x t e = e

-- ---- trees

module _ (w : World) (scope : Scope) (k : KeepsScope w scope) where
  abbrev ds : List DeclaredType
  ds = scope.types

  abbrev AreTyped : List Tuple → Type 0
  AreTyped s = AllByRecursion (IsTypedTuple ds) s

  headings_known : (s : List Tuple) → AreTyped s → AllByRecursion (IsKnownHeading ds) (map heading_of s)
  headings_known [] h = tt
  headings_known (t ∷ s) h =
      let is = typed (values.tuple (pack_fields t)) h.0.0 in
      let known = has_known_type ds (values.tuple (pack_fields t)) (types.tuple (pack (heading_of t))) (pack (heading_of t), refl, h.0.1) in
      ((subst IsHeading (fields_type-heading t) is, known), headings_known s h.1)

  -- where a relation's tuples are in hand too
  entered_is : (s : List Tuple) (h : Heading) → AreTyped s → IsKnownHeading ds h → IsScope (entered_with h (with_tuples scope s))
  entered_is s h all known =
      record {
        declared = k.scope_is.declared;
        relvars = k.scope_is.relvars;
        entered = member_from_all (IsKnownHeading ds) (h ∷ map heading_of s) (known, headings_known s all);
      }

  -- the world knows more types there
  more_there : (s : List Tuple) (h : Heading) → HasMore (entered_with h (with_tuples scope s)) (entered_with h (with_tuples w.scope s))
  more_there s h = record { types = k.types; relvars = ([], k.known ∙ sym (append-nil scope.relvars)); entered = refl }

  relvar_keeps : (n : List ℕ) (o : Option KnownRelvar) → known_relvar scope n ≡ o
      → KeepsType ds (with_value (known_or causes.NameUnknown o) (λ r. Valued (types.relation (pack r.heading)))) (known_outcome (w.relvar n))
  relvar_keeps n (Some r) e = let x = k.relvars n r e in rw x.1 x.2
  relvar_keeps n None e = tt

  name_keeps : (s : List Tuple) (n : List ℕ) → AreTyped s → KeepsType ds (name_type (with_tuples scope s) n) (name_value w s n)
  name_keeps s n h =
      else_keeps ds (innermost n (map heading_of s)) (innermost_value n s)
      (with_value (known_or causes.NameUnknown (known_relvar scope n)) (λ r. Valued (types.relation (pack r.heading)))) (known_outcome (w.relvar n))
      (innermost_found ds n s h) (relvar_keeps n (known_relvar scope n) refl)

  select_keeps : (n : List ℕ) (ts : List Type') (vs : List Val) → AreOf ds ts vs → KeepsType ds (selector_type ds n ts) (selector_outcome w n vs)
  select_keeps n ts vs all = by_option (declared_at n ds) refl
    where
      by_option : (o : Option DeclaredType) → declared_at n ds ≡ o
          → KeepsType ds (with_value (known_or causes.NameUnknown o) (λ d. value_if (are_types_of ts d.components) (types.user n) causes.TypeMismatch)) (selector_outcome w n vs)
      by_option (Some d) e =
          let x = k.selectors n d e in
          test_keeps ds (are_types_of ts d.components) (types.user n) causes.TypeMismatch (selector_outcome w n vs)
          (λ fit. rw (KeepsType, x.1) (x.2 vs (components_are ds ts vs d.components all fit)))
      by_option None e = tt

  -- the attributes that EXTEND adds or sets, where their expressions have types
  parts_are_kept : (parts : NamedTrees) (s : List Tuple) (r : Relation) (attributes : List Attribute) → AreTyped s → PartsGiveNames parts
      → IsOfType ds (relation_value r) (types.relation (pack r.heading)) → named_types (entered_with r.heading (with_tuples scope s)) parts ≡ Valued attributes
      → KeepParts ds r (named_types (entered_with r.heading (with_tuples scope s)) parts) (values_in_tuples w s parts)
      → (named_types (entered_with r.heading (with_tuples w.scope s)) parts ≡ Valued attributes)
      × AllByRecursion (λ (a : Attribute). IsName a.0 × IsType a.1 × IsKnown ds a.1) attributes × PartsKeep ds r attributes (values_in_tuples w s parts)
  parts_are_kept parts s r attributes h n p e kept = (
    more_changes_no_parts (entered_with r.heading (with_tuples scope s)) (entered_with r.heading (with_tuples w.scope s)) parts attributes (more_there s r.heading) e,
    types_are_known.of_parts (entered_with r.heading (with_tuples scope s)) parts attributes (entered_is s r.heading h (p.0.2, p.1.1)) n e,
    subst (λ o. KeepParts ds r o (values_in_tuples w s parts)) e kept,
  )

  -- the new attributes of SUMMARIZE, where the items have types
  items_are_kept : (items : Summaries) (s : List Tuple) (r : Relation) (xs : Items) → AreTyped s → ItemsGiveNames items
      → IsOfType ds (relation_value r) (types.relation (pack r.heading)) → items_of (entered_with r.heading (with_tuples scope s)) items ≡ Valued xs
      → ItemsKeep ds r xs (items_in_tuples w s items)
      → (summary_attributes (entered_with r.heading (with_tuples w.scope s)) items ≡ gathered (map item_type xs))
      × AllByRecursion (ItemFits (known_closed ds)) xs × ItemsKeep ds r xs (items_in_tuples w s items)
  items_are_kept items s r xs h n p e kept =
      let here = entered_with r.heading (with_tuples scope s) in
      let there = entered_with r.heading (with_tuples w.scope s) in (
        attributes_of_items there items xs (more_changes_no_items here there items xs (more_there s r.heading) e),
        subst (Gives (AllByRecursion (ItemFits (known_closed ds)))) e
            (items_give (known_closed ds) items n here (supplies here (entered_is s r.heading h (p.0.2, p.1.1)))),
        kept,
      )

  mutual
    pub keeps : (e : Tree) (s : List Tuple) → AreTyped s → GivesNames e → HasTexts e
        → KeepsType ds (type_of (with_tuples scope s) e) (value_of w s e)
    keeps (literal l) s h n x = literal_keeps ds l x
    keeps (name m) s h n x = name_keeps s m h
    keeps (parentheses inner) s h n x = keeps inner s h n x
    keeps (prefix op operand) s h n x =
        value_keeps ds (type_of (with_tuples scope s) operand) (value_of w s operand) (prefix_type op) (prefix_value op)
        (keeps operand s h n x)
        (λ t v q. prefix_keeps ds op v t q)
    keeps (extract a operand) s h n x =
        value_keeps ds (type_of (with_tuples scope s) operand) (value_of w s operand) (extracted_type a) (extracted_value a)
        (keeps operand s h n x) (λ t v q. extracted_keeps ds a v t q)
    keeps (restriction operand condition) s h n x =
        value_keeps ds (type_of (with_tuples scope s) operand) (value_of w s operand)
        (λ t. over_relation t (λ g. with_value (type_of (entered_with g (with_tuples scope s)) condition) (restriction_type t)))
        (λ v. on_relation v (restricted_value (λ u. value_of w (u ∷ s) condition)))
        (keeps operand s h n.0 x.0)
        (λ t v q. where_keeps ds (λ g. type_of (entered_with g (with_tuples scope s)) condition) (λ u. value_of w (u ∷ s) condition) t v q
        (λ u p. keeps condition (u ∷ s) (p, h) n.1 x.1))
    keeps (binary left op right) s h n x =
        both_keep ds (type_of (with_tuples scope s) left) (type_of (with_tuples scope s) right) (value_of w s left) (value_of w s right)
        (operator_type op) (operator_value op)
        (keeps left s h n.0 x.0)
        (keeps right s h n.1 x.1)
        (λ t v u y q r. operator_keeps ds op v y t u q r)
    keeps (compare left op right) s h n x =
        both_keep ds (type_of (with_tuples scope s) left) (type_of (with_tuples scope s) right) (value_of w s left) (value_of w s right)
        (comparison_type op) (comparison_value op)
        (keeps left s h n.0 x.0)
        (keeps right s h n.1 x.1)
        (λ t v u y q r. comparison_keeps ds op v y t u q r)
    keeps (postfix operand op) s h n x =
        value_keeps ds (type_of (with_tuples scope s) operand) (value_of w s operand) (postfix_type op) (postfix_value op)
        (keeps operand s h n.0 x)
        (λ t v q. postfix_keeps ds op v t n.1 q)
    keeps (select ty arguments) s h n x =
        made_keeps ds (AreOf ds) (types_of (with_tuples scope s) arguments) (argument_values w s arguments) (selector_type ds ty) (selector_outcome w ty)
        (arguments_keep arguments s h n x) (λ ts vs q. select_keeps ty ts vs q)
    keeps (component rest operand) s h n x =
        value_keeps ds (type_of (with_tuples scope s) operand) (value_of w s operand) (component_type ds rest) (component_value w.scope.types rest)
        (keeps operand s h n x)
        (λ t v q. subst (λ known. KeepsType ds (component_type ds rest t) (component_value known rest v)) (sym k.types.1) (component_keeps ds k.types.0 rest v t q))
    keeps (measure op operand) s h n x =
        value_keeps ds (type_of (with_tuples scope s) operand) (value_of w s operand) (measure_type op) (measure_value op)
        (keeps operand s h n x) (λ t v q. measure_keeps ds op v t q)
    keeps (aggregate op operand value) s h n x =
        value_keeps ds (type_of (with_tuples scope s) operand) (value_of w s operand)
        (λ t. over_relation t (λ g. with_value (type_of (entered_with g (with_tuples scope s)) value) (aggregate_type op)))
        (λ v. on_relation v (aggregated_value (asked_of op) (λ u. value_of w (u ∷ s) value)))
        (keeps operand s h n.0 x.0)
        (λ t v q. aggregation_keeps ds op (λ g. type_of (entered_with g (with_tuples scope s)) value) (λ u. value_of w (u ∷ s) value) t v q
        (λ u p. keeps value (u ∷ s) (p, h) n.1 x.1))
    keeps (relation elements) s h n x =
        made_keeps ds (AreOf ds) (types_of (with_tuples scope s) elements) (argument_values w s elements) listed_type listed_value
        (arguments_keep elements s h n x) (λ ts vs q. listed_keeps ds ts vs q)
    keeps (headed_relation heading elements) s h n x =
        as_typed ds _ _
        (keeps_both (IsMeant ds) (AreOf ds) (Of ds) (heading_meant ds heading) (types_of (with_tuples scope s) elements)
        (heading_meant w.scope.types heading) (argument_values w s elements) headed_type headed_value
        (subst (λ known. KeepsAs (IsMeant ds) (heading_meant ds heading) (heading_meant known heading)) (sym k.types.1)
        (meant_more scope k.scope_is k.types.0 heading n.0))
        (arguments_keep elements s h n.1 x)
        (λ g g' ts vs p q. typed_as ds (headed_type g ts) (headed_value g' vs)
        (subst (λ f. KeepsType ds (headed_type g ts) (headed_value f vs)) (sym p.0) (headed_keeps ds g ts vs p.1 p.2 q))))
    keeps (tuple parts) s h n x =
        made_keeps ds (AreEntriesOf ds) (named_types (with_tuples scope s) parts) (entry_values w s parts) tuple_type tuple_from
        (entries_keep parts s h n x) (λ attributes es q. tuple_from_keeps ds attributes es q)
    keeps (extend operand parts) s h n x =
        value_keeps ds (type_of (with_tuples scope s) operand) (value_of w s operand)
        (λ t. over_relation t (λ g. with_value (named_types (entered_with g (with_tuples scope s)) parts) (extension_type g)))
        (λ v. on_relation v (λ r. extended_value (named_types (entered_with r.heading (with_tuples w.scope s)) parts) (values_in_tuples w s parts) r))
        (keeps operand s h n.0 x.0)
        (λ t v q. extend_keeps ds (λ g. named_types (entered_with g (with_tuples scope s)) parts) (λ g. named_types (entered_with g (with_tuples w.scope s)) parts)
        (values_in_tuples w s parts) extension_type extended_value (extended_keeps ds) t v q
        (λ r attributes p e. parts_are_kept parts s r attributes h n.1 p e (parts_keep parts s h n.1 x.1 r p)))
    keeps (extend_setting operand settings) s h n x =
        value_keeps ds (type_of (with_tuples scope s) operand) (value_of w s operand)
        (λ t. over_relation t (λ g. with_value (named_types (entered_with g (with_tuples scope s)) settings) (setting_type g)))
        (λ v. on_relation v (λ r. extended_by_settings (named_types (entered_with r.heading (with_tuples w.scope s)) settings) (values_in_tuples w s settings) r))
        (keeps operand s h n.0 x.0)
        (λ t v q. extend_keeps ds (λ g. named_types (entered_with g (with_tuples scope s)) settings) (λ g. named_types (entered_with g (with_tuples w.scope s)) settings)
        (values_in_tuples w s settings) setting_type extended_by_settings (settings_keep ds) t v q
        (λ r attributes p e. parts_are_kept settings s r attributes h n.1 p e (parts_keep settings s h n.1 x.1 r p)))
    keeps (summarize_per operand per items) s h n x =
        summarize_per_keeps ds (λ g. items_of (entered_with g (with_tuples scope s)) items) (λ g. summary_attributes (entered_with g (with_tuples w.scope s)) items)
        (items_in_tuples w s items) (type_of (with_tuples scope s) operand) (type_of (with_tuples scope s) per) (value_of w s operand) (value_of w s per)
        (λ r xs p e. items_are_kept items s r xs h n.2 p e
        (items_keep items s h n.2 x.2 r p xs e))
        (keeps operand s h n.0 x.0)
        (keeps per s h n.1 x.1)
    keeps (summarize_by operand by items) s h n x =
        summarize_by_keeps ds (λ g. items_of (entered_with g (with_tuples scope s)) items) (λ g. summary_attributes (entered_with g (with_tuples w.scope s)) items)
        (items_in_tuples w s items) by (type_of (with_tuples scope s) operand) (value_of w s operand)
        (λ r xs p e. items_are_kept items s r xs h n.1 p e
        (items_keep items s h n.1 x.1 r p xs e))
        (keeps operand s h n.0 x.0)
    keeps (choice condition consequent alternative) s h n x =
        choice_keeps ds (type_of (with_tuples scope s) condition) (type_of (with_tuples scope s) consequent) (type_of (with_tuples scope s) alternative)
        (value_of w s condition) (value_of w s consequent) (value_of w s alternative)
        (keeps condition s h n.0 x.0)
        (keeps consequent s h n.1 x.1)
        (keeps alternative s h n.2 x.2)
    keeps (binding items result) s h n x =
        bound_keeps items [] s (λ inner. type_of inner result) (λ inner. value_of w inner result) h n.0 x.0 (λ inner a. keeps result inner a n.1 x.1)

    -- what stands where WITH's items are in scope keeps its type if it does where typed tuples are
    bound_keeps : (items : NamedTrees) (before : List (List ℕ)) (s : List Tuple) (kind : Scope → Outcome Type') (given : List Tuple → Outcome Val)
        → AreTyped s → PartsGiveNames items → PartsHaveTexts items
        → ((inner : List Tuple) → AreTyped inner → KeepsType ds (kind (with_tuples scope inner)) (given inner))
        → KeepsType ds (type_where_bound before (with_tuples scope s) items kind) (value_where_bound w s items given)
    bound_keeps none_named before s kind given h n x inside = inside s h
    bound_keeps (more_named m value rest) before s kind given h n x inside =
        let here = with_tuples scope s in
        value_keeps ds (type_of here value) (value_of w s value)
        (λ t. if has_name m before then misfit else type_where_bound (m ∷ before) (bound_to m t here) rest kind)
        (λ v. value_where_bound w (((m, v) ∷ []) ∷ s) rest given)
        (keeps value s h n.1 x.0)
        (λ t v q. unless_misfit ds (has_name m before) (type_where_bound (m ∷ before) (bound_to m t here) rest kind)
        (value_where_bound w (((m, v) ∷ []) ∷ s) rest given)
        (subst (λ u. KeepsType ds (type_where_bound (m ∷ before) (bound_to m u here) rest kind) (value_where_bound w (((m, v) ∷ []) ∷ s) rest given))
        (has_its_type ds v t q.1)
        (bound_keeps rest (m ∷ before) (((m, v) ∷ []) ∷ s) kind given (one_typed ds m v t n.0 q, h) n.2 x.1 inside)))

    arguments_keep : (es : Trees) (s : List Tuple) → AreTyped s → GiveNames es → HaveTexts es
        → KeepsAs (AreOf ds) (types_of (with_tuples scope s) es) (argument_values w s es)
    arguments_keep none s h n x = tt
    arguments_keep (more first rest) s h n x =
        keeps_both (Of ds) (AreOf ds) (AreOf ds) (type_of (with_tuples scope s) first) (types_of (with_tuples scope s) rest)
        (value_of w s first) (argument_values w s rest) (λ t ts. Valued (t ∷ ts)) (λ v vs. Valued (v ∷ vs))
        (typed_as ds (type_of (with_tuples scope s) first) (value_of w s first) (keeps first s h n.0 x.0))
        (arguments_keep rest s h n.1 x.1)
        (λ t v ts vs p q. (p, q))

    entries_keep : (parts : NamedTrees) (s : List Tuple) → AreTyped s → PartsGiveNames parts → PartsHaveTexts parts
        → KeepsAs (AreEntriesOf ds) (named_types (with_tuples scope s) parts) (entry_values w s parts)
    entries_keep none_named s h n x = (refl, tt)
    entries_keep (more_named m value rest) s h n x =
        keeps_both (Of ds) (AreEntriesOf ds) (AreEntriesOf ds) (type_of (with_tuples scope s) value) (named_types (with_tuples scope s) rest)
        (value_of w s value) (entry_values w s rest) (λ t attributes. Valued ((m, t) ∷ attributes)) (λ v entries. Valued ((m, v) ∷ entries))
        (typed_as ds (type_of (with_tuples scope s) value) (value_of w s value) (keeps value s h n.1 x.0))
        (entries_keep rest s h n.2 x.1)
        (λ t v attributes es p q.
        let first = has_its_type ds v t p.1 in
        let others = q.0 in
        ((λ i. (m, (sym first) i) ∷ others i), ((n.0, own_type ds v t p), q.1)))

    parts_keep : (parts : NamedTrees) (s : List Tuple) → AreTyped s → PartsGiveNames parts → PartsHaveTexts parts
        → (r : Relation) → IsOfType ds (relation_value r) (types.relation (pack r.heading))
        → KeepParts ds r (named_types (entered_with r.heading (with_tuples scope s)) parts) (values_in_tuples w s parts)
    parts_keep none_named s h n x r p = tt
    parts_keep (more_named m value rest) s h n x r p =
        one_more_part ds r m (type_of (entered_with r.heading (with_tuples scope s)) value) (named_types (entered_with r.heading (with_tuples scope s)) rest)
        (λ u. value_of w (u ∷ s) value) (values_in_tuples w s rest)
        (λ u b.
        let at = rows_typed ds r p u b in
        subst (λ g. KeepsType ds (type_of (entered_with g (with_tuples scope s)) value) (value_of w (u ∷ s) value)) at.1
        (keeps value (u ∷ s) (at.0, h) n.1 x.0))
        (parts_keep rest s h n.2 x.1 r p)

    items_keep : (items : Summaries) (s : List Tuple) → AreTyped s → ItemsGiveNames items → ItemsHaveTexts items
        → (r : Relation) → IsOfType ds (relation_value r) (types.relation (pack r.heading)) → (xs : Items)
        → items_of (entered_with r.heading (with_tuples scope s)) items ≡ Valued xs → ItemsKeep ds r xs (items_in_tuples w s items)
    items_keep no_summaries s h n x r p xs e = subst (λ ys. ItemsKeep ds r ys []) (valued_is [] xs e) tt
    items_keep (counted m rest) s h n x r p xs e =
        let y = value_of_with (items_of (entered_with r.heading (with_tuples scope s)) rest) (λ others. Valued ((m, count_item) ∷ others)) xs e in
        subst (λ ys. ItemsKeep ds r ys (items_in_tuples w s (counted m rest))) (valued_is ((m, count_item) ∷ y.0) xs y.2)
        (refl, (λ u b. (tt, refl)), items_keep rest s h n.1 x r p y.0 y.1)
    items_keep (summed op value m rest) s h n x r p xs e =
        let here = entered_with r.heading (with_tuples scope s) in
        let y = values_of_both (type_of here value) (items_of here rest) (λ t others. Valued ((m, aggregate_item op t) ∷ others)) xs e in
        subst (λ ys. ItemsKeep ds r ys (items_in_tuples w s (summed op value m rest))) (valued_is ((m, aggregate_item op y.0) ∷ y.1) xs y.4) (
          refl,
          (λ u b.
              let at = rows_typed ds r p u b in
              subst (λ o. KeepsType ds o (value_of w (u ∷ s) value)) y.2
              (subst (λ g. KeepsType ds (type_of (entered_with g (with_tuples scope s)) value) (value_of w (u ∷ s) value)) at.1
              (keeps value (u ∷ s) (at.0, h) n.0 x.0))),
          items_keep rest s h n.2 x.1 r p y.1 y.3,
        )

pub values_keep_types : ValuesKeepTypes
values_keep_types w scope s e k h p = keeps w scope k e s h p.0 p.1
