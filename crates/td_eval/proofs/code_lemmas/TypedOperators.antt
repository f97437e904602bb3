-- What the operators give of operands of their types: a value of the static type, or dynamic causes.
use Rattle.std.proofs.Common.{◌≡◌, ◌∙◌, ◌+ℤ◌, ◌-ℤ◌, ◌*ℤ◌, ℕ, ℤ, pos, neg_ℤ, int_div, nat_eq, Bool, true, false, not, ◌&&◌, ◌||◌, List, [], ◌∷◌, ◌++◌, Some, length, ap, refl, subst, sym}
use Rattle.std.specs.List.{zip}
use Rattle.std.specs.List.Sorted.{IsStrictlySortedBy}
use Rattle.std.specs.Ordering.{eq_by_cmp}
use Rattle.std.specs.Prelude.{if◌then◌else◌}
use Rattle.std.proofs.lemmas.Str.{IsUtf8-append}
use Rattle.td_check.specs.model.OperatorTypes.{attribute_type, both_of, choice_type, closure_type, comparison_type, component_type, equality_type, extracted_type, if_type, known_or, measure_type, membership_type, operator_type, order_type, prefix_type, same_heading, same_type}
use Rattle.td_check.specs.model.StaticTypes.{literal_type, both_types}
use Rattle.td_group.specs.model.Closure.{closure}
use Rattle.td_tree.specs.declared.cause.Cause.{Cause}
use Rattle.td_tree.specs.declared.cause.Cause.TheVariants as causes
use Rattle.td_tree.specs.declared.operator.Comparison.{Comparison}
use Rattle.td_tree.specs.declared.operator.Comparison.TheVariants as comparisons
use Rattle.td_tree.specs.declared.operator.Measure.{Measure}
use Rattle.td_tree.specs.declared.operator.Measure.TheVariants as measures
use Rattle.td_tree.specs.declared.operator.Operator.TheVariants as operators
use Rattle.td_tree.specs.declared.operator.Prefix.{Prefix}
use Rattle.td_tree.specs.declared.operator.Prefix.TheVariants as prefixes
use Rattle.td_tree.specs.model.Outcomes.{Outcome, Valued, Refused, Only, value_if, with_both, with_value}
use Rattle.td_tree.specs.model.Trees.{Literal, number, text, truth, table_dee, table_dum}
use Rattle.td_types.specs.model.Headings.{is_closable}
use Rattle.td_types.specs.model.TypeLists.{DeclaredType}
use Rattle.td_types.specs.model.Types.{Type', Attribute, Attrs, Heading, attribute_names, pack, same_name, type_at, unpack}
use Rattle.td_types.specs.model.Types as types
use Rattle.td_types.proofs.KnownTypes.{declared_more}
use Rattle.td_types.proofs.Meanings.{pack_unpack}
use Rattle.td_value.proofs.Packed.{pack_unpack_fields}
use Rattle.td_value.specs.model.KnownValues.{AreOfTypes}
use Rattle.td_value.specs.model.Values.{Val, char, of_number, tuple, relation, Parts, no_parts, part, Rows, no_rows, row, AreValues, IsValue, heading_of, unpack_fields, unpack_rows, value_at, value_cmp}
use Rattle.td_value.proofs.KnownValues.{has_its_type}
use Rattle.td_eval.specs.model.OperatorValues.{at_most, comparison_value, component_value, components_of, equality_value, extracted_value, is_zero, literal_value, measure_value, membership_value, of_truth, on_number, on_numbers, on_text, on_truth, on_truths, only_tuple, operator_value, prefix_value, quotient, relation_where, signed_number}
use Rattle.td_eval.specs.laws.ValueTypes.{IsOfType, KeepsType}
use Rattle.td_eval.proofs.code_lemmas.KeepsClosure.{closure_keeps}
use Rattle.td_eval.proofs.code_lemmas.KeepsGathered.{one_dynamic}
use Rattle.td_eval.proofs.code_lemmas.KeepsRelations.{over_relation_keeps}
use Rattle.td_eval.proofs.code_lemmas.TypedOutcomes.{KeepsAs, test_keeps}
use Rattle.td_eval.proofs.code_lemmas.TypedValues.{BothFound, fields_heading, fields_of, found_in_fields, in_range_keeps, integer_of, known_keeps, number_keeps, relation_keeps, rows_of, same_is, text_keeps, text_of, truth_keeps, tuple_keeps, type_is, user_of}
use Rattle.td_tree.specs.model.WrittenTrees.{IsUtf8Literal}

module _ (ds : List DeclaredType) where
  -- ---- literals

  pub literal_keeps : (l : Literal) → IsUtf8Literal l → KeepsType ds (Valued (literal_type l)) (literal_value l)
  unfolding IsStrictlySortedBy
  literal_keeps (number minus magnitude) p = in_range_keeps ds (signed_number minus magnitude)
  literal_keeps (text content) p = (p, refl)
  literal_keeps (truth b) p = (tt, refl)
  literal_keeps table_dee p = ((((tt, tt, refl), tt), (tt, tt), tt), (refl, tt, (tt, tt)))
  literal_keeps table_dum p = ((tt, tt, tt), (refl, tt, tt))

  -- ---- operators of one operand

  asked_keeps : (asked t s : Type') (v : Val) (o : Outcome Val) → IsOfType ds v t → (IsOfType ds v asked → KeepsType ds (Valued s) o)
      → KeepsType ds (if_type asked t s) o
  asked_keeps asked t s v o h k =
      test_keeps ds (same_type t asked) s causes.TypeMismatch o (λ e. k (subst (IsOfType ds v) (type_is t asked e) h))

  only_keeps : (h : Attrs) (rs : Rows) → IsOfType ds (relation h rs) (types.relation h)
      → KeepsType ds (Valued (types.tuple (pack (unpack h)))) (only_tuple (unpack_rows rs))
  only_keeps h no_rows q = one_dynamic causes.NotOneTuple tt
  only_keeps h (row fs no_rows) q = rw (pack_unpack h, pack_unpack_fields fs) ((q.0.0.0.0, q.0.0.0.1), (h, refl, q.1.2.0))
  only_keeps h (row fs (row gs rs)) q = one_dynamic causes.NotOneTuple tt

  tuple_from_keeps : (v : Val) (t : Type') → IsOfType ds v t → KeepsType ds (prefix_type prefixes.TupleFrom t) (prefix_value prefixes.TupleFrom v)
  tuple_from_keeps v (types.relation h) q =
      relation_keeps ds (Valued (types.tuple (pack (unpack h)))) v h (λ r. only_tuple r.body) q (λ rs p. only_keeps h rs p)
  tuple_from_keeps v _ q = tt

  pub prefix_keeps : (op : Prefix) (v : Val) (t : Type') → IsOfType ds v t → KeepsType ds (prefix_type op t) (prefix_value op v)
  prefix_keeps prefixes.Not v t q =
      asked_keeps types.boolean t types.boolean v (prefix_value prefixes.Not v) q
      (λ p. truth_keeps ds (Valued types.boolean) v (λ b. of_truth (not b)) p (λ b. (tt, refl)))
  prefix_keeps prefixes.Negate v t q =
      asked_keeps types.integer t types.integer v (prefix_value prefixes.Negate v) q
      (λ p. number_keeps ds (Valued types.integer) v (λ z. of_number (neg_ℤ z)) p (λ z. in_range_keeps ds (neg_ℤ z)))
  prefix_keeps prefixes.TransitiveClosure v t q =
      over_relation_keeps ds v t closure_type (λ r. relation_where (is_closable r.heading) (closure r)) q (λ r m e. closure_keeps ds r m)
  prefix_keeps prefixes.TupleFrom v t q = tuple_from_keeps v t q

  pub extracted_keeps : (name : List ℕ) (v : Val) (t : Type') → IsOfType ds v t → KeepsType ds (extracted_type name t) (extracted_value name v)
  extracted_keeps name v (types.tuple h) q =
      tuple_keeps ds (attribute_type name (unpack h)) v h (λ u. known_or causes.Heading (value_at name u)) q
      (λ fs p k. known_keeps ds causes.Heading causes.Heading (type_at name (unpack h)) (value_at name (unpack_fields fs)) (found_in_fields ds name fs h p.0.0 k))
  extracted_keeps name v _ q = tt

  found_component : (name : List ℕ) (ps : Parts) (cs : List Attribute) → AreValues ps → AreOfTypes ds ps cs
      → BothFound ds (type_at name cs) (value_at name (zip (attribute_names cs) (components_of ps)))
  found_component name no_parts [] p q = tt
  found_component name no_parts (c ∷ cs) p q = absurd q
  found_component name (part v ps) [] p q = absurd q
  found_component name (part v ps) (c ∷ cs) p q = by_name (same_name c.0 name) (found_component name ps cs p.1 q.1)
    where
      by_name : (b : Bool) → BothFound ds (type_at name cs) (value_at name (zip (attribute_names cs) (components_of ps)))
          → BothFound ds (if b then Some c.1 else type_at name cs) (if b then Some v else value_at name (zip (attribute_names cs) (components_of ps)))
      by_name true others = (p.0, q.0)
      by_name false others = others

  pub component_keeps : (more : List DeclaredType) (name : List ℕ) (v : Val) (t : Type') → IsOfType ds v t
      → KeepsType ds (component_type ds name t) (component_value (ds ++ more) name v)
  component_keeps more name v (types.user n) q =
      let u = user_of ds n v q.1 in
      let d = u.2 in
      let there = declared_more n ds more d u.3 in
      let value = subst IsValue u.1 q.0 in
      subst (λ w. KeepsType ds (component_type ds name (types.user n)) (component_value (ds ++ more) name w)) (sym u.1)
      (rw (u.3, there) (known_keeps ds causes.NameUnknown causes.NameUnknown (type_at name d.components)
      (value_at name (zip (attribute_names d.components) (components_of u.0))) (found_component name u.0 d.components value.1 u.4)))
  component_keeps more name v _ q = tt

  pub measure_keeps : (op : Measure) (v : Val) (t : Type') → IsOfType ds v t → KeepsType ds (measure_type op t) (measure_value op v)
  measure_keeps measures.Count v (types.relation h) q =
      relation_keeps ds (Valued types.integer) v h (λ r. of_number (pos (length r.body))) q (λ rs p. in_range_keeps ds (pos (length (unpack_rows rs))))
  measure_keeps measures.Count v _ q = tt
  measure_keeps measures.IsEmpty v (types.relation h) q =
      relation_keeps ds (Valued types.boolean) v h (λ r. of_truth (nat_eq (length r.body) 0)) q (λ rs p. (tt, refl))
  measure_keeps measures.IsEmpty v _ q = tt

  -- ---- operators between two scalars

  both_asked : (asked s t : Type') (v w : Val) (o : Outcome Val) → IsOfType ds v s → IsOfType ds w t
      → (IsOfType ds v asked → IsOfType ds w asked → KeepsType ds (Valued asked) o) → KeepsType ds (both_of asked s t) o
  both_asked asked s t v w o h k f = by_tests (same_type s asked) (same_type t asked) refl refl
    where
      by_tests : (a b : Bool) → same_type s asked ≡ a → same_type t asked ≡ b → KeepsType ds (value_if (a && b) asked causes.TypeMismatch) o
      by_tests true true d e = f (subst (IsOfType ds v) (type_is s asked d) h) (subst (IsOfType ds w) (type_is t asked e) k)
      by_tests true false d e = tt
      by_tests false b d e = tt

  truths_keep : (s t : Type') (v w : Val) (f : Bool → Bool → Bool) → IsOfType ds v s → IsOfType ds w t
      → KeepsType ds (both_of types.boolean s t) (on_truths v w (λ a b. of_truth (f a b)))
  truths_keep s t v w f h k =
      both_asked types.boolean s t v w (on_truths v w (λ a b. of_truth (f a b))) h k
      (λ p q. truth_keeps ds (Valued types.boolean) v (λ a. on_truth w (λ b. of_truth (f a b))) p
      (λ a. truth_keeps ds (Valued types.boolean) w (λ b. of_truth (f a b)) q (λ b. (tt, refl))))

  numbers_keep : (s t : Type') (v w : Val) (f : ℤ → ℤ → Outcome Val) → IsOfType ds v s → IsOfType ds w t
      → ((x y : ℤ) → KeepsType ds (Valued types.integer) (f x y)) → KeepsType ds (both_of types.integer s t) (on_numbers v w f)
  numbers_keep s t v w f h k l =
      both_asked types.integer s t v w (on_numbers v w f) h k
      (λ p q. number_keeps ds (Valued types.integer) v (λ x. on_number w (λ y. f x y)) p
      (λ x. number_keeps ds (Valued types.integer) w (λ y. f x y) q (λ y. l x y)))

  quotient_keeps : (x y : ℤ) → KeepsType ds (Valued types.integer) (quotient x y)
  quotient_keeps x y = by_test (is_zero y)
    where
      by_test : (b : Bool) → KeepsType ds (Valued types.integer) (if b then Refused (Only causes.ZeroDivisor) else of_number (int_div x y))
      by_test true = one_dynamic causes.ZeroDivisor tt
      by_test false = in_range_keeps ds (int_div x y)

  pub or_keeps : (v w : Val) (s t : Type') → IsOfType ds v s → IsOfType ds w t → KeepsType ds (operator_type operators.Or s t) (operator_value operators.Or v w)
  or_keeps v w s t h k = truths_keep s t v w (λ a b. a || b) h k

  pub and_keeps : (v w : Val) (s t : Type') → IsOfType ds v s → IsOfType ds w t → KeepsType ds (operator_type operators.And s t) (operator_value operators.And v w)
  and_keeps v w s t h k = truths_keep s t v w (λ a b. a && b) h k

  pub add_keeps : (v w : Val) (s t : Type') → IsOfType ds v s → IsOfType ds w t → KeepsType ds (operator_type operators.Add s t) (operator_value operators.Add v w)
  add_keeps v w s t h k = numbers_keep s t v w (λ x y. of_number (x +ℤ y)) h k (λ x y. in_range_keeps ds (x +ℤ y))

  pub subtract_keeps : (v w : Val) (s t : Type') → IsOfType ds v s → IsOfType ds w t
      → KeepsType ds (operator_type operators.Subtract s t) (operator_value operators.Subtract v w)
  subtract_keeps v w s t h k = numbers_keep s t v w (λ x y. of_number (x -ℤ y)) h k (λ x y. in_range_keeps ds (x -ℤ y))

  pub multiply_keeps : (v w : Val) (s t : Type') → IsOfType ds v s → IsOfType ds w t
      → KeepsType ds (operator_type operators.Multiply s t) (operator_value operators.Multiply v w)
  multiply_keeps v w s t h k = numbers_keep s t v w (λ x y. of_number (x *ℤ y)) h k (λ x y. in_range_keeps ds (x *ℤ y))

  pub divide_keeps : (v w : Val) (s t : Type') → IsOfType ds v s → IsOfType ds w t
      → KeepsType ds (operator_type operators.Divide s t) (operator_value operators.Divide v w)
  divide_keeps v w s t h k = numbers_keep s t v w quotient h k quotient_keeps

  pub concatenate_keeps : (v w : Val) (s t : Type') → IsOfType ds v s → IsOfType ds w t
      → KeepsType ds (operator_type operators.Concatenate s t) (operator_value operators.Concatenate v w)
  concatenate_keeps v w s t h k =
      both_asked types.char s t v w (operator_value operators.Concatenate v w) h k
      (λ p q. text_keeps ds (Valued types.char) v (λ x. on_text w (λ y. Valued (char (x ++ y)))) p
      (λ x u. text_keeps ds (Valued types.char) w (λ y. Valued (char (x ++ y))) q (λ y l. (IsUtf8-append x y u l, refl))))

  -- ---- comparisons

  if_boolean : (test : Bool) (cause : Cause) (b : Bool)
      → KeepsType ds (value_if test types.boolean cause) (with_value (value_if test types.boolean cause) (λ t. of_truth b))
  if_boolean true cause b = (tt, refl)
  if_boolean false cause b = tt

  same_keeps : (s t : Type') (b : Bool) → KeepsType ds (equality_type s t) (with_value (equality_type s t) (λ t. of_truth b))
  same_keeps (types.relation g) (types.relation h) b = if_boolean (same_type (types.relation g) (types.relation h)) causes.Heading b
  same_keeps s t b = if_boolean (same_type t s) causes.TypeMismatch b

  equal_keeps : (v w : Val) (s t : Type') (f : Bool → Bool) → IsOfType ds v s → IsOfType ds w t → KeepsType ds (equality_type s t) (equality_value v w f)
  equal_keeps v w s t f h k =
      rw (has_its_type ds v s h.1, has_its_type ds w t k.1) (same_keeps s t (f (eq_by_cmp value_cmp v w)))

  -- where the types have an order, whether one is at most the other
  abbrev AreOrdered : Type' → Bool → Type 0
  AreOrdered t b = t ≡ types.boolean

  ordered_by : (test : Bool) (cause : Cause) (o : Outcome Bool) → (test ≡ true → KeepsAs AreOrdered (Valued types.boolean) o)
      → KeepsAs AreOrdered (value_if test types.boolean cause) o
  ordered_by true cause o k = k refl
  ordered_by false cause o k = tt

  heads_same : (g h : Attrs) → same_type (types.relation g) (types.relation h) ≡ true → g ≡ h
  heads_same g h e = let is = type_is (types.relation g) (types.relation h) e in cc

  relations_ordered : (g h : Attrs) (rs ss : Rows) → same_heading (unpack g) (unpack h) ≡ true
      → KeepsAs AreOrdered (Valued types.boolean) (at_most (relation g rs) (relation h ss))
  relations_ordered g h rs ss e = rw e refl

  -- either way round
  ordered : (s t : Type') (v w : Val) → IsOfType ds v s → IsOfType ds w t
      → KeepsAs AreOrdered (order_type s t) (at_most v w) × KeepsAs AreOrdered (order_type s t) (at_most w v)
  ordered types.integer types.integer v w h k =
      let x = integer_of ds v h.1 in
      let y = integer_of ds w k.1 in
      (rw (x.1, y.1) refl, rw (x.1, y.1) refl)
  ordered types.char types.char v w h k =
      let x = text_of ds v h.1 in
      let y = text_of ds w k.1 in
      (rw (x.1, y.1) refl, rw (x.1, y.1) refl)
  ordered (types.relation g) (types.relation h) v w q r =
      let x = rows_of ds g v q.1 in
      let y = rows_of ds h w r.1 in
      let test = same_type (types.relation g) (types.relation h) in (
        rw (x.1, y.1) (ordered_by test causes.Heading (at_most (relation g x.0) (relation h y.0))
            (λ e. relations_ordered g h x.0 y.0 (same_is (unpack g) (unpack h) (ap unpack (heads_same g h e))))),
        rw (x.1, y.1) (ordered_by test causes.Heading (at_most (relation h y.0) (relation g x.0))
            (λ e. relations_ordered h g y.0 x.0 (same_is (unpack h) (unpack g) (ap unpack (sym (heads_same g h e)))))),
      )
  ordered _ _ v w h k = (tt, tt)

  ordered_truth : (x : Outcome Type') (o : Outcome Bool) (f : Bool → Bool) → KeepsAs AreOrdered x o → KeepsType ds x (with_value o (λ b. of_truth (f b)))
  ordered_truth (Valued t) (Valued b) f k = (tt, k)
  ordered_truth (Valued t) (Refused cs) f k = k
  ordered_truth (Refused cs) o f k = tt

  member_keeps : (v w : Val) (s t : Type') → IsOfType ds v s → IsOfType ds w t → KeepsType ds (membership_type s t) (membership_value v w)
  member_keeps v w (types.tuple g) (types.relation h) q r =
      let x = fields_of ds g v q.1 in
      let y = rows_of ds h w r.1 in
      let head = fields_heading ds x.0 g x.2 in
      rw (x.1, y.1) (test_keeps ds (same_type (types.tuple g) (types.tuple h)) types.boolean causes.Heading (membership_value (tuple x.0) (relation h y.0))
      (λ e.
      let is = type_is (types.tuple g) (types.tuple h) e in
      let same : g ≡ h = cc in
      rw (same_is (heading_of (unpack_fields x.0)) (unpack h) (head ∙ ap unpack same)) (tt, refl)))
  member_keeps v w _ _ q r = tt

  pub comparison_keeps : (op : Comparison) (v w : Val) (s t : Type') → IsOfType ds v s → IsOfType ds w t
      → KeepsType ds (comparison_type op s t) (comparison_value op v w)
  comparison_keeps comparisons.Equal v w s t h k = equal_keeps v w s t (λ same. same) h k
  comparison_keeps comparisons.NotEqual v w s t h k = equal_keeps v w s t not h k
  comparison_keeps comparisons.Less v w s t h k =
      ordered_truth (order_type s t) (at_most v w) (λ least. least && not (eq_by_cmp value_cmp v w)) (ordered s t v w h k).0
  comparison_keeps comparisons.LessOrEqual v w s t h k = ordered_truth (order_type s t) (at_most v w) (λ b. b) (ordered s t v w h k).0
  comparison_keeps comparisons.Greater v w s t h k =
      ordered_truth (order_type s t) (at_most w v) (λ least. least && not (eq_by_cmp value_cmp w v)) (ordered s t v w h k).1
  comparison_keeps comparisons.GreaterOrEqual v w s t h k = ordered_truth (order_type s t) (at_most w v) (λ b. b) (ordered s t v w h k).1
  comparison_keeps comparisons.In v w s t h k = member_keeps v w s t h k

  -- ---- IF

  chosen : (c s t : Type') (o p q : Outcome Val) → KeepsType ds (Valued c) o → KeepsType ds (Valued s) p → KeepsType ds (Valued t) q
      → KeepsType ds (choice_type c s t) (with_value o (λ v. on_truth v (λ b. if b then p else q)))
  chosen c s t o p q k l m = by_tests (same_type c types.boolean) (same_type s t) refl refl
    where
      branch : (b : Bool) → s ≡ t → KeepsType ds (Valued s) (if b then p else q)
      branch true e = l
      branch false e = subst (λ x. KeepsType ds (Valued x) q) (sym e) m

      of_condition : (r : Outcome Val) → KeepsType ds (Valued types.boolean) r → s ≡ t
          → KeepsType ds (Valued s) (with_value r (λ v. on_truth v (λ b. if b then p else q)))
      of_condition (Valued v) n e = truth_keeps ds (Valued s) v (λ b. if b then p else q) n (λ b. branch b e)
      of_condition (Refused cs) n e = n

      by_tests : (a b : Bool) → same_type c types.boolean ≡ a → same_type s t ≡ b
          → KeepsType ds (value_if (a && b) s causes.TypeMismatch) (with_value o (λ v. on_truth v (λ b. if b then p else q)))
      by_tests true true d e = of_condition o (subst (λ x. KeepsType ds (Valued x) o) (type_is c types.boolean d) k) (type_is s t e)
      by_tests true false d e = tt
      by_tests false b d e = tt

  pub choice_keeps : (x y z : Outcome Type') (o p q : Outcome Val) → KeepsType ds x o → KeepsType ds y p → KeepsType ds z q
      → KeepsType ds (with_both x (both_types y z) (λ c both. choice_type c both.0 both.1)) (with_value o (λ v. on_truth v (λ b. if b then p else q)))
  choice_keeps (Valued c) (Valued s) (Valued t) o p q k l m = chosen c s t o p q k l m
  choice_keeps (Valued c) (Valued s) (Refused bs) o p q k l m = tt
  choice_keeps (Valued c) (Refused bs) (Valued t) o p q k l m = tt
  choice_keeps (Valued c) (Refused bs) (Refused cs) o p q k l m = tt
  choice_keeps (Refused bs) (Valued s) (Valued t) o p q k l m = tt
  choice_keeps (Refused bs) (Valued s) (Refused cs) o p q k l m = tt
  choice_keeps (Refused bs) (Refused as') (Valued t) o p q k l m = tt
  choice_keeps (Refused bs) (Refused as') (Refused cs) o p q k l m = tt
