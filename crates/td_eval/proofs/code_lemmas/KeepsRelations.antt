-- Relations the values of whose tuples are of their types, and what an operator gives of them.
use Rattle.std.proofs.Common.{◌≡◌, ◌∙◌, ◌++◌, ℕ, Bool, true, false, List, [], ◌∷◌, ap, filter, refl, subst, sym}
use Rattle.std.specs.List.{AllByRecursion, Contains}
use Rattle.std.specs.declared.cmp.Ordering.{Ordering}
use Rattle.std.specs.declared.cmp.Ordering.TheVariants.{Less, Equal, Greater}
use Rattle.td_tree.specs.declared.cause.Cause.{Cause}
use Rattle.td_tree.specs.model.Outcomes.{Outcome, Valued, value_if, with_value}
use Rattle.td_types.specs.model.TypeLists.{AreKnown, DeclaredType}
use Rattle.td_types.specs.model.Types.{Attrs, Heading, Type', pack, unpack}
use Rattle.td_types.specs.model.Types as types
use Rattle.td_types.proofs.Meanings.{pack_unpack}
use Rattle.td_check.specs.model.OperatorTypes.{mismatch, over_relation, over_relations, relation_if}
use Rattle.td_check.specs.laws.StaticLaws.{IsKnownHeading}
use Rattle.td_value.specs.model.KnownValues.{HasHeading, HasType}
use Rattle.td_value.specs.model.Sets.{put_in}
use Rattle.td_value.specs.model.Values.{Val, boolean, integer, char, relation_value, user, tuple, relation, Rows, IsRelation, Relation, Tuple, entry_cmp, pack_fields, pack_rows, relation_of, tuple_of, type_of, unpack_rows, relation_view}
use Rattle.td_value.proofs.KnownValues.{by_values}
use Rattle.td_value.proofs.Members.{set_members}
use Rattle.td_value.proofs.Packed.{pack_unpack_rows}
use Rattle.td_algebra.proofs.Relations.{member_headed}
use Rattle.td_eval.specs.model.OperatorValues.{on_relation, on_relations, relation_where}
use Rattle.td_eval.specs.laws.ValueTypes.{IsOfType, KeepsType}
use Rattle.td_eval.proofs.code_lemmas.KeepsGathered.{all_from_members, has_type_members, member_from_all}

module _ (ds : List DeclaredType) where
  -- an entry whose value is of its own type
  abbrev pub IsOwn : List ℕ × Val → Type 0
  IsOwn e = HasType ds e.1 (type_of e.1)

  abbrev pub AreOwn : Tuple → Type 0
  AreOwn = AllByRecursion IsOwn

  -- a relation of a known heading, the values in whose tuples are of their types
  pub record IsTypedRelation (r : Relation) : Type 0 where
    pub is_relation : IsRelation r
    pub known : AreKnown ds (pack r.heading)
    pub rows : (t : Tuple) → Contains r.body t → AreOwn t

  pub typed_from_value : (r : Relation) → IsOfType ds (relation_value r) (types.relation (pack r.heading)) → IsTypedRelation r
  typed_from_value r k = record {
    is_relation = k.0;
    known = k.1.1;
    rows = λ t c. all_from_members IsOwn t ((by_values ds t r.heading).0 ((has_type_members ds r.body (pack r.heading)).0 k.1.2 t c)).1;
  }

  pub value_from_typed : (r : Relation) → IsTypedRelation r → IsOfType ds (relation_value r) (types.relation (pack r.heading))
  value_from_typed r k = (k.is_relation, (refl, k.known, (has_type_members ds r.body (pack r.heading)).1 headed))
    where
      headed : (t : Tuple) → Contains r.body t → HasHeading ds (pack_fields t) (pack r.heading)
      headed t c = (by_values ds t r.heading).1 ((member_headed r t k.is_relation c).1, member_from_all IsOwn t (k.rows t c))

  -- its heading
  pub typed_heading : (r : Relation) → IsTypedRelation r → IsKnownHeading ds r.heading
  typed_heading r k = (k.is_relation.2, k.known)

-- ---- entries

module _ (P : List ℕ × Val → Type 0) where
  put_all : (e : List ℕ × Val) (es : Tuple) → P e → AllByRecursion P es → AllByRecursion P (put_in entry_cmp e es)
  put_all e [] p h = (p, tt)
  put_all e (f ∷ es) p h = by_order (put_all e es p h.1) (entry_cmp e f) refl
    where
      by_order : AllByRecursion P (put_in entry_cmp e es) → (o : Ordering) → entry_cmp e f ≡ o → AllByRecursion P (put_in entry_cmp e (f ∷ es))
      by_order rest Less is = rw is (p, h)
      by_order rest Equal is = rw is h
      by_order rest Greater is = rw is (h.0, rest)

  -- what holds of entries holds of those of the tuple that they make
  pub all_made : (es : Tuple) → AllByRecursion P es → AllByRecursion P (tuple_of es)
  all_made [] h = tt
  all_made (e ∷ es) h = put_all e (tuple_of es) h.0 (all_made es h.1)

  -- of those that pass a test
  pub all_filtered : (p : List ℕ × Val → Bool) (es : Tuple) → AllByRecursion P es → AllByRecursion P (filter p es)
  all_filtered p [] h = tt
  all_filtered p (e ∷ es) h = by_test (p e) refl (all_filtered p es h.1)
    where
      by_test : (b : Bool) → p e ≡ b → AllByRecursion P (filter p es) → AllByRecursion P (filter p (e ∷ es))
      by_test true is rest = rw is (h.0, rest)
      by_test false is rest = rw is rest

  -- and of those of two lists
  pub all_joined : (es fs : Tuple) → AllByRecursion P es → AllByRecursion P fs → AllByRecursion P (es ++ fs)
  all_joined [] fs h k = k
  all_joined (e ∷ es) fs h k = (h.0, all_joined es fs h.1 k)

-- ---- a value as a relation

module _ (ds : List DeclaredType) where
  typed_view : (h : Attrs) (rs : Rows) → IsOfType ds (relation h rs) (types.relation h) → IsTypedRelation ds (relation_view (unpack h) (unpack_rows rs))
  typed_view h rs k =
      typed_from_value ds (relation_view (unpack h) (unpack_rows rs))
      (subst (λ (g : Attrs). IsOfType ds (relation g (pack_rows (unpack_rows rs))) (types.relation g)) (sym (pack_unpack h))
      (subst (λ (ss : Rows). IsOfType ds (relation h ss) (types.relation h)) (sym (pack_unpack_rows rs)) k))

  -- what is asked of a relation is asked of a typed one
  pub over_relation_keeps : (v : Val) (s : Type') (f : Heading → Outcome Type') (g : Relation → Outcome Val) → IsOfType ds v s
      → ((r : Relation) → IsTypedRelation ds r → s ≡ types.relation (pack r.heading) → KeepsType ds (f r.heading) (g r))
      → KeepsType ds (over_relation s f) (on_relation v g)
  over_relation_keeps (boolean b) s f g k h = subst (λ (t : Type'). KeepsType ds (over_relation t f) mismatch) (sym k.1) tt
  over_relation_keeps (integer z) s f g k h = subst (λ (t : Type'). KeepsType ds (over_relation t f) mismatch) (sym k.1) tt
  over_relation_keeps (char c) s f g k h = subst (λ (t : Type'). KeepsType ds (over_relation t f) mismatch) (sym k.1) tt
  over_relation_keeps (user n ps) s f g k h = subst (λ (t : Type'). KeepsType ds (over_relation t f) mismatch) (sym k.1.0) tt
  over_relation_keeps (tuple fs) s f g k h = subst (λ (t : Type'). KeepsType ds (over_relation t f) mismatch) (sym k.1.1) tt
  over_relation_keeps (relation a rs) s f g k h =
      let r = relation_view (unpack a) (unpack_rows rs) in
      subst (λ (t : Type'). KeepsType ds (over_relation t f) (g r)) (sym k.1.0)
      (h r (typed_view a rs (k.0, (refl, k.1.1, k.1.2))) (k.1.0 ∙ ap types.relation (sym (pack_unpack a))))

  -- and of two
  pub over_relations_keeps : (v w : Val) (s t : Type') (f : Heading → Heading → Outcome Type') (g : Relation → Relation → Outcome Val)
      → IsOfType ds v s → IsOfType ds w t
      → ((q r : Relation) → IsTypedRelation ds q → IsTypedRelation ds r → s ≡ types.relation (pack q.heading) → KeepsType ds (f q.heading r.heading) (g q r))
      → KeepsType ds (over_relations s t f) (on_relations v w g)
  over_relations_keeps v w s t f g k l h =
      over_relation_keeps v s (λ a. over_relation t (λ b. f a b)) (λ q. on_relation w (λ r. g q r)) k
      (λ q m e. over_relation_keeps w t (λ b. f q.heading b) (λ r. g q r) l (λ r n _. h q r m n e))

  -- ---- the result, where what is asked holds

  pub type_if_keeps : (test : Bool) (s : Type') (cause : Cause) (r : Relation) → s ≡ types.relation (pack r.heading) → (test ≡ true → IsTypedRelation ds r)
      → KeepsType ds (value_if test s cause) (relation_where test r)
  type_if_keeps true s cause r e k = subst (IsOfType ds (relation_value r)) (sym e) (value_from_typed ds r (k refl))
  type_if_keeps false s cause r e k = tt

  pub heading_if_keeps : (test : Bool) (h : Heading) (cause : Cause) (r : Relation) → r.heading ≡ h → (test ≡ true → IsTypedRelation ds r)
      → KeepsType ds (relation_if (value_if test h cause)) (relation_where test r)
  heading_if_keeps true h cause r e k =
      subst (λ (g : Heading). IsOfType ds (relation_value r) (types.relation (pack g))) e (value_from_typed ds r (k refl))
  heading_if_keeps false h cause r e k = tt

  -- the set of tuples whose values are of their types
  pub typed_set : (h : Heading) (ts : List Tuple) → IsRelation (relation_of h ts) → AreKnown ds (pack h) → ((t : Tuple) → Contains ts t → AreOwn ds t)
      → IsTypedRelation ds (relation_of h ts)
  typed_set h ts p k own =
      record { is_relation = p; known = k; rows = λ t c. own t ((set_members ts t).0 c) }

  -- where a heading is made of the one that is asked for
  pub made_if_keeps : (test : Bool) (x : Heading) (cause : Cause) (f : Heading → Heading) (r : Relation) → r.heading ≡ f x → (test ≡ true → IsTypedRelation ds r)
      → KeepsType ds (relation_if (with_value (value_if test x cause) (λ y. Valued (f y)))) (relation_where test r)
  made_if_keeps true x cause f r e k =
      subst (λ (g : Heading). IsOfType ds (relation_value r) (types.relation (pack g))) e (value_from_typed ds r (k refl))
  made_if_keeps false x cause f r e k = tt
