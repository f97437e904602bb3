-- TCLOSE gives values of its operand's type, or is refused by dynamic causes alone.
use Rattle.std.proofs.Common.{◌≡◌, ◌⊎◌, inl, inr, ℕ, zero, suc, true, List, [], ◌∷◌, length, filter, map, refl, subst}
use Rattle.std.specs.List.{Contains, flat_map}
use Rattle.std.proofs.lemmas.List.Elements.{Contains-append_cases}
use Rattle.td_algebra.proofs.Lists.{contains_filter, contains_flat_map, contains_map}
use Rattle.td_check.specs.model.OperatorTypes.{closure_type}
use Rattle.td_eval.proofs.code_lemmas.KeepsRelations.{AreOwn, IsTypedRelation, type_if_keeps, typed_set}
use Rattle.td_eval.specs.model.OperatorValues.{relation_where}
use Rattle.td_eval.specs.laws.ValueTypes.{KeepsType}
use Rattle.td_group.proofs.ClosureLaws.{closure_is_relation}
use Rattle.td_group.specs.model.Closure.{chained_tuple, chained_tuples, closure, is_followed_by}
use Rattle.td_tree.specs.declared.cause.Cause.TheVariants as causes
use Rattle.td_types.specs.model.Headings.{is_closable}
use Rattle.td_types.specs.model.TypeLists.{DeclaredType}
use Rattle.td_types.specs.model.Types.{pack}
use Rattle.td_types.specs.model.Types as types
use Rattle.td_value.specs.model.Values.{Relation, Tuple}

module _ (ds : List DeclaredType) where
  -- the tuple from one to another has values of both
  own_chained : (t u : Tuple) → AreOwn ds t → AreOwn ds u → AreOwn ds (chained_tuple t u)
  own_chained [] u h k = tt
  own_chained (d ∷ es) [] h k = tt
  own_chained (d ∷ es) (f ∷ gs) h k = (h.0, k.1)

  own_chains : (n : ℕ) (ts : List Tuple) → ((t : Tuple) → Contains ts t → AreOwn ds t) → (t : Tuple) → Contains (chained_tuples n ts) t → AreOwn ds t
  own_chains zero ts h t c = h t c
  own_chains (suc n) ts h t c =
      by_case (own_chains n ts h) (Contains-append_cases ts (flat_map (λ p. map (chained_tuple p) (filter (is_followed_by p) ts)) (chained_tuples n ts)) t c)
    where
      by_case : ((p : Tuple) → Contains (chained_tuples n ts) p → AreOwn ds p)
          → Contains ts t ⊎ Contains (flat_map (λ p. map (chained_tuple p) (filter (is_followed_by p) ts)) (chained_tuples n ts)) t → AreOwn ds t
      by_case rest (inl d) = h t d
      by_case rest (inr d) =
          let p = (contains_flat_map (λ p. map (chained_tuple p) (filter (is_followed_by p) ts)) (chained_tuples n ts) t).0 d in
          let u = (contains_map (chained_tuple p.0) (filter (is_followed_by p.0) ts) t).0 p.2 in
          let among = (contains_filter (is_followed_by p.0) ts u.0).0 u.1 in
          subst (AreOwn ds) u.2 (own_chained p.0 u.0 (rest p.0 p.1) (h u.0 among.0))

  typed_closure : (r : Relation) → is_closable r.heading ≡ true → IsTypedRelation ds r → IsTypedRelation ds (closure r)
  typed_closure r closable m =
      typed_set ds r.heading (chained_tuples (length r.body) r.body) (closure_is_relation r m.is_relation closable) m.known
      (own_chains (length r.body) r.body m.rows)

  pub closure_keeps : (r : Relation) → IsTypedRelation ds r → KeepsType ds (closure_type r.heading) (relation_where (is_closable r.heading) (closure r))
  closure_keeps r m =
      type_if_keeps ds (is_closable r.heading) (types.relation (pack r.heading)) causes.Heading (closure r) refl (λ e. typed_closure r e m)
