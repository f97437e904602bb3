-- Which tuples a closure has, and that it is the least transitive relation that includes its operand.
use Rattle.std.proofs.Common.{◌≡◌, ◌∙◌, ◌⊎◌, inl, inr, ap, sym, refl, subst, true, List, [], ◌∷◌, ◌++◌, length, Option, Some}
use Rattle.std.specs.List.{All, Contains}
use Rattle.std.specs.Ordering.{eq_by_cmp}
use Rattle.std.proofs.lemmas.List.Elements.{All-contains}
use Rattle.td_types.specs.model.Headings.{is_closable}
use Rattle.td_types.specs.model.Types.{Attribute}
use Rattle.td_value.specs.model.Values.{IsRelation, IsTupleOf, Relation, Tuple, Val, value_cmp}
use Rattle.td_value.specs.code.ValueOrder.{value_Decides}
use Rattle.td_value.proofs.Members.{by_members, set_members}
use Rattle.td_algebra.specs.laws.Membership.{IsIn}
use Rattle.td_algebra.proofs.Lists.{contains_cases, contains_first, contains_later, contains_none}
use Rattle.td_algebra.proofs.Relations.{All-from_members, IsRelation-relation_of, rows_headed}
use Rattle.td_group.specs.model.Closure.{chained_tuple, chained_tuples, closure, is_followed_by}
use Rattle.td_group.specs.laws.Membership.{ClosureByChains, ClosureIsIdempotent, ClosureIsLeast, IsTransitive, IsChain, first_value, second_value}
use Rattle.td_group.specs.code.Successors.{Leads, pair_of, successors}
use Rattle.td_group.proofs.Chains.{chained_lead, closable_two, from_successor, itself, led_chained, led_headed, shaped, to_successor}

some_is : {A : Type 0} (x y : A) → Some x ≡ Some y → x ≡ y
some_is x y e = cc

leads_joined : (next : Val → List Val) (v : Val) (us : List Val) (x : Val) (ws : List Val) (w : Val) → Leads next v us x → Leads next x ws w → Leads next v (us ++ x ∷ ws) w
leads_joined next v [] x ws w h k = (h, k)
leads_joined next v (u ∷ us) x ws w h k = (h.0, leads_joined next u us x ws w h.1 k)

module _ (a b : Attribute) (body : List Tuple) (all : All (IsTupleOf (a ∷ b ∷ [])) body) where
  abbrev arc : Val → Val → Tuple
  arc = pair_of (a.0 ∷ b.0 ∷ [])

  -- a way as a list of tuples
  chain_of_way : (v : Val) (us : List Val) (w : Val) → Leads (successors body) v us w
      → (u : Tuple) × (ts : List Tuple) × ((t : Tuple) → Contains (u ∷ ts) t → Contains body t) × IsChain (Some v) (u ∷ ts) (Some w)
  chain_of_way v [] w h = (arc v w, [], (λ t c. by_case t (contains_cases (arc v w) [] t c)), (refl, refl))
    where
      by_case : (t : Tuple) → (arc v w ≡ t) ⊎ Contains [] t → Contains body t
      by_case t (inl is) = subst (Contains body) is (from_successor a b body all v w h)
      by_case t (inr none) = absurd (contains_none t none)
  chain_of_way v (x ∷ us) w h =
      let rest = chain_of_way x us w h.1 in
      (arc v x, rest.0 ∷ rest.1, (λ t c. by_case rest.0 rest.1 rest.2 t (contains_cases (arc v x) (rest.0 ∷ rest.1) t c)), (refl, rest.3))
    where
      by_case : (u : Tuple) (ts : List Tuple) → ((t : Tuple) → Contains (u ∷ ts) t → Contains body t) → (t : Tuple) → (arc v x ≡ t) ⊎ Contains (u ∷ ts) t → Contains body t
      by_case u ts in_body t (inl is) = subst (Contains body) is (from_successor a b body all v x h.0)
      by_case u ts in_body t (inr d) = in_body t d

  -- and back
  way_of_chain : (u : Tuple) (ts : List Tuple) (o p : Option Val) → ((t : Tuple) → Contains (u ∷ ts) t → Contains body t) → IsChain o (u ∷ ts) p
      → (v : Val) × (w : Val) × (us : List Val) × (o ≡ Some v) × (p ≡ Some w) × Leads (successors body) v us w
  way_of_chain u [] o p in_body h =
      let s = shaped a b body all u (in_body u (contains_first u [])) in (
        s.0,
        s.1,
        [],
        sym h.0 ∙ ap first_value s.2,
        sym h.1 ∙ ap second_value s.2,
        to_successor a b body all s.0 s.1 (subst (Contains body) s.2 (in_body u (contains_first u []))),
      )
  way_of_chain u (x ∷ ts) o p in_body h =
      let s = shaped a b body all u (in_body u (contains_first u (x ∷ ts))) in
      let rest = way_of_chain x ts (second_value u) p (λ t c. in_body t (contains_later u (x ∷ ts) t c)) h.1 in
      let meets : s.1 ≡ rest.0 = some_is s.1 rest.0 (sym (ap second_value s.2) ∙ rest.3) in
      let step = to_successor a b body all s.0 s.1 (subst (Contains body) s.2 (in_body u (contains_first u (x ∷ ts)))) in
      (s.0, rest.1, rest.0 ∷ rest.2, sym h.0 ∙ ap first_value s.2, rest.4, (subst (Contains (successors body s.0)) meets step, rest.5))

  abbrev closed : List Tuple
  closed = chained_tuples (length body) body

  chain_there : (t : Tuple) → Contains closed t
      → (u : Tuple) × (us : List Tuple) × All (λ w. Contains body w) (u ∷ us) × IsChain (first_value t) (u ∷ us) (second_value t)
  chain_there t c =
      let p = chained_lead a b body all (length body) t c in
      let q = chain_of_way p.0 p.2 p.1 p.3 in
      (q.0, q.1, All-from_members (Contains body) (q.0 ∷ q.1) q.2, subst (λ s. IsChain (first_value s) (q.0 ∷ q.1) (second_value s)) (sym p.4) q.3)

  chain_back : (t : Tuple) → IsTupleOf (a ∷ b ∷ []) t → (u : Tuple) (us : List Tuple) → All (λ w. Contains body w) (u ∷ us)
      → IsChain (first_value t) (u ∷ us) (second_value t) → Contains closed t
  chain_back t p u us there chain =
      let s = shaped a b (t ∷ []) (All-from_members (IsTupleOf (a ∷ b ∷ [])) (t ∷ []) (λ x c. one x (contains_cases t [] x c))) t (contains_first t []) in
      let q = way_of_chain u us (first_value t) (second_value t) (λ x c. All-contains (Contains body) (u ∷ us) x there c) chain in
      let first = some_is q.0 s.0 (sym q.3 ∙ ap first_value s.2) in
      let second = some_is q.1 s.1 (sym q.4 ∙ ap second_value s.2) in
      subst (Contains closed) ((λ i. arc (first i) (second i)) ∙ sym s.2) (led_chained a b body all q.0 q.2 q.1 q.5)
    where
      one : (x : Tuple) → (t ≡ x) ⊎ Contains [] x → IsTupleOf (a ∷ b ∷ []) x
      one x (inl is) = subst (IsTupleOf (a ∷ b ∷ [])) is p
      one x (inr none) = absurd (contains_none x none)

  closed_again : (t u : Tuple) → Contains closed t → Contains closed u → is_followed_by t u ≡ true → Contains closed (chained_tuple t u)
  closed_again t u c d e =
      let p = chained_lead a b body all (length body) t c in
      let q = chained_lead a b body all (length body) u d in
      let meets : eq_by_cmp value_cmp p.1 q.0 ≡ true = (λ i. is_followed_by (sym p.4 i) (sym q.4 i)) ∙ e in
      let same = (value_Decides p.1 q.0).0 meets in
      subst (Contains closed) (λ i. chained_tuple (sym p.4 i) (sym q.4 i))
      (led_chained a b body all p.0 (p.2 ++ p.1 ∷ q.2) q.1
      (leads_joined (successors body) p.0 p.2 p.1 q.2 q.1 p.3 (subst (λ x. Leads (successors body) x q.2 q.1) (sym same) q.3)))

  closed_includes : (t : Tuple) → Contains body t → Contains closed t
  closed_includes t c =
      let s = shaped a b body all t c in
      subst (Contains closed) (sym s.2) (led_chained a b body all s.0 [] s.1 (to_successor a b body all s.0 s.1 (subst (Contains body) s.2 c)))

  -- a transitive relation that includes the tuples has all of them
  module _ (s : Relation) (transitive : IsTransitive s) (includes : (t : Tuple) → Contains body t → IsIn t s) where
    along : (v x : Val) (us : List Val) (w : Val) → IsIn (arc v x) s → Leads (successors body) x us w → IsIn (arc v w) s
    along v x [] w there h = transitive (arc v x) (arc x w) there (includes (arc x w) (from_successor a b body all x w h)) (itself a b body all x)
    along v x (u ∷ us) w there h =
        along v u us w (transitive (arc v x) (arc x u) there (includes (arc x u) (from_successor a b body all x u h.0)) (itself a b body all x)) h.1

    way_in : (v : Val) (us : List Val) (w : Val) → Leads (successors body) v us w → IsIn (arc v w) s
    way_in v [] w h = includes (arc v w) (from_successor a b body all v w h)
    way_in v (u ∷ us) w h = along v u us w (includes (arc v u) (from_successor a b body all v u h.0)) h.1

    closed_in : (t : Tuple) → Contains closed t → IsIn t s
    closed_in t c = let p = chained_lead a b body all (length body) t c in subst (λ x. IsIn x s) (sym p.4) (way_in p.0 p.2 p.1 p.3)

  closed_tuples_headed : All (IsTupleOf (a ∷ b ∷ [])) closed
  closed_tuples_headed =
      All-from_members (IsTupleOf (a ∷ b ∷ [])) closed
      (λ t c. let p = chained_lead a b body all (length body) t c in subst (IsTupleOf (a ∷ b ∷ [])) (sym p.4) (led_headed a b body all p.0 p.2 p.1 p.3))

-- ---- relations

module _ (r : Relation) (p : IsRelation r) (two : (a : Attribute) × (b : Attribute) × (r.heading ≡ a ∷ b ∷ [])) where
  headed : All (IsTupleOf (two.0 ∷ two.1 ∷ [])) r.body
  headed = subst (λ h. All (IsTupleOf h) r.body) two.2 (rows_headed r p)

  in_closed : (t : Tuple) → IsIn t (closure r) → Contains (chained_tuples (length r.body) r.body) t
  in_closed t c = (set_members (chained_tuples (length r.body) r.body) t).0 c

  in_closure : (t : Tuple) → Contains (chained_tuples (length r.body) r.body) t → IsIn t (closure r)
  in_closure t c = (set_members (chained_tuples (length r.body) r.body) t).1 c

  is_transitive : IsTransitive (closure r)
  is_transitive t u c d e = in_closure (chained_tuple t u) (closed_again two.0 two.1 r.body headed t u (in_closed t c) (in_closed u d) e)

  includes_operand : (t : Tuple) → IsIn t r → IsIn t (closure r)
  includes_operand t c = in_closure t (closed_includes two.0 two.1 r.body headed t c)

  is_least : (s : Relation) → IsTransitive s → ((t : Tuple) → IsIn t r → IsIn t s) → (t : Tuple) → IsIn t (closure r) → IsIn t s
  is_least s transitive includes t c = closed_in two.0 two.1 r.body headed s transitive includes t (in_closed t c)

  IsRelation-closure : IsRelation (closure r)
  IsRelation-closure =
      IsRelation-relation_of r.heading (chained_tuples (length r.body) r.body) p.2
      (subst (λ h. All (IsTupleOf h) (chained_tuples (length r.body) r.body)) (sym two.2) (closed_tuples_headed two.0 two.1 r.body headed))

-- the closure is a relation
pub closure_is_relation : (r : Relation) → IsRelation r → is_closable r.heading ≡ true → IsRelation (closure r)
closure_is_relation r p e = IsRelation-closure r p (closable_two r.heading e)

pub closure_by_chains : ClosureByChains
closure_by_chains r t p e q =
    let two = closable_two r.heading e in (
      (λ c. chain_there two.0 two.1 r.body (headed r p two) t (in_closed r p two t c)),
      (λ c. in_closure r p two t (chain_back two.0 two.1 r.body (headed r p two) t (subst (λ h. IsTupleOf h t) two.2 q) c.0 c.1 c.2 c.3)),
    )

pub closure_is_least : ClosureIsLeast
closure_is_least r p e = let two = closable_two r.heading e in (is_transitive r p two, includes_operand r p two, is_least r p two)

pub closure_is_idempotent : ClosureIsIdempotent
closure_is_idempotent r p e =
    let two = closable_two r.heading e in
    let q = IsRelation-closure r p two in
    by_members (closure (closure r)) (closure r) (IsRelation-closure (closure r) q two) q refl
    (λ t. (is_least (closure r) q two (closure r) (is_transitive r p two) (λ u c. c) t, includes_operand (closure r) q two t))
