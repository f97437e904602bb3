-- The closure's tuples are the pairs of a value and one to which it leads.
use Rattle.std.proofs.Common.{◌≡◌, ◌∙◌, ◌⊎◌, inl, inr, ◌+◌, ◌≤◌, ap, arith, sym, refl, subst, ℕ, zero, suc, Bool, true, false, List, [], ◌∷◌, ◌++◌, filter, get_or, length, map, Option, None, Some, true≢false}
use Rattle.std.specs.Prelude.{◌||◌, if◌then◌else◌}
use Rattle.std.specs.List.{All, Contains, flat_map}
use Rattle.std.specs.Ordering.{eq_by_cmp}
use Rattle.std.proofs.lemmas.Cmp.{eq_by_cmp_equiv}
use Rattle.std.proofs.lemmas.List.{length-map}
use Rattle.std.proofs.lemmas.List.Elements.{All-contains, Contains-append_cases, Contains-append_left, Contains-append_right}
use Rattle.td_types.specs.model.Headings.{is_closable}
use Rattle.td_types.specs.model.Types.{Attribute, Heading, attribute_names}
use Rattle.td_value.specs.model.Sets.{has}
use Rattle.td_value.specs.model.Values.{HaveSameMembers, IsTupleOf, Tuple, Val, boolean, heading_of, type_of, value_cmp}
use Rattle.td_value.specs.code.ValueOrder.{order_total, value_Decides}
use Rattle.td_algebra.proofs.Lists.{contains_cases, contains_filter, contains_first, contains_flat_map, contains_later, contains_map, contains_none}
use Rattle.td_algebra.proofs.Relations.{All-from_members}
use Rattle.td_group.specs.model.Closure.{chained_tuple, chained_tuples, is_followed_by}
use Rattle.td_group.specs.code.Successors.{ArePairsFrom, HaveSameValues, Leads, led_to, ends_of, pair_of, starts_in, start_of, successors}
use Rattle.td_group.proofs.Graphs.{fewer_left, left_of, leads_more, nothing_left}

-- ---- ways without repetition

abbrev AreApart : List Val → Type 0
AreApart [] = Unit {0}
AreApart (u ∷ us) = (has value_cmp u us ≡ false) × AreApart us

module _ (next : Val → List Val) where
  -- the way from a value that is passed
  rest_of_way : (x : Val) (us : List Val) (u w : Val) → Leads next x us w → AreApart us → has value_cmp u us ≡ true
      → (ys : List Val) × Leads next u ys w × AreApart ys × (has value_cmp u ys ≡ false)
  rest_of_way x [] u w h apart there = absurd (true≢false (sym there))
  rest_of_way x (y ∷ us) u w h apart there = by_test (rest_of_way y us u w h.1 apart.1) (eq_by_cmp value_cmp u y) refl
    where
      by_test : (has value_cmp u us ≡ true → (ys : List Val) × Leads next u ys w × AreApart ys × (has value_cmp u ys ≡ false)) → (b : Bool) → eq_by_cmp value_cmp u y ≡ b
          → (ys : List Val) × Leads next u ys w × AreApart ys × (has value_cmp u ys ≡ false)
      by_test rest true e =
          let same = (value_Decides u y).0 e in
          (us, subst (λ z. Leads next z us w) (sym same) h.1, apart.1, ap (λ z. has value_cmp z us) same ∙ apart.0)
      by_test rest false e = rest (ap (λ b. b || has value_cmp u us) (sym e) ∙ there)

  pub shortened : (v : Val) (us : List Val) (w : Val) → Leads next v us w → (ys : List Val) × Leads next v ys w × AreApart ys
  shortened v [] w h = ([], h, tt)
  shortened v (u ∷ us) w h = by_test (shortened u us w h.1)
    where
      with_first : (ys : List Val) → Leads next u ys w → AreApart ys → (b : Bool) → has value_cmp u ys ≡ b → (zs : List Val) × Leads next v zs w × AreApart zs
      with_first ys led apart true e = let s = rest_of_way u ys u w led apart e in (u ∷ s.0, (h.0, s.1), (s.3, s.2))
      with_first ys led apart false e = (u ∷ ys, (h.0, led), (e, apart))

      by_test : ((ys : List Val) × Leads next u ys w × AreApart ys) → (zs : List Val) × Leads next v zs w × AreApart zs
      by_test r = with_first r.0 r.1 r.2 (has value_cmp u r.0) refl

  pub first_step : (v : Val) (us : List Val) (w : Val) → Leads next v us w → (x : Val) × Contains (next v) x
  first_step v [] w h = (w, h)
  first_step v (u ∷ us) w h = (u, h.0)

  pub last_step : (v : Val) (us : List Val) (w : Val) → Leads next v us w → (y : Val) × Contains (next y) w
  last_step v [] w h = (v, h)
  last_step v (u ∷ us) w h = last_step u us w h.1

  pub leads_alike : (other : Val → List Val) → ((v : Val) → next v ≡ other v) → (v : Val) (us : List Val) (w : Val) → Leads next v us w → Leads other v us w
  leads_alike other same v [] w h = subst (λ vs. Contains vs w) (same v) h
  leads_alike other same v (u ∷ us) w h = (subst (λ vs. Contains vs u) (same v) h.0, leads_alike other same u us w h.1)

-- values that are apart are no more than all
apart_bounded : (us all : List Val) → AreApart us → ((u : Val) → Contains us u → Contains all u) → length us + left_of us all ≤ length all
apart_bounded [] all apart within = let none = nothing_left all in omega (arith, none)
apart_bounded (u ∷ us) all apart within =
    let rest = apart_bounded us all apart.1 (λ x c. within x (contains_later u us x c)) in
    let less = fewer_left u us (u ∷ us) (λ q. refl) all apart.0 (within u (contains_first u us)) in
    omega (arith, rest, less)

-- ---- tuples of two attributes

shape : (a b : Attribute) (t : Tuple) → heading_of t ≡ a ∷ b ∷ [] → (v : Val) × (w : Val) × (t ≡ pair_of (a.0 ∷ b.0 ∷ []) v w)
shape a b [] e = absurd (let n : 0 ≡ 2 = ap length e in omega arith)
shape a b (d ∷ []) e = absurd (let n : 1 ≡ 2 = ap length e in omega arith)
shape a b (d ∷ f ∷ []) e =
    let p : d.0 ≡ a.0 = ap (λ h. get_or (attribute_names h) 0 []) e in
    let q : f.0 ≡ b.0 = ap (λ h. get_or (attribute_names h) 1 []) e in
    (d.1, f.1, λ i. (p i, d.1) ∷ (q i, f.1) ∷ [])
shape a b (d ∷ f ∷ g ∷ t) e = absurd (let n = ap length e in omega (arith, n))

-- what leads from the one and to the other has the heading
pub pair_headed : (a b : Attribute) (v x y w : Val) → IsTupleOf (a ∷ b ∷ []) (pair_of (a.0 ∷ b.0 ∷ []) v x) → IsTupleOf (a ∷ b ∷ []) (pair_of (a.0 ∷ b.0 ∷ []) y w)
    → IsTupleOf (a ∷ b ∷ []) (pair_of (a.0 ∷ b.0 ∷ []) v w)
pair_headed a b v x y w p q =
    let first : type_of v ≡ a.1 = ap (λ (h : Heading). (get_or h 0 a).1) p.1 in
    let second : type_of w ≡ b.1 = ap (λ (h : Heading). (get_or h 1 b).1) q.1 in
    (((p.0.0.0, p.0.0.1, (q.0.0.2.0, q.0.0.2.1, tt)), p.0.1), (λ i. (a.0, first i) ∷ (b.0, second i) ∷ []), p.2)

module _ (a b : Attribute) (body : List Tuple) (all : All (IsTupleOf (a ∷ b ∷ [])) body) where
  abbrev pair : Val → Val → Tuple
  pair = pair_of (a.0 ∷ b.0 ∷ [])

  pub shaped : (t : Tuple) → Contains body t → (v : Val) × (w : Val) × (t ≡ pair v w)
  shaped t c = shape a b t (All-contains (IsTupleOf (a ∷ b ∷ [])) body t all c).1

  pub itself : (v : Val) → eq_by_cmp value_cmp v v ≡ true
  itself v = (eq_by_cmp_equiv order_total).refl v

  -- a successor is where a tuple leads
  pub from_successor : (v w : Val) → Contains (successors body v) w → Contains body (pair v w)
  from_successor v w c =
      let p = (contains_flat_map (λ t. led_to v (ends_of t)) body w).0 c in
      let s = shaped p.0 p.1 in
      by_test s.0 s.1 (subst (Contains body) s.2 p.1) (eq_by_cmp value_cmp v s.0) refl (subst (λ t. Contains (led_to v (ends_of t)) w) s.2 p.2)
    where
      by_test : (x y : Val) → Contains body (pair x y) → (q : Bool) → eq_by_cmp value_cmp v x ≡ q → Contains (if q then y ∷ [] else []) w → Contains body (pair v w)
      by_test x y there true e d = by_case (contains_cases y [] w d)
        where
          by_case : (y ≡ w) ⊎ Contains [] w → Contains body (pair v w)
          by_case (inl is) = subst (λ z. Contains body (pair z w)) (sym ((value_Decides v x).0 e)) (subst (λ z. Contains body (pair x z)) is there)
          by_case (inr none) = absurd (contains_none w none)
      by_test x y there false e d = absurd (contains_none w d)

  pub to_successor : (v w : Val) → Contains body (pair v w) → Contains (successors body v) w
  to_successor v w c =
      (contains_flat_map (λ t. led_to v (ends_of t)) body w).1 (pair v w, c, rw (itself v) (contains_first w []))

  pub is_start : (v w : Val) → Contains (successors body v) w → Contains (starts_in body) v
  is_start v w c = (contains_flat_map (λ t. start_of (ends_of t)) body v).1 (pair v w, from_successor v w c, contains_first v [])

  -- ---- chains are ways

  -- a chained tuple leads from a value to one to which that leads
  pub chained_lead : (n : ℕ) (t : Tuple) → Contains (chained_tuples n body) t → (v : Val) × (w : Val) × (us : List Val) × Leads (successors body) v us w × (t ≡ pair v w)
  chained_lead zero t c = let s = shaped t c in (s.0, s.1, [], to_successor s.0 s.1 (subst (Contains body) s.2 c), s.2)
  chained_lead (suc n) t c =
      by_case (chained_lead n) (Contains-append_cases body (flat_map (λ p. map (chained_tuple p) (filter (is_followed_by p) body)) (chained_tuples n body)) t c)
    where
      by_case : ((p : Tuple) → Contains (chained_tuples n body) p → (v : Val) × (w : Val) × (us : List Val) × Leads (successors body) v us w × (p ≡ pair v w))
          → Contains body t ⊎ Contains (flat_map (λ p. map (chained_tuple p) (filter (is_followed_by p) body)) (chained_tuples n body)) t
          → (v : Val) × (w : Val) × (us : List Val) × Leads (successors body) v us w × (t ≡ pair v w)
      by_case rest (inl d) = let s = shaped t d in (s.0, s.1, [], to_successor s.0 s.1 (subst (Contains body) s.2 d), s.2)
      by_case rest (inr d) =
          let p = (contains_flat_map (λ p. map (chained_tuple p) (filter (is_followed_by p) body)) (chained_tuples n body) t).0 d in
          let u = (contains_map (chained_tuple p.0) (filter (is_followed_by p.0) body) t).0 p.2 in
          let f = (contains_filter (is_followed_by p.0) body u.0).0 u.1 in
          let way = rest p.0 p.1 in
          let s = shaped u.0 f.0 in
          let meets : eq_by_cmp value_cmp way.1 s.0 ≡ true = (λ i. is_followed_by (sym way.4 i) (sym s.2 i)) ∙ f.1 in
          let step : Contains (successors body way.1) s.1 =
          subst (λ z. Contains (successors body z) s.1) (sym ((value_Decides way.1 s.0).0 meets)) (to_successor s.0 s.1 (subst (Contains body) s.2 f.0)) in
          (way.0, s.1, way.2 ++ way.1 ∷ [], leads_more (successors body) way.0 way.2 way.1 s.1 way.3 step, sym u.2 ∙ (λ i. chained_tuple (way.4 i) (s.2 i)))

  -- ---- ways are chains

  one_more : (m : ℕ) (v x w : Val) → Contains (chained_tuples m body) (pair v x) → Contains (successors body x) w → Contains (chained_tuples (suc m) body) (pair v w)
  one_more m v x w c d =
      Contains-append_right body (flat_map (λ p. map (chained_tuple p) (filter (is_followed_by p) body)) (chained_tuples m body)) (pair v w)
      ((contains_flat_map (λ p. map (chained_tuple p) (filter (is_followed_by p) body)) (chained_tuples m body) (pair v w)).1 (
        pair v x,
        c,
        (contains_map (chained_tuple (pair v x)) (filter (is_followed_by (pair v x)) body) (pair v w)).1 (
          pair x w,
          (contains_filter (is_followed_by (pair v x)) body (pair x w)).1 (from_successor x w d, itself x),
          refl,
        ),
      ))

  several_more : (m : ℕ) (v x : Val) (us : List Val) (w : Val) → Contains (chained_tuples m body) (pair v x) → Leads (successors body) x us w
      → (n : ℕ) × (n ≡ length us + 1 + m) × Contains (chained_tuples n body) (pair v w)
  several_more m v x [] w c h = (suc m, omega arith, one_more m v x w c h)
  several_more m v x (u ∷ us) w c h = let r = several_more (suc m) v u us w (one_more m v x u c h.0) h.1 in (r.0, (let n = r.1 in omega (arith, n)), r.2)

  longer : (m n : ℕ) (t : Tuple) → n ≤ m → Contains (chained_tuples n body) t → Contains (chained_tuples m body) t
  longer zero zero t l c = c
  longer zero (suc n) t l c = absurd (omega (arith, l))
  longer (suc m) zero t l c = Contains-append_left body (flat_map (λ p. map (chained_tuple p) (filter (is_followed_by p) body)) (chained_tuples m body)) t c
  longer (suc m) (suc n) t l c =
      by_case (λ p d. longer m n p (omega (arith, l)) d) (Contains-append_cases body (flat_map (λ p. map (chained_tuple p) (filter (is_followed_by p) body)) (chained_tuples n body)) t c)
    where
      by_case : ((p : Tuple) → Contains (chained_tuples n body) p → Contains (chained_tuples m body) p)
          → Contains body t ⊎ Contains (flat_map (λ p. map (chained_tuple p) (filter (is_followed_by p) body)) (chained_tuples n body)) t → Contains (chained_tuples (suc m) body) t
      by_case rest (inl d) = Contains-append_left body (flat_map (λ p. map (chained_tuple p) (filter (is_followed_by p) body)) (chained_tuples m body)) t d
      by_case rest (inr d) =
          let p = (contains_flat_map (λ p. map (chained_tuple p) (filter (is_followed_by p) body)) (chained_tuples n body) t).0 d in
          Contains-append_right body (flat_map (λ p. map (chained_tuple p) (filter (is_followed_by p) body)) (chained_tuples m body)) t
          ((contains_flat_map (λ p. map (chained_tuple p) (filter (is_followed_by p) body)) (chained_tuples m body) t).1 (p.0, rest p.0 p.1, p.2))

  abbrev end_value : Option (Val × Val) → Val
  end_value None = boolean false
  end_value (Some e) = e.1

  abbrev ends : List Val
  ends = map (λ t. end_value (ends_of t)) body

  is_end : (v w : Val) → Contains (successors body v) w → Contains ends w
  is_end v w c = (contains_map (λ t. end_value (ends_of t)) body w).1 (pair v w, from_successor v w c, refl)

  passed_ends : (v : Val) (us : List Val) (w : Val) → Leads (successors body) v us w → (u : Val) → Contains us u → Contains ends u
  passed_ends v [] w h u c = absurd (contains_none u c)
  passed_ends v (x ∷ us) w h u c = by_case (passed_ends x us w h.1 u) (contains_cases x us u c)
    where
      by_case : (Contains us u → Contains ends u) → (x ≡ u) ⊎ Contains us u → Contains ends u
      by_case rest (inl is) = subst (Contains ends) is (is_end v x h.0)
      by_case rest (inr d) = rest d

  -- a value to which another leads is reached by a chain of no more tuples than there are
  pub led_chained : (v : Val) (us : List Val) (w : Val) → Leads (successors body) v us w → Contains (chained_tuples (length body) body) (pair v w)
  led_chained v us w h =
      let s = shortened (successors body) v us w h in
      let low = apart_bounded s.0 ends s.2 (passed_ends v s.0 w s.1) in
      by_way s.0 s.1 (let n = length-map body (λ t. end_value (ends_of t)) in omega (arith, low, n))
    where
      by_way : (ys : List Val) → Leads (successors body) v ys w → length ys ≤ length body → Contains (chained_tuples (length body) body) (pair v w)
      by_way [] led l = longer (length body) 0 (pair v w) (omega arith) (from_successor v w led)
      by_way (y ∷ ys) led l =
          let r = several_more 0 v y ys w (from_successor v y led.0) led.1 in
          longer (length body) r.0 (pair v w) (let n = r.1 in omega (arith, l, n)) r.2

  -- and has the heading
  pub led_headed : (v : Val) (us : List Val) (w : Val) → Leads (successors body) v us w → IsTupleOf (a ∷ b ∷ []) (pair v w)
  led_headed v us w h =
      let f = first_step (successors body) v us w h in
      let l = last_step (successors body) v us w h in
      pair_headed a b v f.0 l.0 w (All-contains (IsTupleOf (a ∷ b ∷ [])) body (pair v f.0) all (from_successor v f.0 f.1))
      (All-contains (IsTupleOf (a ∷ b ∷ [])) body (pair l.0 w) all (from_successor l.0 w l.1))

-- ---- a relation of two attributes of one type

pub closable_two : (h : Heading) → is_closable h ≡ true → (a : Attribute) × (b : Attribute) × (h ≡ a ∷ b ∷ [])
closable_two [] e = absurd (true≢false (sym e))
closable_two (a ∷ []) e = absurd (true≢false (sym e))
closable_two (a ∷ b ∷ []) e = (a, b, refl)
closable_two (a ∷ b ∷ d ∷ h) e = absurd (true≢false (sym e))

module _ (a b : Attribute) (body pairs : List Tuple) (next : Val → List Val) (starts : List Val) (all : All (IsTupleOf (a ∷ b ∷ [])) body)
    (nexts : (v : Val) → next v ≡ successors body v) (are_starts : HaveSameValues starts (starts_in body)) (are : ArePairsFrom next (a.0 ∷ b.0 ∷ []) starts pairs) where
  pub closed_members : HaveSameMembers pairs (chained_tuples (length body) body)
  closed_members t = (there, back)
    where
      there : Contains pairs t → Contains (chained_tuples (length body) body) t
      there c =
          let p = (are t).0 c in
          subst (Contains (chained_tuples (length body) body)) (sym p.5) (led_chained a b body all p.0 p.2 p.1 (leads_alike next (successors body) nexts p.0 p.2 p.1 p.4))

      back : Contains (chained_tuples (length body) body) t → Contains pairs t
      back c =
          let p = chained_lead a b body all (length body) t c in
          let way = leads_alike (successors body) next (λ v. sym (nexts v)) p.0 p.2 p.1 p.3 in
          let f = first_step (successors body) p.0 p.2 p.1 p.3 in
          (are t).1 (p.0, p.1, p.2, (are_starts p.0).1 (is_start a b body all p.0 f.0 f.1), way, p.4)

  pub closed_headed : All (IsTupleOf (a ∷ b ∷ [])) pairs
  closed_headed = All-from_members (IsTupleOf (a ∷ b ∷ [])) pairs headed
    where
      headed : (t : Tuple) → Contains pairs t → IsTupleOf (a ∷ b ∷ []) t
      headed t c =
          let p = (are t).0 c in
          subst (IsTupleOf (a ∷ b ∷ [])) (sym p.5) (led_headed a b body all p.0 p.2 p.1 (leads_alike next (successors body) nexts p.0 p.2 p.1 p.4))
