-- Members of a relation, found by hashes, and numbers in their order.
use Rattle.std.proofs.Common.{◌≡◌, ◌∙◌, ◌+◌, ◌<◌, ◌≤◌, ◌++◌, ℕ, ℤ, suc, Bool, true, false, cond, List, [], ◌∷◌, ap, arith}
use Rattle.std.proofs.Common.{get_or, length, map, refl, subst, sym, take}
use Rattle.std.proofs.lemmas.Bool.{cases_lt}
use Rattle.std.proofs.lemmas.Bool.Decides.{Decides-eqb, Decides-int_eq}
use Rattle.std.proofs.lemmas.Cmp.{int_cmp_total, int_eq_equiv, nat_list_cmp_total, tied_itself}
use Rattle.std.proofs.lemmas.List.{take_more}
use Rattle.std.proofs.lemmas.List.Folds.{list_any-append, list_any_at, list_any_none}
use Rattle.std.proofs.lemmas.List.Sorted.{searchable_from_sorted}
use Rattle.std.proofs.lemmas.Slice.Eq.{slice_eq-Decides}
use Rattle.std.specs.HashSet.{HashSet, contains}
use Rattle.std.specs.List.{All, AllByRecursion, list_any, slice_get, zip}
use Rattle.std.specs.List.Sorted.{IsNonDecreasingBy, IsStrictlySortedBy}
use Rattle.std.specs.Ordering.{int_cmp, int_eq, is_eq, is_lt, ordering_index, ordering_then}
use Rattle.std.specs.declared.cmp.Ordering.{Ordering}
use Rattle.std.specs.declared.cmp.Ordering.TheVariants.{Less, Equal, Greater}
use Rattle.std.specs.Prelude.{◌||◌, ◌-◌, ◌⊎◌, if◌then◌else◌}
use Rattle.std.proofs.Math.Logic.{inl, inr}
use Rattle.td_check.specs.model.OperatorTypes.{same_heading}
use Rattle.td_eval.specs.model.OperatorValues.{comparison_value, tuple_from}
use Rattle.std.specs.Global.{Vec}
use Rattle.std.specs.Prelude.{IfSome, Option, Some, None}
use Rattle.td_eval.specs.model.Worlds.{World}
use Rattle.td_plan.proofs.QuickRows.{of_one}
use Rattle.td_plan.specs.declared.plan.step.Step.{Step}
use Rattle.td_plan.specs.declared.running.hand.Inside.{Inside}
use Rattle.td_plan.specs.code.Plans as plans
use Rattle.td_plan.specs.code.Plans.{plan_value, value_or}
use Rattle.td_plan.specs.code.Hands.{slots_inside}
use Rattle.td_plan.specs.code.Memberships.{AreAllBelow, tuple_inside}
use Rattle.td_plan.specs.code.Quick.{AreInRows, AreQuick}
use Rattle.td_plan.specs.code.QuickInside.{value_inside}
use Rattle.td_plan.specs.code.StepViews.{step_view, steps_view}
use Rattle.td_tree.specs.declared.operator.Comparison.TheVariants as comparisons
use Rattle.td_tree.specs.model.Outcomes.{Outcome, Refused, Valued, gathered, with_both, with_value}
use Rattle.td_types.specs.model.Types as types
use Rattle.td_types.specs.model.Types.{Heading, Type', same_name, type_at}
use Rattle.td_types.specs.code.TypeOrder.{heading_cmp_total}
use Rattle.td_types.specs.code.TypeCode.{unpack_pack}
use Rattle.td_value.proofs.Places.{in_order}
use Rattle.td_value.specs.model.Sets.{has}
use Rattle.td_value.specs.model.Values.{IsAscendingBody, Relation, Tuple, Val, IsTupleOf, boolean, heading_of, integer, relation_value, tuple_cmp, tuple_value}
use Rattle.td_value.specs.code.ValueCode.{unpack_pack_fields, unpack_pack_rows}
use Rattle.td_value.specs.code.Views.{values_of}

either : (b d : Bool) → cond b true d ≡ (d || (b || false))
either true true = refl
either true false = refl
either false true = refl
either false false = refl

-- one item more is hashed, where the test of equality is symmetric
pub one_hashed : {K S : Type 0} (eq : K → K → Bool) → ((x y : K) → eq x y ≡ eq y x) → (old new : HashSet K S) (key : K) (rows : List K)
    (i : ℕ) (row : K) → key ≡ row → i < length rows → row ≡ get_or rows i row → ((t : K) → contains eq new t ≡ cond (eq key t) true (contains eq old t))
    → ((t : K) → contains eq old t ≡ list_any (eq t) (take i rows))
    → (t : K) → contains eq new t ≡ list_any (eq t) (take (i + 1) rows)
one_hashed eq symm old new key rows i row same inside is puts so_far t =
    let next = take_more rows i row inside ∙ ap (λ u. take i rows ++ u ∷ []) (sym is) in
    puts t ∙ ap (λ b. cond b true (contains eq old t)) (symm key t ∙ ap (eq t) same)
    ∙ ap (cond (eq t row) true) (so_far t) ∙ either (eq t row) (list_any (eq t) (take i rows))
    ∙ sym (list_any-append (eq t) (take i rows) (row ∷ [])) ∙ ap (list_any (eq t)) (sym next)

same_itself : (h : Heading) → same_heading h h ≡ true
same_itself h = rw (tied_itself heading_cmp_total h) refl

-- a tuple of a relation's heading is a member, or it is not
is_member : (r : Relation) (x : Tuple) → heading_of x ≡ r.heading
    → comparison_value comparisons.In (tuple_value x) (relation_value r) ≡ Valued (boolean (has tuple_cmp x r.body))
is_member r x h =
    let headed : same_heading (heading_of x) r.heading ≡ true = ap (λ g. same_heading g r.heading) h ∙ same_itself r.heading in
    rw (unpack_pack_fields x, unpack_pack r.heading, unpack_pack_rows r.body, headed) refl

are_members : (r : Relation) (xs : List Tuple) → All (IsTupleOf r.heading) xs
    → map (λ x. comparison_value comparisons.In (tuple_value x) (relation_value r)) xs ≡ map (λ b. Valued (boolean b)) (map (λ x. has tuple_cmp x r.body) xs)
are_members r [] all = refl
are_members r (x ∷ xs) all = λ i. is_member r x (all 0 x (omega arith)).1 i ∷ are_members r xs (λ k d l. all (suc k) d (omega (arith, l))) i

-- which of the tuples that are found in rows are members
pub members_in_rows : (r : Relation) (f : Tuple → Outcome Val) (ts xs : List Tuple) (bs : List Bool) → All (IsTupleOf r.heading) xs → AreInRows tuple_value f ts xs
    → bs ≡ map (λ x. has tuple_cmp x r.body) xs
    → AreInRows boolean (λ t. with_value (f t) (λ v. comparison_value comparisons.In v (relation_value r))) ts bs
members_in_rows r f ts xs bs all found is =
    of_one tuple_value (λ v. comparison_value comparisons.In v (relation_value r)) f ts xs found ∙ are_members r xs all ∙ ap (map (λ b. Valued (boolean b))) (sym is)

-- IN one relation, of the tuples that are made of parts in each tuple of a loop
pub membership_inside : (w : World) (inside : Inside) (left right : Step) (names : List (List ℕ)) (parts : List Step) (rel : Relation) (ts : List Tuple) (found : Option (Vec Bool))
    → step_view left ≡ plans.select (plans.tuple names) (steps_view parts) → ((t : Tuple) → value_inside w inside right t ≡ Valued (relation_value rel))
    → AreQuick boolean (λ t. with_value (tuple_inside w inside names parts t) (λ v. comparison_value comparisons.In v (relation_value rel))) ts found
    → AreQuick boolean (λ t. with_both (value_inside w inside left t) (value_inside w inside right t) (comparison_value comparisons.In)) ts found
membership_inside w inside left right names parts rel ts found tuple same q =
    subst (λ (f : Tuple → Outcome Val). AreQuick boolean f ts found) (λ i t. at t i) q
  where
    both_valued : (o : Outcome Val) (v : Val) → with_value o (λ u. comparison_value comparisons.In u v) ≡ with_both o (Valued v) (comparison_value comparisons.In)
    both_valued (Valued u) v = refl
    both_valued (Refused cs) v = refl

    at : (t : Tuple) → with_value (tuple_inside w inside names parts t) (λ u. comparison_value comparisons.In u (relation_value rel))
        ≡ with_both (value_inside w inside left t) (value_inside w inside right t) (comparison_value comparisons.In)
    at t =
        both_valued (tuple_inside w inside names parts t) (relation_value rel)
        ∙ (λ i. with_both (plan_value w (slots_inside inside t) (sym tuple i)) (sym (same t) i) (comparison_value comparisons.In))

-- ---- tuples of one attribute, all of whose values are numbers

abbrev pub one_number : List ℕ → ℤ → Tuple
one_number n z = (n, integer z) ∷ []

pub one_item : {X : Type 0} (xs : List X) (x : X) → 1 ≤ length xs → length xs < 2 → x ≡ get_or xs 0 x → xs ≡ x ∷ []
one_item [] x least below is = absurd (omega (arith, least))
one_item (y ∷ []) x least below is = ap (λ z. z ∷ []) (sym is)
one_item (y ∷ z ∷ xs) x least below is = absurd (omega (arith, below))

-- a heading of one attribute gives its type to its name alone
pub one_attribute : (n : List ℕ) (h : Heading) → length h ≡ 1 → type_at n h ≡ Some types.integer → h ≡ (n, types.integer) ∷ []
one_attribute n [] one is = absurd (cc)
one_attribute n (a ∷ []) one is = by_name (same_name a.0 n) refl is
  where
    by_name : (b : Bool) → same_name a.0 n ≡ b → (if b then Some a.1 else None) ≡ Some types.integer → a ∷ [] ≡ (n, types.integer) ∷ []
    by_name true same e =
        let name : a.0 ≡ n = (slice_eq-Decides Decides-eqb a.0 n (same_name a.0 n) refl).0 same in
        let type : a.1 ≡ types.integer = cc in
        λ i. (name i, type i) ∷ []
    by_name false same e = absurd (cc)
one_attribute n (a ∷ b ∷ h) one is = absurd (omega (arith, one))

tuple_of_one : (n : List ℕ) (t : Tuple) (z : ℤ) → heading_of t ≡ (n, types.integer) ∷ []
    → value_or (slice_get (values_of t) 0) ≡ Valued (integer z) → t ≡ one_number n z
tuple_of_one n [] z h v = absurd (cc)
tuple_of_one n (e ∷ []) z h v =
    let name : e.0 ≡ n = ap (λ (g : Heading). (get_or {A = List ℕ × Type'} g 0 (n, types.integer)).0) h in
    let value : e.1 ≡ integer z = cc in
    λ i. (name i, value i) ∷ []
tuple_of_one n (e ∷ f ∷ t) z h v = absurd (cc)

-- the tuples of a relation of one such attribute
pub rows_of_one : (n : List ℕ) (h : Heading) (ts : List Tuple) (zs : List ℤ) → h ≡ (n, types.integer) ∷ [] → All (IsTupleOf h) ts
    → AreInRows integer (λ t. value_or (slice_get (values_of t) 0)) ts zs → ts ≡ map (one_number n) zs
rows_of_one n h [] [] headed all is = refl
rows_of_one n h [] (z ∷ zs) headed all is = absurd (cc)
rows_of_one n h (t ∷ ts) [] headed all is = absurd (cc)
rows_of_one n h (t ∷ ts) (z ∷ zs) headed all is =
    let first : value_or (slice_get (values_of t) 0) ≡ Valued (integer z) = cc in
    let rest : AreInRows integer (λ t. value_or (slice_get (values_of t) 0)) ts zs = cc in
    λ i. tuple_of_one n t z ((all 0 t (omega arith)).1 ∙ headed) first i ∷ rows_of_one n h ts zs headed (λ k d l. all (suc k) d (omega (arith, l))) rest i

then_equal : (o : Ordering) → ordering_then o Equal ≡ o
then_equal Less = refl
then_equal Equal = refl
then_equal Greater = refl

tied_numbers : (n : List ℕ) (z y : ℤ) → tuple_cmp (one_number n z) (one_number n y) ≡ int_cmp z y
tied_numbers n z y = rw (tied_itself nat_list_cmp_total n) (then_equal (int_cmp z y))

has_number : (n : List ℕ) (z : ℤ) (ys : List ℤ) → has tuple_cmp (one_number n z) (map (one_number n) ys) ≡ has int_cmp z ys
has_number n z [] = refl
has_number n z (y ∷ ys) = λ i. is_eq (tied_numbers n z y i) || has_number n z ys i

all_above : (n : List ℕ) (y : ℤ) (zs : List ℤ) → AllByRecursion (λ t. tuple_cmp (one_number n y) t ≡ Less) (map (one_number n) zs) → AllByRecursion (λ z. int_cmp y z ≡ Less) zs
all_above n y [] h = tt
all_above n y (z ∷ zs) h = (sym (tied_numbers n y z) ∙ h.0, all_above n y zs h.1)

-- the numbers of tuples that ascend do so too
pub numbers_ascend : (n : List ℕ) (ys : List ℤ) → IsAscendingBody (map (one_number n) ys) → IsStrictlySortedBy int_cmp ys
unfolding IsStrictlySortedBy
numbers_ascend n [] a = tt
numbers_ascend n (y ∷ ys) a = (all_above n y ys a.0, numbers_ascend n ys a.1)

-- ---- whether a number is among numbers that ascend

pub less_from_test : (o : Ordering) → is_lt o ≡ true → o ≡ Less
less_from_test Less h = refl
less_from_test Equal h = absurd (cc)
less_from_test Greater h = absurd (cc)

least : (o : Ordering) → ordering_index o ≤ 0 → o ≡ Less
least Less h = refl
least Equal h = absurd (omega (arith, h))
least Greater h = absurd (omega (arith, h))

most : (o : Ordering) → 2 ≤ ordering_index o → o ≡ Greater
most Less h = absurd (omega (arith, h))
most Equal h = absurd (omega (arith, h))
most Greater h = refl

searchable : (ys : List ℤ) (z : ℤ) → IsStrictlySortedBy int_cmp ys → IsNonDecreasingBy (λ y. ordering_index (int_cmp y z)) ys
searchable ys z sorted =
    searchable_from_sorted int_cmp_total (λ (y : ℤ). y) ys z (in_order int_cmp int_cmp_total (λ x y e. (Decides-int_eq x y).0 (ap is_eq e)) ys sorted)

-- the number that is at a place
abbrev pub IsThere : List ℤ → ℕ → ℤ → Type 0
IsThere ys place y = (place < length ys) × ((d : ℤ) → y ≡ get_or ys place d)

-- where one is below the number, so are all before it
pub are_before : (ys : List ℤ) (place : ℕ) (z y : ℤ) → IsStrictlySortedBy int_cmp ys → IsThere ys (place - 1) y → int_cmp y z ≡ Less → AreAllBelow ys place z
are_before ys place z y sorted there below k d before inside =
    let last : int_cmp (get_or ys (place - 1) d) z ≡ Less = ap (λ x. int_cmp x z) (sym (there.1 d)) ∙ below in
    least (int_cmp (get_or ys k d) z)
    (subst (λ o. ordering_index (int_cmp (get_or ys k d) z) ≤ ordering_index o) last (searchable ys z sorted k (place - 1) d (omega (arith, before)) there.0))

other : (y z : ℤ) (o : Ordering) → int_cmp y z ≡ o → is_eq o ≡ false → int_eq z y ≡ false
other y z o is apart = int_eq_equiv.symm z y ∙ ap is_eq is ∙ apart

-- no member is after those below the number
pub is_behind_all : (ys : List ℤ) (place : ℕ) (z : ℤ) → AreAllBelow ys place z → length ys ≤ place → has int_cmp z ys ≡ false
is_behind_all ys place z before past =
    list_any_none (int_eq z) ys (λ k d inside. other (get_or ys k d) z Less (before k d (omega (arith, past, inside)) inside) refl)

-- the member after those below the number is above it
pub is_between : (ys : List ℤ) (place : ℕ) (z y : ℤ) → IsStrictlySortedBy int_cmp ys → AreAllBelow ys place z → IsThere ys place y → int_cmp y z ≡ Greater
    → has int_cmp z ys ≡ false
is_between ys place z y sorted before there above = list_any_none (int_eq z) ys (λ k d inside. at k d inside (cases_lt k place))
  where
    at : (k : ℕ) (d : ℤ) → k < length ys → (k < place) ⊎ (place ≤ k) → int_eq z (get_or ys k d) ≡ false
    at k d inside (inl l) = other (get_or ys k d) z Less (before k d l inside) refl
    at k d inside (inr l) =
        let here : int_cmp (get_or ys place d) z ≡ Greater = ap (λ x. int_cmp x z) (sym (there.1 d)) ∙ above in
        other (get_or ys k d) z Greater
        (most (int_cmp (get_or ys k d) z)
        (subst (λ o. ordering_index o ≤ ordering_index (int_cmp (get_or ys k d) z)) here (searchable ys z sorted place k d l inside)))
        refl

-- a member is the number
pub stands_there : (ys : List ℤ) (place : ℕ) (z y : ℤ) → IsThere ys place y → int_cmp y z ≡ Equal → has int_cmp z ys ≡ true
stands_there ys place z y there same =
    list_any_at (int_eq z) ys place z there.0
    (ap (int_eq z) (sym (there.1 z)) ∙ int_eq_equiv.symm z y ∙ ap is_eq same)

are_number_members : (n : List ℕ) (r : Relation) (ys zs : List ℤ) → r.heading ≡ (n, types.integer) ∷ [] → r.body ≡ map (one_number n) ys
    → map (λ z. comparison_value comparisons.In (tuple_value (one_number n z)) (relation_value r)) zs
    ≡ map (λ b. Valued (boolean b)) (map (λ z. has int_cmp z ys) zs)
are_number_members n r ys [] headed body = refl
are_number_members n r ys (z ∷ zs) headed body =
    let member =
    is_member r (one_number n z) (sym headed) ∙ ap (λ b. Valued (boolean b)) (ap (has tuple_cmp (one_number n z)) body ∙ has_number n z ys) in
    λ i. member i ∷ are_number_members n r ys zs headed body i

made_of_one : (n : List ℕ) (o : Outcome Val) (k : Val → Outcome Val)
    → with_value (with_value (gathered (o ∷ [])) (λ vs. tuple_from (zip (n ∷ []) vs))) k ≡ with_value o (λ v. k (tuple_value ((n, v) ∷ [])))
made_of_one n (Valued v) k = refl
made_of_one n (Refused cs) k = refl

-- which of the numbers that a part gives in rows are members
pub numbers_in_rows : (n : List ℕ) (part : Step) (w : World) (inside : Inside) (r : Relation) (ts : List Tuple) (zs ys : List ℤ) (found : Option (Vec Bool))
    → r.heading ≡ (n, types.integer) ∷ [] → r.body ≡ map (one_number n) ys
    → AreInRows integer (value_inside w inside part) ts zs → IfSome found (λ bs. bs.items ≡ map (λ z. has int_cmp z ys) zs)
    → AreQuick boolean (λ t. with_value (tuple_inside w inside (n ∷ []) (part ∷ []) t) (λ v. comparison_value comparisons.In v (relation_value r))) ts found
numbers_in_rows n part w inside r ts zs ys None headed body numbers is = tt
numbers_in_rows n part w inside r ts zs ys (Some bs) headed body numbers is =
    let k = λ (v : Val). comparison_value comparisons.In v (relation_value r) in
    (λ i. map (λ t. made_of_one n (value_inside w inside part t) k i) ts)
    ∙ of_one integer (λ v. k (tuple_value ((n, v) ∷ []))) (value_inside w inside part) ts zs numbers
    ∙ are_number_members n r ys zs headed body ∙ ap (map (λ b. Valued (boolean b))) (sym is)
