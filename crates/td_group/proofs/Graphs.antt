-- Values that are reached along successors, one after another.
use Rattle.std.proofs.Common.{◌≡◌, ◌∙◌, ◌⊎◌, inl, inr, ◌+◌, ◌<◌, ◌≤◌, ap, arith, sym, refl, subst, ℕ, suc, Bool, true, false, List, [], ◌∷◌, ◌++◌, append-nil, append_assoc, filter, get_or, length, not, take, true≢false}
use Rattle.std.specs.Prelude.{◌||◌, if◌then◌else◌}
use Rattle.std.specs.List.{Contains}
use Rattle.std.specs.Ordering.{eq_by_cmp}
use Rattle.std.proofs.lemmas.Cmp.{eq_by_cmp_equiv}
use Rattle.std.proofs.lemmas.List.{length_push, take-append-le, take_all, take_more}
use Rattle.std.proofs.lemmas.List.Elements.{Contains-append_cases, Contains-append_left, Contains-append_right}
use Rattle.std.proofs.lemmas.List.Folds.{list_any-append}
use Rattle.std.proofs.lemmas.Map.Views.{Contains-from_any, list_any-from_Contains}
use Rattle.td_value.specs.model.Sets.{has}
use Rattle.td_value.specs.model.Values.{Val, value_cmp}
use Rattle.td_value.specs.code.ValueOrder.{order_total, value_Decides}
use Rattle.td_algebra.proofs.Lists.{contains_cases, contains_first, contains_later, contains_none}
use Rattle.td_group.specs.code.Successors.{AreReached, Leads, with_value_added, all_added}

-- a list contains what the test finds, and the test finds what a list contains
pub value_there : (v : Val) (vs : List Val) → has value_cmp v vs ≡ true → Contains vs v
value_there v vs h = Contains-from_any (λ s u e. (value_Decides s u).0 e) v vs h

pub value_found : (v : Val) (vs : List Val) → Contains vs v → has value_cmp v vs ≡ true
value_found v vs c = list_any-from_Contains (eq_by_cmp_equiv order_total) v vs c

-- ---- one value more, unless it is there

or_false : (b : Bool) → (b || false) ≡ b
or_false true = refl
or_false false = refl

turned : (b c : Bool) → (b || c) ≡ (c || b)
turned true true = refl
turned true false = refl
turned false true = refl
turned false false = refl

pub has-pushed : (q v : Val) (found : List Val) → has value_cmp q (found ++ v ∷ []) ≡ (eq_by_cmp value_cmp q v || has value_cmp q found)
has-pushed q v found =
    list_any-append (eq_by_cmp value_cmp q) found (v ∷ []) ∙ turned (has value_cmp q found) (eq_by_cmp value_cmp q v || false)
    ∙ ap (λ b. b || has value_cmp q found) (or_false (eq_by_cmp value_cmp q v))

pub has-again : (q v : Val) (found : List Val) → has value_cmp v found ≡ true → has value_cmp q found ≡ (eq_by_cmp value_cmp q v || has value_cmp q found)
has-again q v found there = by_test (eq_by_cmp value_cmp q v) refl
  where
    by_test : (b : Bool) → eq_by_cmp value_cmp q v ≡ b → has value_cmp q found ≡ (b || has value_cmp q found)
    by_test true e = ap (λ u. has value_cmp u found) ((value_Decides q v).0 e) ∙ there
    by_test false e = refl

pub has-added : (q v : Val) (found : List Val) → has value_cmp q (with_value_added found v) ≡ (eq_by_cmp value_cmp q v || has value_cmp q found)
has-added q v found = by_test (has value_cmp v found) refl
  where
    by_test : (b : Bool) → has value_cmp v found ≡ b → has value_cmp q (if b then found else found ++ v ∷ []) ≡ (eq_by_cmp value_cmp q v || has value_cmp q found)
    by_test true e = has-again q v found e
    by_test false e = has-pushed q v found

-- what was there, and the value, and nothing else
added_keeps : (found : List Val) (v q : Val) → Contains found q → Contains (with_value_added found v) q
added_keeps found v q c = by_test (has value_cmp v found)
  where
    by_test : (b : Bool) → Contains (if b then found else found ++ v ∷ []) q
    by_test true = c
    by_test false = Contains-append_left found (v ∷ []) q c

added_has : (found : List Val) (v : Val) → Contains (with_value_added found v) v
added_has found v = by_test (has value_cmp v found) refl
  where
    by_test : (b : Bool) → has value_cmp v found ≡ b → Contains (if b then found else found ++ v ∷ []) v
    by_test true e = value_there v found e
    by_test false e = Contains-append_right found (v ∷ []) v (contains_first v [])

added_only : (found : List Val) (v q : Val) → Contains (with_value_added found v) q → Contains found q ⊎ (v ≡ q)
added_only found v q c = by_test (has value_cmp v found) c
  where
    single : (v ≡ q) ⊎ Contains [] q → Contains found q ⊎ (v ≡ q)
    single (inl is) = inr is
    single (inr none) = absurd (contains_none q none)

    by_case : Contains found q ⊎ Contains (v ∷ []) q → Contains found q ⊎ (v ≡ q)
    by_case (inl there) = inl there
    by_case (inr one) = single (contains_cases v [] q one)

    by_test : (b : Bool) → Contains (if b then found else found ++ v ∷ []) q → Contains found q ⊎ (v ≡ q)
    by_test true d = inl d
    by_test false d = by_case (Contains-append_cases found (v ∷ []) q d)

added_longer : (found : List Val) (v : Val) → (rest : List Val) × (with_value_added found v ≡ found ++ rest)
added_longer found v = by_test (has value_cmp v found)
  where
    by_test : (b : Bool) → (rest : List Val) × ((if b then found else found ++ v ∷ []) ≡ found ++ rest)
    by_test true = ([], sym (append-nil found))
    by_test false = (v ∷ [], refl)

-- ---- several values more

pub all_keep : (found vs : List Val) (q : Val) → Contains found q → Contains (all_added found vs) q
all_keep found [] q c = c
all_keep found (v ∷ vs) q c = all_keep (with_value_added found v) vs q (added_keeps found v q c)

pub all_there : (found vs : List Val) (q : Val) → Contains vs q → Contains (all_added found vs) q
all_there found [] q c = absurd (contains_none q c)
all_there found (v ∷ vs) q c = by_case (all_there (with_value_added found v) vs q) (contains_cases v vs q c)
  where
    by_case : (Contains vs q → Contains (all_added (with_value_added found v) vs) q) → (v ≡ q) ⊎ Contains vs q → Contains (all_added (with_value_added found v) vs) q
    by_case rest (inl is) = all_keep (with_value_added found v) vs q (subst (Contains (with_value_added found v)) is (added_has found v))
    by_case rest (inr d) = rest d

pub all_only : (found vs : List Val) (q : Val) → Contains (all_added found vs) q → Contains found q ⊎ Contains vs q
all_only found [] q c = inl c
all_only found (v ∷ vs) q c = by_case (all_only (with_value_added found v) vs q c)
  where
    first : Contains found q ⊎ (v ≡ q) → Contains found q ⊎ Contains (v ∷ vs) q
    first (inl d) = inl d
    first (inr is) = inr (subst (Contains (v ∷ vs)) is (contains_first v vs))

    by_case : Contains (with_value_added found v) q ⊎ Contains vs q → Contains found q ⊎ Contains (v ∷ vs) q
    by_case (inl d) = first (added_only found v q d)
    by_case (inr d) = inr (contains_later v vs q d)

all_longer : (found vs : List Val) → (rest : List Val) × (all_added found vs ≡ found ++ rest)
all_longer found [] = ([], sym (append-nil found))
all_longer found (v ∷ vs) =
    let one = added_longer found v in
    let more = all_longer (with_value_added found v) vs in
    (one.0 ++ more.0, more.1 ∙ ap (λ xs. xs ++ more.0) one.1 ∙ append_assoc found one.0 more.0)

-- one value more of those that a loop has passed
pub all_more : (found vs : List Val) (k : ℕ) (v : Val) → k < length vs → v ≡ get_or vs k v → all_added found (take (k + 1) vs) ≡ with_value_added (all_added found (take k vs)) v
all_more found vs k v l is = ap (all_added found) (take_more vs k v l ∙ ap (λ u. take k vs ++ u ∷ []) (sym is)) ∙ at_end found (take k vs)
  where
    at_end : (fs ws : List Val) → all_added fs (ws ++ v ∷ []) ≡ with_value_added (all_added fs ws) v
    at_end fs [] = refl
    at_end fs (w ∷ ws) = at_end (with_value_added fs w) ws

-- ---- how many are left

-- how many of all the values are not in the list
abbrev pub left_of : List Val → List Val → ℕ
left_of found all = length (filter (λ v. not (has value_cmp v found)) all)

pub nothing_left : (all : List Val) → left_of [] all ≡ length all
nothing_left [] = refl
nothing_left (v ∷ all) = ap suc (nothing_left all)

module _ (v : Val) (found grown : List Val) (grows : (q : Val) → has value_cmp q grown ≡ (eq_by_cmp value_cmp q v || has value_cmp q found)) where
  pub no_more_left : (all : List Val) → left_of grown all ≤ left_of found all
  no_more_left [] = omega arith
  no_more_left (x ∷ xs) = by_tests (no_more_left xs) (has value_cmp x found) (eq_by_cmp value_cmp x v) refl (grows x)
    where
      by_tests : left_of grown xs ≤ left_of found xs → (b c : Bool) → has value_cmp x found ≡ b → has value_cmp x grown ≡ (c || has value_cmp x found)
          → left_of grown (x ∷ xs) ≤ left_of found (x ∷ xs)
      by_tests rest true true e g = rw (g, e) rest
      by_tests rest true false e g = rw (g, e) rest
      by_tests rest false true e g = rw (g, e) (omega (arith, rest))
      by_tests rest false false e g = rw (g, e) (omega (arith, rest))

  pub fewer_left : (all : List Val) → has value_cmp v found ≡ false → Contains all v → left_of grown all + 1 ≤ left_of found all
  fewer_left [] new c = absurd (contains_none v c)
  fewer_left (x ∷ xs) new c = by_tests (no_more_left xs) (λ d. fewer_left xs new d) (has value_cmp x found) (eq_by_cmp value_cmp x v) refl refl (grows x) (contains_cases x xs v c)
    where
      later : (left_of grown xs ≤ left_of found xs) → (Contains xs v → left_of grown xs + 1 ≤ left_of found xs) → eq_by_cmp value_cmp x v ≡ false → (x ≡ v) ⊎ Contains xs v
          → left_of grown xs + 1 ≤ left_of found xs
      later low rest e (inl is) = absurd (true≢false (sym ((value_Decides x v).1 is) ∙ e))
      later low rest e (inr d) = rest d

      by_tests : left_of grown xs ≤ left_of found xs → (Contains xs v → left_of grown xs + 1 ≤ left_of found xs) → (b c : Bool) → has value_cmp x found ≡ b → eq_by_cmp value_cmp x v ≡ c
          → has value_cmp x grown ≡ (eq_by_cmp value_cmp x v || has value_cmp x found) → (x ≡ v) ⊎ Contains xs v → left_of grown (x ∷ xs) + 1 ≤ left_of found (x ∷ xs)
      by_tests low rest true true e f g d = absurd (true≢false (sym e ∙ ap (λ u. has value_cmp u found) ((value_Decides x v).0 f) ∙ new))
      by_tests low rest true false e f g d = let h = later low rest f d in rw (g, f, e) h
      by_tests low rest false true e f g d = rw (g, f, e) (omega (arith, low))
      by_tests low rest false false e f g d = let h = later low rest f d in rw (g, f, e) (omega (arith, h))

-- no more values are found than there are in all
pub all_bounded : (found vs all : List Val) → ((q : Val) → Contains vs q → Contains all q) → length found + left_of found all ≤ length all
    → length (all_added found vs) + left_of (all_added found vs) all ≤ length all
all_bounded found [] all within low = low
all_bounded found (v ∷ vs) all within low =
    all_bounded (with_value_added found v) vs all (λ q c. within q (contains_later v vs q c)) (by_test (has value_cmp v found) refl)
  where
    by_test : (b : Bool) → has value_cmp v found ≡ b → length (if b then found else found ++ v ∷ []) + left_of (if b then found else found ++ v ∷ []) all ≤ length all
    by_test true e = low
    by_test false e =
        let less = fewer_left v found (found ++ v ∷ []) (λ q. has-pushed q v found) all e (within v (contains_first v vs)) in
        omega (arith, low, less, length_push found v)

-- ---- values led to

module _ (next : Val → List Val) where
  pub leads_more : (v : Val) (us : List Val) (u w : Val) → Leads next v us u → Contains (next u) w → Leads next v (us ++ u ∷ []) w
  leads_more v [] u w h c = (h, c)
  leads_more v (x ∷ us) u w h c = (h.0, leads_more x us u w h.1 c)

  -- what holds the successors of its values holds all to which they lead
  pub all_led_to : (found : List Val) → ((u w : Val) → Contains found u → Contains (next u) w → Contains found w) → (v : Val) (us : List Val) (w : Val)
      → Contains found v → Leads next v us w → Contains found w
  all_led_to found closed v [] w c h = closed v w c h
  all_led_to found closed v (u ∷ us) w c h = all_led_to found closed u us w (closed v u c h.0) h.1

  -- the values found so far are led to, with the successors of those before the place
  abbrev pub AreFound : Val → List Val → ℕ → List Val → Type 0
  AreFound start found place all =
      ((w : Val) → Contains found w → (us : List Val) × Leads next start us w) × ((w : Val) → Contains (next start) w → Contains found w)
      × ((u w : Val) → Contains (take place found) u → Contains (next u) w → Contains found w) × (length found + left_of found all ≤ length all)

  pub found_first : (start : Val) (found all : List Val) → found ≡ all_added [] (next start) → ((q : Val) → Contains (next start) q → Contains all q) → AreFound start found 0 all
  found_first start found all e within =
      subst (λ xs. AreFound start xs 0 all) (sym e) (
        (λ w c. by_case w (all_only [] (next start) w c)),
        (λ w c. all_there [] (next start) w c),
        (λ u w c d. absurd (contains_none u c)),
        all_bounded [] (next start) all within (let none = nothing_left all in omega (arith, none)),
      )
    where
      by_case : (w : Val) → Contains [] w ⊎ Contains (next start) w → (us : List Val) × Leads next start us w
      by_case w (inl none) = absurd (contains_none w none)
      by_case w (inr c) = ([], c)

  pub found_more : (start value : Val) (found grown : List Val) (place : ℕ) (all : List Val) → place < length found → value ≡ get_or found place value
      → grown ≡ all_added found (next value) → ((q : Val) → Contains (next value) q → Contains all q) → AreFound start found place all → AreFound start grown (place + 1) all
  found_more start value found grown place all l is e within are =
      subst (λ xs. AreFound start xs (place + 1) all) (sym e) (
        (λ w c. by_case w (all_only found (next value) w c)),
        (λ w c. all_keep found (next value) w (are.1 w c)),
        (λ u w c d. by_place u w d (Contains-append_cases (take place found) (value ∷ []) u (subst (λ xs. Contains xs u) passed c))),
        all_bounded found (next value) all within are.3,
      )
    where
      here : Contains found value
      here = (place, l, sym is)

      rest : (more : List Val) × (all_added found (next value) ≡ found ++ more)
      rest = all_longer found (next value)

      passed : take (place + 1) (all_added found (next value)) ≡ take place found ++ value ∷ []
      passed =
          ap (take (place + 1)) rest.1 ∙ take-append-le (place + 1) found rest.0 (omega (arith, l)) ∙ take_more found place value l ∙ ap (λ u. take place found ++ u ∷ []) (sym is)

      by_case : (w : Val) → Contains found w ⊎ Contains (next value) w → (us : List Val) × Leads next start us w
      by_case w (inl c) = are.0 w c
      by_case w (inr c) = let way = are.0 value here in (way.0 ++ value ∷ [], leads_more start way.0 value w way.1 c)

      last : (u w : Val) → Contains (next u) w → (value ≡ u) ⊎ Contains [] u → Contains (all_added found (next value)) w
      last u w d (inl same) = all_there found (next value) w (subst (λ x. Contains (next x) w) (sym same) d)
      last u w d (inr none) = absurd (contains_none u none)

      by_place : (u w : Val) → Contains (next u) w → Contains (take place found) u ⊎ Contains (value ∷ []) u → Contains (all_added found (next value)) w
      by_place u w d (inl before) = all_keep found (next value) w (are.2 u w before d)
      by_place u w d (inr one) = last u w d (contains_cases value [] u one)

  pub found_all : (start : Val) (found : List Val) (place : ℕ) (all : List Val) → length found ≤ place → AreFound start found place all → AreReached next start found
  found_all start found place all l are w = (are.0 w, λ way. led way.0 way.1)
    where
      closed : (u x : Val) → Contains found u → Contains (next u) x → Contains found x
      closed u x c d = are.2 u x (subst (λ xs. Contains xs u) (sym (take_all place found l)) c) d

      led : (us : List Val) → Leads next start us w → Contains found w
      led [] h = are.1 w h
      led (u ∷ us) h = all_led_to found closed u us w (are.1 u h.0) h.1
