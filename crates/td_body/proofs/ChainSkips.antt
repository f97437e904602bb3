-- An item is skipped, or linked again.
use Rattle.std.proofs.Common.{◌≡◌, ℕ, ◌+◌, ◌-◌, ◌<◌, ◌≤◌, Bool, true, false, cond, List, length, get_or, set, nat_eq, refl, sym, ap, ◌∙◌, arith, subst, true≢false, ◌⊎◌, inl, inr}
use Rattle.std.proofs.lemmas.List.{get_or-set_same, get_or-set_other, get_or_default, length-set}
use Rattle.std.proofs.lemmas.Bool.{cases_lt}
use Rattle.indexmap.specs.IndexMap.{IndexMap}
use Rattle.td_body.specs.code.Chains.{AreLinked, IsAbove, last_in, latest}
use Rattle.td_body.proofs.Linked.{latest_alike, latest_back, latest_gap, latest_here, latest_is, latest_low, latest_on, latest_past, split_nat}

-- marks that differ at one number alone
module _ (hashes : List ℕ) (skipped marks : List Bool) (number : ℕ) (others : (j : ℕ) → (j ≡ number → ⊥) → get_or marks j true ≡ get_or skipped j true) where
  before : (hash m : ℕ) → m ≤ number → latest hashes marks hash m ≡ latest hashes skipped hash m
  before hash m low = latest_alike hashes hashes marks skipped hash m (λ i _. refl) (λ i less _. others i (λ e. omega (arith, e, less, low)))

  aside : (hash m : ℕ) → (get_or hashes number 0 ≡ hash → ⊥) → latest hashes marks hash m ≡ latest hashes skipped hash m
  aside hash m other = latest_alike hashes hashes marks skipped hash m (λ i _. refl) (λ i _ is. others i (λ e. other (ap (λ k. get_or hashes k 0) (sym e) ∙ is)))

  -- it stays the same, but maybe for the later items of its hash
  same_or : (i : ℕ) {G : Type 0} → (latest hashes marks (get_or hashes i 0) i ≡ latest hashes skipped (get_or hashes i 0) i → G) → (number < i → get_or hashes i 0 ≡ get_or hashes number 0 → G) → G
  same_or i {G} if_same if_later = split_nat (get_or hashes number 0) (get_or hashes i 0)
      (λ is _. by is (cases_lt number i))
      (λ other _. if_same (aside (get_or hashes i 0) i other))
    where
      by : get_or hashes number 0 ≡ get_or hashes i 0 → (number < i) ⊎ (i ≤ number) → G
      by is (inl less) = if_later less (sym is)
      by is (inr more) = if_same (before (get_or hashes i 0) i more)

  -- what is linked to a later one stays so
  kept_over : (hash m : ℕ) → get_or skipped number true ≡ true → number < latest hashes skipped hash m → latest hashes marks hash m ≡ latest hashes skipped hash m
  kept_over hash m off over =
      let some : 0 < latest hashes skipped hash m = omega (arith, over) in
      let on = latest_on hashes skipped hash m some in
      sym (latest_is hashes marks hash m (latest hashes skipped hash m) (latest_low hashes skipped hash m) (latest_here hashes skipped hash m)
      (λ _. others (latest hashes skipped hash m - 1) (λ e. true≢false (sym off ∙ ap (λ k. get_or skipped k true) (sym e) ∙ on)) ∙ on)
      (λ i low high is there. latest_gap hashes skipped hash m i low high is (sym (others i (λ e. omega (arith, e, low, over))) ∙ there)))

-- the last of a hash is there
pub newest_low : {H : Type 0} (hashes : List ℕ) (skipped : List Bool) (last : IndexMap ℕ ℕ H) (next : List ℕ) (hash number : ℕ) → AreLinked hashes skipped last next → last_in last hash ≡ number + 1 → number < length hashes
newest_low hashes skipped last next hash number x newest = let l = latest_low hashes skipped hash (length hashes) in omega (arith, l, x.lasts hash, newest)

-- it leads to an earlier one
pub newest_leads : {H : Type 0} (hashes : List ℕ) (skipped : List Bool) (last : IndexMap ℕ ℕ H) (next : List ℕ) (hash number d : ℕ) → AreLinked hashes skipped last next → last_in last hash ≡ number + 1 → get_or next number d ≤ number
newest_leads hashes skipped last next hash number d x newest =
    let is : latest hashes skipped hash (length hashes) ≡ number + 1 = sym (x.lasts hash) ∙ newest in
    let back : number ≡ latest hashes skipped hash (length hashes) - 1 = omega (arith, is) in
    let on : get_or skipped number true ≡ false = ap (λ k. get_or skipped k true) back ∙ latest_on hashes skipped hash (length hashes) (omega (arith, is)) in
    let leads = x.links number d (newest_low hashes skipped last next hash number x newest) on in
    let low = latest_low hashes skipped (get_or hashes number 0) number in
    omega (arith, leads, low)

-- an item is skipped, with one of its hash before it
module _ {H : Type 0} (hashes : List ℕ) (skipped marks : List Bool) (last last' : IndexMap ℕ ℕ H) (next : List ℕ) (hash number back : ℕ) (x : AreLinked hashes skipped last next)
    (newest : last_in last hash ≡ number + 1) (leads : get_or next number back ≡ back) (some : 0 < back) (now : marks ≡ set skipped number true)
    (lasts : (h : ℕ) → last_in last' h ≡ cond (nat_eq hash h) back (last_in last h)) where
  is_latest : latest hashes skipped hash (length hashes) ≡ number + 1
  is_latest = sym (x.lasts hash) ∙ newest

  low : number < length hashes
  low = newest_low hashes skipped last next hash number x newest

  its_hash : get_or hashes number 0 ≡ hash
  its_hash =
      let back : latest hashes skipped hash (length hashes) - 1 ≡ number = omega (arith, is_latest) in
      ap (λ k. get_or hashes k 0) (sym back) ∙ latest_here hashes skipped hash (length hashes) (omega (arith, is_latest))

  was_on : get_or skipped number true ≡ false
  was_on =
      let back : latest hashes skipped hash (length hashes) - 1 ≡ number = omega (arith, is_latest) in
      ap (λ k. get_or skipped k true) (sym back) ∙ latest_on hashes skipped hash (length hashes) (omega (arith, is_latest))

  others : (j : ℕ) → (j ≡ number → ⊥) → get_or marks j true ≡ get_or skipped j true
  others j other = ap (λ l. get_or l j true) now ∙ get_or-set_other skipped number j true true other

  now_off : (d : Bool) → get_or marks number d ≡ true
  now_off d = ap (λ l. get_or l number d) now ∙ get_or-set_same skipped number true d (omega (arith, low, x.marks))

  long : length marks ≡ length hashes
  long = ap length now ∙ length-set skipped number true ∙ x.marks

  led : back ≡ latest hashes skipped hash number
  led = sym leads ∙ x.links number back low was_on ∙ ap (λ h. latest hashes skipped h number) its_hash

  back_low : back ≤ number
  back_low = let l = latest_low hashes skipped hash number in omega (arith, l, led)

  behind : (m i : ℕ) → m ≤ length hashes → back ≤ i → i < m → get_or hashes i 0 ≡ hash → get_or marks i true ≡ false → ⊥
  behind m i few more less is on = split_nat i number
      (λ e _. true≢false (sym (ap (λ k. get_or marks k true) e ∙ now_off true) ∙ on))
      (λ other _. by (sym (others i other) ∙ on) other (cases_lt i number))
    where
      by : get_or skipped i true ≡ false → (i ≡ number → ⊥) → (i < number) ⊎ (number ≤ i) → ⊥
      by there other (inl before) = latest_gap hashes skipped hash number i (omega (arith, led, more)) before is there
      by there other (inr after) = latest_gap hashes skipped hash (length hashes) i (omega (arith, is_latest, after, other)) (omega (arith, less, few)) is there

  over : (m : ℕ) → number < m → m ≤ length hashes → back ≡ latest hashes marks hash m
  over m more few = latest_is hashes marks hash m back (omega (arith, back_low, more))
      (λ _. ap (λ k. get_or hashes (k - 1) 0) led ∙ latest_here hashes skipped hash number (omega (arith, led, some)))
      (λ _. others (back - 1) (λ e. omega (arith, e, back_low, some)) ∙ ap (λ k. get_or skipped (k - 1) true) led ∙ latest_on hashes skipped hash number (omega (arith, led, some)))
      (λ i. behind m i few)

  pub linked_skip : AreLinked hashes marks last' next
  linked_skip = record {
    lasts = λ h. lasts h ∙ split_nat hash h
        (λ is t. rw t (over (length hashes) low (omega arith) ∙ ap (λ k. latest hashes marks k (length hashes)) is))
        (λ other t. rw t (x.lasts h ∙ sym (aside hashes skipped marks number others h (length hashes) (λ e. other (sym its_hash ∙ e)))));
    nexts = x.nexts;
    marks = long;
    links = λ i d less on.
        let not_it : i ≡ number → ⊥ = λ (e : i ≡ number). true≢false (sym (ap (λ k. get_or marks k true) e ∙ now_off true) ∙ on) in
        let there : get_or skipped i true ≡ false = sym (others i not_it) ∙ on in
        same_or hashes skipped marks number others i
        (λ e. x.links i d less there ∙ sym e)
        (λ after is. absurd (latest_gap hashes skipped hash (length hashes) i (omega (arith, is_latest, after)) less (is ∙ its_hash) there));
    ends = λ i less is_off. split_nat i number
        (λ e _. subst (λ k. 0 < k) (led ∙ sym (before hashes skipped marks number others hash number (omega arith)) ∙ (λ j. latest hashes marks (((sym its_hash) ∙ ap (λ k. get_or hashes k 0) (sym e)) j) (sym e j))) some)
        (λ other _.
        let there : get_or skipped i false ≡ true =
        get_or_default skipped i false true (omega (arith, less, x.marks)) ∙ sym (others i other) ∙ get_or_default marks i true false (omega (arith, less, long)) ∙ is_off in
        let ended = x.ends i less there in
        same_or hashes skipped marks number others i
        (λ e. subst (λ k. 0 < k) (sym e) ended)
        (λ after is. subst (λ k. 0 < k) (over i after (omega (arith, less)) ∙ ap (λ h. latest hashes marks h i) (sym its_hash ∙ sym is)) some));
  }

-- an item is linked again
module _ {H : Type 0} (hashes : List ℕ) (skipped marks : List Bool) (last : IndexMap ℕ ℕ H) (next : List ℕ) (hash number : ℕ) (x : AreLinked hashes skipped last next)
    (its_hash : get_or hashes number 0 ≡ hash) (low : number < length hashes) (was_off : get_or skipped number false ≡ true) (now : marks ≡ set skipped number false) where
  off : get_or skipped number true ≡ true
  off = get_or_default skipped number true false (omega (arith, low, x.marks)) ∙ was_off

  others_stay : (j : ℕ) → (j ≡ number → ⊥) → get_or marks j true ≡ get_or skipped j true
  others_stay j other = ap (λ l. get_or l j true) now ∙ get_or-set_other skipped number j false true other

  on : (d : Bool) → get_or marks number d ≡ false
  on d = ap (λ l. get_or l number d) now ∙ get_or-set_same skipped number false d (omega (arith, low, x.marks))

  long_marks : length marks ≡ length hashes
  long_marks = ap length now ∙ length-set skipped number false ∙ x.marks

  pub one_before : 0 < latest hashes skipped hash number
  one_before = subst (λ h. 0 < latest hashes skipped h number) its_hash (x.ends number low was_off)

  -- there is an item of the hash
  pub linked_some : 0 < last_in last hash
  linked_some =
      let some = one_before in
      let past = latest_past hashes skipped hash (length hashes) (latest hashes skipped hash number - 1)
      (let l = latest_low hashes skipped hash number in omega (arith, l, low, some)) (latest_here hashes skipped hash number some) (latest_on hashes skipped hash number some) in
      omega (arith, past, x.lasts hash)

  -- the last of the hash is another one
  pub linked_past : number < last_in last hash → number + 1 < last_in last hash
  linked_past more = split_nat (last_in last hash) (number + 1)
      (λ e _.
      let is : latest hashes skipped hash (length hashes) ≡ number + 1 = sym (x.lasts hash) ∙ e in
      let back : number ≡ latest hashes skipped hash (length hashes) - 1 = omega (arith, is) in
      absurd (true≢false (sym off ∙ ap (λ k. get_or skipped k true) back ∙ latest_on hashes skipped hash (length hashes) (omega (arith, is)))))
      (λ other _. omega (arith, more, other))

  ends : (i : ℕ) → i < length hashes → get_or marks i false ≡ true → 0 < latest hashes marks (get_or hashes i 0) i
  ends i less is_off =
      let other : i ≡ number → ⊥ = λ (e : i ≡ number). true≢false (sym is_off ∙ ap (λ k. get_or marks k false) e ∙ on false) in
      let there : get_or skipped i false ≡ true =
      get_or_default skipped i false true (omega (arith, less, x.marks)) ∙ sym (others_stay i other) ∙ get_or_default marks i true false (omega (arith, less, long_marks)) ∙ is_off in
      same_or hashes skipped marks number others_stay i
      (λ e. subst (λ k. 0 < k) (sym e) (x.ends i less there))
      (λ after is. let past = latest_past hashes marks (get_or hashes i 0) i number after (sym is) (on true) in omega (arith, past))

  -- behind all that are linked
  pub linked_last : (last' : IndexMap ℕ ℕ H) (next' : List ℕ) (newest : ℕ) → newest ≡ last_in last hash → newest ≤ number → next' ≡ set next number newest
      → ((h : ℕ) → last_in last' h ≡ cond (nat_eq hash h) (number + 1) (last_in last h)) → AreLinked hashes marks last' next'
  linked_last last' next' newest is few items lasts = record {
    lasts = λ h. lasts h ∙ split_nat hash h
        (λ same t. rw t (latest_is hashes marks hash (length hashes) (number + 1) (omega (arith, low))
        (λ _. ap (λ k. get_or hashes k 0) one ∙ its_hash) (λ _. ap (λ k. get_or marks k true) one ∙ on true)
        (λ i more less h there. none i (omega (arith, more)) less h there) ∙ ap (λ k. latest hashes marks k (length hashes)) same))
        (λ other t. rw t (x.lasts h ∙ sym (aside hashes skipped marks number others_stay h (length hashes) (λ e. other (sym its_hash ∙ e)))));
    nexts = ap length items ∙ length-set next number newest ∙ x.nexts;
    marks = long_marks;
    links = links;
    ends = ends;
  }
    where
      one : ◌≡◌ {A = ℕ} (number + 1 - 1) number
      one = omega arith

      latest_low' : latest hashes skipped hash (length hashes) ≤ number
      latest_low' = omega (arith, is, few, x.lasts hash)

      none : (i : ℕ) → number < i → i < length hashes → get_or hashes i 0 ≡ hash → get_or marks i true ≡ false → ⊥
      none i more less h there =
          latest_gap hashes skipped hash (length hashes) i (omega (arith, more, latest_low')) less h (sym (others_stay i (λ e. omega (arith, e, more))) ∙ there)

      links : (i d : ℕ) → i < length hashes → get_or marks i true ≡ false → get_or next' i d ≡ latest hashes marks (get_or hashes i 0) i
      links i d less there = split_nat i number
          (λ e _. ap (λ k. get_or next' k d) e ∙ ap (λ l. get_or l number d) items ∙ get_or-set_same next number newest d (omega (arith, low, x.nexts))
          ∙ is ∙ x.lasts hash ∙ latest_back hashes skipped hash (length hashes) number latest_low' (omega (arith, low))
          ∙ sym (before hashes skipped marks number others_stay hash number (omega arith))
          ∙ (λ j. latest hashes marks ((sym its_hash ∙ ap (λ k. get_or hashes k 0) (sym e)) j) (sym e j)))
          (λ other _. ap (λ l. get_or l i d) items ∙ get_or-set_other next number i newest d other
          ∙ x.links i d less (sym (others_stay i other) ∙ there)
          ∙ same_or hashes skipped marks number others_stay i (λ e. sym e) (λ after h. absurd (none i after less (h ∙ its_hash) there)))

  -- between two that are linked
  pub linked_between : (next' : List ℕ) (above : ℕ) → IsAbove hashes skipped next hash number above
      → next' ≡ set (set next number (get_or next (above - 1) 0)) (above - 1) (number + 1) → AreLinked hashes marks last next'
  linked_between next' above a items = record {
    lasts = λ h. x.lasts h ∙ split_nat hash h
        (λ same t.
        let past = latest_past hashes skipped hash (length hashes) (above - 1) (omega (arith, a.within, a.past)) a.here a.linked in
        ap (λ k. latest hashes skipped k (length hashes)) (sym same)
        ∙ sym (kept_over hashes skipped marks number others_stay hash (length hashes) off (omega (arith, past, a.past))) ∙ ap (λ k. latest hashes marks k (length hashes)) same)
        (λ other t. sym (aside hashes skipped marks number others_stay h (length hashes) (λ e. other (sym its_hash ∙ e))));
    nexts = ap length items ∙ length-set (set next number (get_or next (above - 1) 0)) (above - 1) (number + 1) ∙ length-set next number (get_or next (above - 1) 0) ∙ x.nexts;
    marks = long_marks;
    links = links;
    ends = ends;
  }
    where
      one : ◌≡◌ {A = ℕ} (number + 1 - 1) number
      one = omega arith

      led : get_or next (above - 1) 0 ≡ latest hashes skipped hash (above - 1)
      led = x.links (above - 1) 0 (omega (arith, a.within, a.past)) a.linked ∙ ap (λ h. latest hashes skipped h (above - 1)) a.here

      few : latest hashes skipped hash (above - 1) ≤ number
      few = split_nat (latest hashes skipped hash (above - 1)) (number + 1)
          (λ e _. absurd (true≢false (sym off ∙ ap (λ k. get_or skipped k true) (let back : number ≡ latest hashes skipped hash (above - 1) - 1 = omega (arith, e) in back)
          ∙ latest_on hashes skipped hash (above - 1) (omega (arith, e)))))
          (λ other _. omega (arith, other, led, a.first))

      none : (i : ℕ) → number < i → i < above - 1 → get_or hashes i 0 ≡ hash → get_or marks i true ≡ false → ⊥
      none i more less h there =
          latest_gap hashes skipped hash (above - 1) i (omega (arith, more, few)) less h (sym (others_stay i (λ e. omega (arith, e, more))) ∙ there)

      apart : above - 1 ≡ number → ⊥
      apart e = omega (arith, e, a.past)

      links : (i d : ℕ) → i < length hashes → get_or marks i true ≡ false → get_or next' i d ≡ latest hashes marks (get_or hashes i 0) i
      links i d less there = ap (λ l. get_or l i d) items ∙ split_nat i (above - 1)
          (λ e _. ap (λ k. get_or (set (set next number (get_or next (above - 1) 0)) (above - 1) (number + 1)) k d) e
          ∙ get_or-set_same (set next number (get_or next (above - 1) 0)) (above - 1) (number + 1) d
          (let l = length-set next number (get_or next (above - 1) 0) in omega (arith, l, a.within, a.past, x.nexts))
          ∙ latest_is hashes marks hash (above - 1) (number + 1) (omega (arith, a.past))
          (λ _. ap (λ k. get_or hashes k 0) one ∙ its_hash) (λ _. ap (λ k. get_or marks k true) one ∙ on true)
          (λ j more below h linked_there. none j (omega (arith, more)) below h linked_there)
          ∙ (λ j. latest hashes marks ((sym a.here ∙ ap (λ k. get_or hashes k 0) (sym e)) j) (sym e j)))
          (λ other _. get_or-set_other (set next number (get_or next (above - 1) 0)) (above - 1) i (number + 1) d other ∙ split_nat i number
          (λ e _. ap (λ k. get_or (set next number (get_or next (above - 1) 0)) k d) e
          ∙ get_or-set_same next number (get_or next (above - 1) 0) d (omega (arith, low, x.nexts))
          ∙ led ∙ latest_back hashes skipped hash (above - 1) number few (omega (arith, a.past))
          ∙ sym (before hashes skipped marks number others_stay hash number (omega arith))
          ∙ (λ j. latest hashes marks ((sym its_hash ∙ ap (λ k. get_or hashes k 0) (sym e)) j) (sym e j)))
          (λ differs _. get_or-set_other next number i (get_or next (above - 1) 0) d differs ∙ x.links i d less (sym (others_stay i differs) ∙ there)
          ∙ same_or hashes skipped marks number others_stay i (λ e. sym e) (λ after h. later i less there other after h (cases_lt i (above - 1)))))
        where
          later : (i : ℕ) → i < length hashes → get_or marks i true ≡ false → (i ≡ above - 1 → ⊥) → number < i → get_or hashes i 0 ≡ get_or hashes number 0 → (i < above - 1) ⊎ (above - 1 ≤ i)
              → latest hashes skipped (get_or hashes i 0) i ≡ latest hashes marks (get_or hashes i 0) i
          later i less there other after h (inl short) = absurd (none i after short (h ∙ its_hash) there)
          later i less there other after h (inr far) =
              let past = latest_past hashes skipped (get_or hashes i 0) i (above - 1) (omega (arith, far, other)) (a.here ∙ sym its_hash ∙ sym h) a.linked in
              sym (kept_over hashes skipped marks number others_stay (get_or hashes i 0) i off (omega (arith, past, a.past)))

-- ---- a walk to the first item of a hash behind a number

pub record IsOver (hashes : List ℕ) (skipped : List Bool) (hash number at : ℕ) : Type 0 where
  pub past : number + 1 < at
  pub within : at ≤ length hashes
  pub here : get_or hashes (at - 1) 0 ≡ hash
  pub linked : get_or skipped (at - 1) true ≡ false

module _ {H : Type 0} (hashes : List ℕ) (skipped : List Bool) (last : IndexMap ℕ ℕ H) (next : List ℕ) (hash number : ℕ) (x : AreLinked hashes skipped last next) where
  -- what is the latest of the first items is such a one
  over_latest : (at n : ℕ) → n ≤ length hashes → at ≡ latest hashes skipped hash n → number + 1 < at → IsOver hashes skipped hash number at
  over_latest at n few is past =
      let low = latest_low hashes skipped hash n in
      record {
        past = past;
        within = omega (arith, low, few, is);
        here = ap (λ k. get_or hashes (k - 1) 0) is ∙ latest_here hashes skipped hash n (omega (arith, is, past));
        linked = ap (λ k. get_or skipped (k - 1) true) is ∙ latest_on hashes skipped hash n (omega (arith, is, past));
      }

  pub over_start : (at : ℕ) → at ≡ last_in last hash → number + 1 < last_in last hash → IsOver hashes skipped hash number at
  over_start at is past = over_latest at (length hashes) (omega arith) (is ∙ x.lasts hash) (omega (arith, is, past))

  pub over_next : (at d : ℕ) → IsOver hashes skipped hash number at → get_or next (at - 1) d ≡ latest hashes skipped hash (at - 1)
  over_next at d o = x.links (at - 1) d (omega (arith, o.within, o.past)) o.linked ∙ ap (λ h. latest hashes skipped h (at - 1)) o.here

  pub over_on : (at at' d : ℕ) → IsOver hashes skipped hash number at → at' ≡ get_or next (at - 1) d → number + 1 < at' → IsOver hashes skipped hash number at'
  over_on at at' d o is past = over_latest at' (at - 1) (omega (arith, o.within)) (is ∙ over_next at d o) past

  pub over_less : (at d : ℕ) → IsOver hashes skipped hash number at → get_or next (at - 1) d < at
  over_less at d o = let low = latest_low hashes skipped hash (at - 1) in omega (arith, low, over_next at d o, o.past)

  pub over_within : (at : ℕ) → IsOver hashes skipped hash number at → at - 1 < length next
  over_within at o = omega (arith, o.within, o.past, x.nexts)
