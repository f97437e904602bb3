-- Items chained by their hashes: one more, one less, and a walk.
use Rattle.std.proofs.Common.{◌≡◌, ℕ, zero, suc, ◌+◌, ◌-◌, ◌<◌, ◌≤◌, Bool, true, false, not, ◌&&◌, cond, List, [], ◌∷◌, ◌++◌, length, get_or, nat_eq, refl, sym, ap, ◌∙◌, arith, subst, true≢false, length-append, ◌⊎◌, inl, inr}
use Rattle.std.proofs.lemmas.List.{get_or_append_left}
use Rattle.std.proofs.lemmas.Bool.{cases_lt, eqb-true, eqb-false}
use Rattle.indexmap.specs.IndexMap.{IndexMap}
use Rattle.td_body.specs.code.Chains.{AreChained, AreLinked, IsWalked, last_in, latest}

pub split_nat : (a b : ℕ) {G : Type 0} → (a ≡ b → nat_eq a b ≡ true → G) → ((a ≡ b → ⊥) → nat_eq a b ≡ false → G) → G
split_nat a b {G} if_same if_other = by (nat_eq a b) refl
  where
    by : (t : Bool) → nat_eq a b ≡ t → G
    by true e = if_same (eqb-true a b e) e
    by false e = if_other (eqb-false a b e) e

-- whether an item has the hash and is not skipped
pub split_on : (hashes : List ℕ) (skipped : List Bool) (hash n : ℕ) {G : Type 0}
    → (get_or hashes n 0 ≡ hash → get_or skipped n true ≡ false → (nat_eq hash (get_or hashes n 0) && not (get_or skipped n true)) ≡ true → G)
    → ((get_or hashes n 0 ≡ hash → get_or skipped n true ≡ false → ⊥) → (nat_eq hash (get_or hashes n 0) && not (get_or skipped n true)) ≡ false → G) → G
split_on hashes skipped hash n {G} if_on if_off = split_nat hash (get_or hashes n 0)
    (λ is e. by is e (get_or skipped n true) refl)
    (λ other e. if_off (λ is _. other (sym is)) (rw e refl))
  where
    by : hash ≡ get_or hashes n 0 → nat_eq hash (get_or hashes n 0) ≡ true → (b : Bool) → get_or skipped n true ≡ b → G
    by is e true m = if_off (λ _ h. true≢false (sym m ∙ h)) (rw (e, m) refl)
    by is e false m = if_on (sym is) m (rw (e, m) refl)

pub latest_low : (hashes : List ℕ) (skipped : List Bool) (hash n : ℕ) → latest hashes skipped hash n ≤ n
latest_low hashes skipped hash zero = omega arith
latest_low hashes skipped hash (suc n) = split_on hashes skipped hash n
    (λ _ _ e. rw e (omega arith))
    (λ _ e. rw e (let low = latest_low hashes skipped hash n in omega (arith, low)))

-- it has the hash
pub latest_here : (hashes : List ℕ) (skipped : List Bool) (hash n : ℕ) → 0 < latest hashes skipped hash n → get_or hashes (latest hashes skipped hash n - 1) 0 ≡ hash
latest_here hashes skipped hash zero = λ some. absurd (omega (arith, some))
latest_here hashes skipped hash (suc n) = split_on hashes skipped hash n
    (λ is _ e. rw e (λ some. let back : suc n - 1 ≡ n = omega arith in ap (λ k. get_or hashes k 0) back ∙ is))
    (λ _ e. rw e (latest_here hashes skipped hash n))

-- it is not skipped
pub latest_on : (hashes : List ℕ) (skipped : List Bool) (hash n : ℕ) → 0 < latest hashes skipped hash n → get_or skipped (latest hashes skipped hash n - 1) true ≡ false
latest_on hashes skipped hash zero = λ some. absurd (omega (arith, some))
latest_on hashes skipped hash (suc n) = split_on hashes skipped hash n
    (λ _ is e. rw e (λ some. let back : suc n - 1 ≡ n = omega arith in ap (λ k. get_or skipped k true) back ∙ is))
    (λ _ e. rw e (latest_on hashes skipped hash n))

-- none behind it has the hash and is not skipped
pub latest_gap : (hashes : List ℕ) (skipped : List Bool) (hash n i : ℕ) → latest hashes skipped hash n ≤ i → i < n → get_or hashes i 0 ≡ hash → get_or skipped i true ≡ false → ⊥
latest_gap hashes skipped hash zero i = λ low high is on. omega (arith, high)
latest_gap hashes skipped hash (suc n) i = split_on hashes skipped hash n
    (λ _ _ e. rw e (λ low high is on. omega (arith, low, high)))
    (λ other e. rw e (λ low high is on. split_nat i n
    (λ same _. other (ap (λ k. get_or hashes k 0) (sym same) ∙ is) (ap (λ k. get_or skipped k true) (sym same) ∙ on))
    (λ differs _. latest_gap hashes skipped hash n i low (omega (arith, high, differs)) is on)))

-- an item of the hash that is not skipped is not behind it
pub latest_past : (hashes : List ℕ) (skipped : List Bool) (hash n i : ℕ) → i < n → get_or hashes i 0 ≡ hash → get_or skipped i true ≡ false → i < latest hashes skipped hash n
latest_past hashes skipped hash n i high is on = by (cases_lt i (latest hashes skipped hash n))
  where
    by : (i < latest hashes skipped hash n) ⊎ (latest hashes skipped hash n ≤ i) → i < latest hashes skipped hash n
    by (inl less) = less
    by (inr more) = absurd (latest_gap hashes skipped hash n i more high is on)

-- by this it is known
pub latest_is : (hashes : List ℕ) (skipped : List Bool) (hash n a : ℕ) → a ≤ n → (0 < a → get_or hashes (a - 1) 0 ≡ hash) → (0 < a → get_or skipped (a - 1) true ≡ false)
    → ((i : ℕ) → a ≤ i → i < n → get_or hashes i 0 ≡ hash → get_or skipped i true ≡ false → ⊥) → a ≡ latest hashes skipped hash n
latest_is hashes skipped hash n a within here on gap = by (cases_lt a (latest hashes skipped hash n)) (cases_lt (latest hashes skipped hash n) a)
  where
    by : (a < latest hashes skipped hash n) ⊎ (latest hashes skipped hash n ≤ a) → (latest hashes skipped hash n < a) ⊎ (a ≤ latest hashes skipped hash n) → a ≡ latest hashes skipped hash n
    by (inl less) q =
        let low = latest_low hashes skipped hash n in
        let some : 0 < latest hashes skipped hash n = omega (arith, less) in
        absurd (gap (latest hashes skipped hash n - 1) (omega (arith, less)) (omega (arith, low, some)) (latest_here hashes skipped hash n some) (latest_on hashes skipped hash n some))
    by (inr more) (inl less) =
        let some : 0 < a = omega (arith, less) in
        absurd (latest_gap hashes skipped hash n (a - 1) (omega (arith, less)) (omega (arith, within, some)) (here some) (on some))
    by (inr more) (inr most) = omega (arith, more, most)

-- it depends on the hashes and on the marks of those that have the hash
pub latest_alike : (hs ks : List ℕ) (s t : List Bool) (hash n : ℕ) → ((i : ℕ) → i < n → get_or hs i 0 ≡ get_or ks i 0) → ((i : ℕ) → i < n → get_or ks i 0 ≡ hash → get_or s i true ≡ get_or t i true)
    → latest hs s hash n ≡ latest ks t hash n
latest_alike hs ks s t hash zero same marks = refl
latest_alike hs ks s t hash (suc n) same marks =
    let rest : latest hs s hash n ≡ latest ks t hash n = latest_alike hs ks s t hash n (λ i low. same i (omega (arith, low))) (λ i low is. marks i (omega (arith, low)) is) in
    let here : get_or hs n 0 ≡ get_or ks n 0 = same n (omega arith) in
    ap (λ h. cond (nat_eq hash h && not (get_or s n true)) (suc n) (latest hs s hash n)) here
    ∙ split_nat hash (get_or ks n 0)
    (λ is _. let mark : get_or s n true ≡ get_or t n true = marks n (omega arith) (sym is) in λ i. cond (nat_eq hash (get_or ks n 0) && not (mark i)) (suc n) (rest i))
    (λ _ e. rw e rest)

-- among the first it is the same, where it is one of them
pub latest_back : (hashes : List ℕ) (skipped : List Bool) (hash n k : ℕ) → latest hashes skipped hash n ≤ k → k ≤ n → latest hashes skipped hash n ≡ latest hashes skipped hash k
latest_back hashes skipped hash n k low high =
    latest_is hashes skipped hash k (latest hashes skipped hash n) low (latest_here hashes skipped hash n) (latest_on hashes skipped hash n)
    (λ i more less is on. latest_gap hashes skipped hash n i more (omega (arith, less, high)) is on)

pub last_put : {A : Type 0} (xs : List A) (x d : A) → get_or (xs ++ x ∷ []) (length xs) d ≡ x
last_put [] x d = refl
last_put (y ∷ ys) x d = last_put ys x d

pub long : {A : Type 0} (xs : List A) (x : A) → length (xs ++ x ∷ []) ≡ suc (length xs)
long xs x = let l = length-append xs (x ∷ []) in omega (arith, l)

module _ (hashes : List ℕ) (hash : ℕ) (skipped : List Bool) (mark : Bool) (same : length skipped ≡ length hashes) where
  pub latest_front : (h n : ℕ) → n ≤ length hashes → latest (hashes ++ hash ∷ []) (skipped ++ mark ∷ []) h n ≡ latest hashes skipped h n
  latest_front h n low = latest_alike (hashes ++ hash ∷ []) hashes (skipped ++ mark ∷ []) skipped h n
      (λ i less. get_or_append_left hashes (hash ∷ []) 0 i (omega (arith, less, low)))
      (λ i less _. get_or_append_left skipped (mark ∷ []) true i (omega (arith, less, low, same)))

  pub front_latest : (i : ℕ) → i < length hashes → latest (hashes ++ hash ∷ []) (skipped ++ mark ∷ []) (get_or (hashes ++ hash ∷ []) i 0) i ≡ latest hashes skipped (get_or hashes i 0) i
  front_latest i low =
      ap (λ h. latest (hashes ++ hash ∷ []) (skipped ++ mark ∷ []) h i) (get_or_append_left hashes (hash ∷ []) 0 i low)
      ∙ latest_front (get_or hashes i 0) i (omega (arith, low))

  pub last_mark : get_or (skipped ++ mark ∷ []) (length hashes) true ≡ mark
  last_mark = ap (λ k. get_or (skipped ++ mark ∷ []) k true) (sym same) ∙ last_put skipped mark true

  pub latest_more : (h : ℕ) → latest (hashes ++ hash ∷ []) (skipped ++ mark ∷ []) h (length (hashes ++ hash ∷ [])) ≡ cond (nat_eq h hash && not mark) (suc (length hashes)) (latest hashes skipped h (length hashes))
  latest_more h =
      ap (latest (hashes ++ hash ∷ []) (skipped ++ mark ∷ []) h) (long hashes hash)
      ∙ (λ i. cond (nat_eq h (last_put hashes hash 0 i) && not (last_mark i)) (suc (length hashes)) (latest_front h (length hashes) (omega arith) i))

  pub latest_end : latest (hashes ++ hash ∷ []) (skipped ++ mark ∷ []) (get_or (hashes ++ hash ∷ []) (length hashes) 0) (length hashes) ≡ latest hashes skipped hash (length hashes)
  latest_end =
      ap (λ h. latest (hashes ++ hash ∷ []) (skipped ++ mark ∷ []) h (length hashes)) (last_put hashes hash 0)
      ∙ latest_front hash (length hashes) (omega arith)

turned : (h k a b c : ℕ) → b ≡ c → cond (nat_eq h k) a b ≡ cond (nat_eq k h && true) a c
turned h k a b c e = split_nat h k
    (λ is t. split_nat k h (λ _ u. rw (t, u) refl) (λ other u. absurd (other (sym is))))
    (λ other t. split_nat k h (λ is u. absurd (other (sym is))) (λ _ u. rw (t, u) e))

module _ {H : Type 0} (hashes : List ℕ) (hash : ℕ) (skipped : List Bool) (last last' : IndexMap ℕ ℕ H) (next : List ℕ) where
  -- one more item
  pub linked_more : (skipped' : List Bool) (next' : List ℕ) (old count : ℕ) → AreLinked hashes skipped last next → old ≡ last_in last hash → count ≡ length next + 1 → next' ≡ next ++ old ∷ [] → skipped' ≡ skipped ++ false ∷ []
      → ((h : ℕ) → last_in last' h ≡ cond (nat_eq hash h) count (last_in last h)) → AreLinked (hashes ++ hash ∷ []) skipped' last' next'
  linked_more skipped' next' old count x is counted items marks lasts =
      subst (λ ns. AreLinked (hashes ++ hash ∷ []) skipped' last' ns) (sym items) (subst (λ ms. AreLinked (hashes ++ hash ∷ []) ms last' (next ++ old ∷ [])) (sym marks) (record {
        lasts = λ h. lasts h ∙ (let c : count ≡ suc (length hashes) = omega (arith, counted, x.nexts) in ap (λ n. cond (nat_eq hash h) n (last_in last h)) c)
            ∙ turned hash h _ _ _ (x.lasts h) ∙ sym (latest_more hashes hash skipped false x.marks h);
        nexts = omega (arith, long next old, long hashes hash, x.nexts);
        marks = omega (arith, long skipped false, long hashes hash, x.marks);
        links = links;
        ends = ends;
      }))
    where
      links : (i d : ℕ) → i < length (hashes ++ hash ∷ []) → get_or (skipped ++ false ∷ []) i true ≡ false
          → get_or (next ++ old ∷ []) i d ≡ latest (hashes ++ hash ∷ []) (skipped ++ false ∷ []) (get_or (hashes ++ hash ∷ []) i 0) i
      links i d low on = split_nat i (length hashes)
          (λ same _.
          ap (λ k. get_or (next ++ old ∷ []) k d) (same ∙ sym x.nexts) ∙ last_put next old d ∙ is ∙ x.lasts hash
          ∙ sym (ap (λ k. latest (hashes ++ hash ∷ []) (skipped ++ false ∷ []) (get_or (hashes ++ hash ∷ []) k 0) k) same ∙ latest_end hashes hash skipped false x.marks))
          (λ other _.
          let within : i < length hashes = omega (arith, low, other, long hashes hash) in
          get_or_append_left next (old ∷ []) d i (omega (arith, within, x.nexts))
          ∙ x.links i d within (sym (get_or_append_left skipped (false ∷ []) true i (omega (arith, within, x.marks))) ∙ on)
          ∙ sym (front_latest hashes hash skipped false x.marks i within))

      ends : (i : ℕ) → i < length (hashes ++ hash ∷ []) → get_or (skipped ++ false ∷ []) i false ≡ true
          → 0 < latest (hashes ++ hash ∷ []) (skipped ++ false ∷ []) (get_or (hashes ++ hash ∷ []) i 0) i
      ends i low on = split_nat i (length hashes)
          (λ same _. absurd (true≢false (sym on ∙ ap (λ k. get_or (skipped ++ false ∷ []) k false) (same ∙ sym x.marks) ∙ last_put skipped false false)))
          (λ other _.
          let within : i < length hashes = omega (arith, low, other, long hashes hash) in
          subst (λ k. 0 < k) (sym (front_latest hashes hash skipped false x.marks i within))
          (x.ends i within (sym (get_or_append_left skipped (false ∷ []) false i (omega (arith, within, x.marks))) ∙ on)))

pub relinked : {H : Type 0} (hashes : List ℕ) (skipped skipped' : List Bool) (last : IndexMap ℕ ℕ H) (next next' : List ℕ) → AreLinked hashes skipped last next → skipped ≡ skipped' → next ≡ next' → AreLinked hashes skipped' last next'
relinked hashes skipped skipped' last next next' x marks items =
    subst (λ ns. AreLinked hashes skipped' last ns) items (subst (λ ms. AreLinked hashes ms last next) marks x)

-- one item less
module _ {H : Type 0} (hashes : List ℕ) (hash : ℕ) (skipped : List Bool) (mark : Bool) (last : IndexMap ℕ ℕ H) (next : List ℕ) (before : ℕ) (x : AreLinked (hashes ++ hash ∷ []) (skipped ++ mark ∷ []) last (next ++ before ∷ [])) where
  same_marks : length skipped ≡ length hashes
  same_marks = omega (arith, long skipped mark, long hashes hash, x.marks)

  same_nexts : length next ≡ length hashes
  same_nexts = omega (arith, long next before, long hashes hash, x.nexts)

  -- it was the last of its hash, where it was not skipped
  pub last_some : mark ≡ false → 0 < last_in last hash
  last_some on =
      let here : ◌≡◌ {A = ℕ} (cond (nat_eq hash hash && not mark) (suc (length hashes)) (latest hashes skipped hash (length hashes))) (suc (length hashes)) =
      split_nat hash hash (λ _ e. rw (e, on) refl) (λ other _. absurd (other refl)) in
      let all = x.lasts hash ∙ latest_more hashes hash skipped mark same_marks hash ∙ here in
      omega (arith, all)

  pub linked_less : (last' : IndexMap ℕ ℕ H) → ((h : ℕ) → last_in last' h ≡ cond (nat_eq hash h && not mark) before (last_in last h)) → AreLinked hashes skipped last' next
  linked_less last' lasts = record {
    lasts = λ h. lasts h ∙ by h mark refl;
    nexts = same_nexts;
    marks = same_marks;
    links = λ i d low on.
        sym (get_or_append_left next (before ∷ []) d i (omega (arith, low, same_nexts)))
        ∙ x.links i d (omega (arith, low, long hashes hash)) (get_or_append_left skipped (mark ∷ []) true i (omega (arith, low, same_marks)) ∙ on)
        ∙ front_latest hashes hash skipped mark same_marks i low;
    ends = λ i low on.
        subst (λ k. 0 < k) (front_latest hashes hash skipped mark same_marks i low)
        (x.ends i (omega (arith, low, long hashes hash)) (get_or_append_left skipped (mark ∷ []) false i (omega (arith, low, same_marks)) ∙ on));
  }
    where
      was : mark ≡ false → before ≡ latest hashes skipped hash (length hashes)
      was on =
          sym (ap (λ k. get_or (next ++ before ∷ []) k 0) (sym same_nexts) ∙ last_put next before 0)
          ∙ x.links (length hashes) 0 (omega (arith, long hashes hash)) (last_mark hashes hash skipped mark same_marks ∙ on)
          ∙ latest_end hashes hash skipped mark same_marks

      all : (h : ℕ) → last_in last h ≡ cond (nat_eq h hash && not mark) (suc (length hashes)) (latest hashes skipped h (length hashes))
      all h = x.lasts h ∙ latest_more hashes hash skipped mark same_marks h

      none : (a b : ℕ) (t : Bool) → cond (t && false) a b ≡ b
      none a b true = refl
      none a b false = refl

      by : (h : ℕ) (m : Bool) → mark ≡ m → cond (nat_eq hash h && not mark) before (last_in last h) ≡ latest hashes skipped h (length hashes)
      by h true e =
          (λ i. cond (nat_eq hash h && not (e i)) before (last_in last h)) ∙ none before (last_in last h) (nat_eq hash h)
          ∙ all h ∙ (λ i. cond (nat_eq h hash && not (e i)) (suc (length hashes)) (latest hashes skipped h (length hashes))) ∙ none (suc (length hashes)) (latest hashes skipped h (length hashes)) (nat_eq h hash)
      by h false e =
          (λ i. cond (nat_eq hash h && not (e i)) before (last_in last h)) ∙ split_nat hash h
          (λ is t. rw t (was e ∙ ap (λ k. latest hashes skipped k (length hashes)) is))
          (λ other t. rw t (all h ∙ split_nat h hash (λ is u. absurd (other (sym is))) (λ _ u. rw u refl)))

-- what is chained without the last item
pub chained_front : (hashes : List ℕ) (hash : ℕ) (skipped : List Bool) (mark : Bool) (next : List ℕ) → length skipped ≡ length hashes
    → AreChained (hashes ++ hash ∷ []) (skipped ++ mark ∷ []) (length (hashes ++ hash ∷ [])) next → AreChained hashes skipped (length hashes) next
chained_front hashes hash skipped mark next same x i d low on =
    x i d (omega (arith, low, long hashes hash)) (get_or_append_left skipped (mark ∷ []) true i (omega (arith, low, same)) ∙ on)
    ∙ front_latest hashes hash skipped mark same i low

module _ (hashes : List ℕ) (skipped : List Bool) (n hash : ℕ) (test : ℕ → Bool) (past : (i : ℕ) → i < n → get_or skipped i true ≡ true → test i ≡ false) where
  -- behind the latest all fail
  fails_behind : (k i : ℕ) → k ≤ n → latest hashes skipped hash k ≤ i → i < k → get_or hashes i 0 ≡ hash → test i ≡ false
  fails_behind k i few low high h = by (get_or skipped i true) refl
    where
      by : (b : Bool) → get_or skipped i true ≡ b → test i ≡ false
      by true e = past i (omega (arith, high, few)) e
      by false e = absurd (latest_gap hashes skipped hash k i low high h e)

  -- a walk begins
  pub walk_start : (at : ℕ) → at ≡ latest hashes skipped hash n → IsWalked hashes skipped n hash test at
  walk_start at is = subst (IsWalked hashes skipped n hash test) (sym is) (record {
    within = latest_low hashes skipped hash n;
    here = latest_here hashes skipped hash n;
    linked = latest_on hashes skipped hash n;
    behind = λ i low high h. fails_behind n i (omega arith) low high h;
  })

  -- a walk goes on, where the item fails the test
  pub walk_on : (at at' : ℕ) → 0 < at → IsWalked hashes skipped n hash test at → test (at - 1) ≡ false → at' ≡ latest hashes skipped (get_or hashes (at - 1) 0) (at - 1) → IsWalked hashes skipped n hash test at'
  walk_on at at' some x fails is =
      let is' : at' ≡ latest hashes skipped hash (at - 1) = is ∙ ap (λ h. latest hashes skipped h (at - 1)) (x.here some) in
      subst (IsWalked hashes skipped n hash test) (sym is') (record {
        within = let low = latest_low hashes skipped hash (at - 1) in omega (arith, low, x.within);
        here = latest_here hashes skipped hash (at - 1);
        linked = latest_on hashes skipped hash (at - 1);
        behind = λ i low high h. split_nat i (at - 1)
            (λ same _. ap test same ∙ fails)
            (λ other _. by i low high h other);
      })
    where
      by : (i : ℕ) → latest hashes skipped hash (at - 1) ≤ i → i < n → get_or hashes i 0 ≡ hash → (i ≡ at - 1 → ⊥) → test i ≡ false
      by i low high h other = before (cases_lt i (at - 1))
        where
          before : (i < at - 1) ⊎ (at - 1 ≤ i) → test i ≡ false
          before (inl less) = fails_behind (at - 1) i (omega (arith, x.within)) low less h
          before (inr more) = x.behind i (omega (arith, more, other, some)) high h
