-- What a step makes of members.
use Rattle.std.proofs.Common.{◌≡◌, ℕ, suc, ◌+◌, ◌-◌, ◌<◌, ◌≤◌, Bool, true, false, not, cond, ◌||◌, ◌&&◌, List, [], ◌∷◌, ◌++◌, fold, length, get_or, nat_lt, set, refl, sym, ap, ◌∙◌, arith, subst, true≢false, length-append, length-set, is_some, Option, Some, None}
use Rattle.std.specs.Option.{IfSome}
use Rattle.std.proofs.lemmas.Bool.{eq-eqb, lt-ltb}
use Rattle.std.proofs.lemmas.List.Sums.{fold_push}
use Rattle.std.specs.Ordering.{is_eq}
use Rattle.std.specs.declared.cmp.Ordering.{Ordering}
use Rattle.std.specs.declared.cmp.Ordering.TheVariants.{Less, Equal, Greater}
use Rattle.td_value.specs.model.Sets.{put_in}
use Rattle.td_value.specs.model.Values.{IsAscendingBody, Tuple, tuple_cmp}
use Rattle.td_body.specs.declared.hashed.index.KeyIndex.{KeyIndex}
use Rattle.td_body.specs.declared.hashed.step.Step.{Step}
use Rattle.td_body.specs.declared.hashed.step.Step.TheVariants.{Kept, Added, Dropped}
use Rattle.td_body.specs.code.KeyIndexes.{IsIndex, agree_at}
use Rattle.td_body.specs.code.Logs.{is_proper, kept_by, proper_back, step_back}
use Rattle.td_body.specs.code.Members.{AreMembers, IsBefore, put_tuple, tuples_of, without}
use Rattle.td_body.specs.code.Numbered.{front, live, repeats, tuple_eq}
use Rattle.td_body.specs.code.Turns.{Becomes, EachTurned, Forgets, Keeps, Stays}
use Rattle.td_body.proofs.Lives.{any_gap, any_live, append_none, front_push, length_gap, live_gap, live_more, repeats_gap, repeats_more, set_back, set_here}
use Rattle.td_body.proofs.RowSteps.{repeats_back, tuple_equal, tuple_laws}
use Rattle.td_body.proofs.TupleSets.{ascends-put, ascends-set, ascends-without, has-put, has-set, has-without, has_tuple, same_tuples}
use Rattle.td_body.proofs.Turns.{turned_all}

-- ---- what is kept

-- as many are kept, whatever is known of each
many_from : {X Y : Type 0} (g : List Tuple → X) (h : List Tuple → Y) (log : List Step) (a : List Tuple → List Bool → List X) (b : List Tuple → List Bool → List Y)
    → ((rows : List Tuple) (gone : List Bool) → length (a rows gone) ≡ length (b rows gone)) → (rows : List Tuple) (gone : List Bool) → length (fold (step_back g) a log rows gone) ≡ length (fold (step_back h) b log rows gone)
many_from g h [] a b same rows gone = same rows gone
many_from g h (x ∷ log) a b same rows gone = many_from g h log (step_back g a x) (step_back h b x) (step x) rows gone
  where
    step : (x : Step) (rows : List Tuple) (gone : List Bool) → length (step_back g a x rows gone) ≡ length (step_back h b x rows gone)
    step Kept rows gone = omega (arith, same rows gone, length-append (a rows gone) (g (live rows gone) ∷ []), length-append (b rows gone) (h (live rows gone) ∷ []))
    step Added rows gone = same (front rows) (front gone)
    step (Dropped n) rows gone = same rows _

pub kept_many : {X Y : Type 0} (g : List Tuple → X) (h : List Tuple → Y) (log : List Step) (rows : List Tuple) (gone : List Bool) → length (kept_by g log rows gone) ≡ length (kept_by h log rows gone)
kept_many g h log rows gone = many_from g h log (λ _ _. []) (λ _ _. []) (λ _ _. refl) rows gone

module _ {X : Type 0} (g : List Tuple → X) (log : List Step) (rows : List Tuple) (gone : List Bool) where
  pub kept_push : (x : Step) → kept_by g (log ++ x ∷ []) rows gone ≡ step_back g (kept_by g log) x rows gone
  kept_push x = ap (λ f. f rows gone) (fold_push (step_back g) (λ _ _. []) log x)

  pub kept-kept : kept_by g (log ++ Kept ∷ []) rows gone ≡ kept_by g log rows gone ++ g (live rows gone) ∷ []
  kept-kept = kept_push Kept

pub kept-added : {X : Type 0} (g : List Tuple → X) (log : List Step) (rows : List Tuple) (gone : List Bool) (r : Tuple) → kept_by g (log ++ Added ∷ []) (rows ++ r ∷ []) (gone ++ false ∷ []) ≡ kept_by g log rows gone
kept-added g log rows gone r = kept_push g log (rows ++ r ∷ []) (gone ++ false ∷ []) Added ∙ (λ i. kept_by g log (front_push rows r i) (front_push gone false i))

pub kept-dropped : {X : Type 0} (g : List Tuple → X) (log : List Step) (rows : List Tuple) (gone : List Bool) (n : ℕ) → get_or gone n true ≡ false
    → kept_by g (log ++ Dropped n ∷ []) rows (set gone n true) ≡ kept_by g log rows gone
kept-dropped g log rows gone n is = kept_push g log rows (set gone n true) (Dropped n) ∙ ap (kept_by g log rows) (set_back gone n is)

module _ (fixed : ℕ) (log : List Step) where
  pub proper_push : (x : Step) (rows : List Tuple) (gone : List Bool) → is_proper fixed (log ++ x ∷ []) rows gone ≡ proper_back fixed (is_proper fixed log) x rows gone
  proper_push x rows gone = ap (λ f. f rows gone) (fold_push (proper_back fixed) (λ _ _. true) log x)

  pub proper-kept : (rows : List Tuple) (gone : List Bool) → repeats tuple_eq (live rows gone) ≡ 0 → is_proper fixed log rows gone ≡ true → is_proper fixed (log ++ Kept ∷ []) rows gone ≡ true
  proper-kept rows gone apart before = proper_push Kept rows gone ∙ rw (eq-eqb (repeats tuple_eq (live rows gone)) 0 apart, before) refl

  pub proper-added : (rows : List Tuple) (gone : List Bool) (r : Tuple) → fixed ≤ length rows → is_proper fixed log rows gone ≡ true → is_proper fixed (log ++ Added ∷ []) (rows ++ r ∷ []) (gone ++ false ∷ []) ≡ true
  proper-added rows gone r low before =
      let less : nat_lt fixed (length (rows ++ r ∷ [])) ≡ true = lt-ltb fixed (length (rows ++ r ∷ [])) (let l = length-append rows (r ∷ []) in omega (arith, l, low)) in
      proper_push Added (rows ++ r ∷ []) (gone ++ false ∷ []) ∙ rw (less, front_push rows r, front_push gone false, before) refl

  pub proper-dropped : (rows : List Tuple) (gone : List Bool) (n : ℕ) → n < length rows → get_or gone n true ≡ false → is_proper fixed log rows gone ≡ true → is_proper fixed (log ++ Dropped n ∷ []) rows (set gone n true) ≡ true
  proper-dropped rows gone n low is before =
      let less : nat_lt n (length rows) ≡ true = lt-ltb n (length rows) low in
      proper_push (Dropped n) rows (set gone n true) ∙ rw (less, set_back gone n is, before) refl

-- ---- the sets

pub tuples_of-is : (xs ys : List Tuple) → IsAscendingBody ys → ((t : Tuple) → has_tuple t xs ≡ has_tuple t ys) → tuples_of xs ≡ ys
tuples_of-is xs ys up same = same_tuples (tuples_of xs) ys (ascends-set xs) up (λ t. has-set t xs ∙ same t)

any_more : (t : Tuple) (xs : List Tuple) (r : Tuple) → has_tuple t (xs ++ r ∷ []) ≡ (tuple_eq t r || has_tuple t xs)
any_more t xs r = any_gap (tuple_eq t) xs [] r ∙ ap (λ l. tuple_eq t r || has_tuple t l) (append_none xs)

-- a tuple more
pub set_more : (xs : List Tuple) (r : Tuple) → tuples_of (xs ++ r ∷ []) ≡ put_tuple r (tuples_of xs)
set_more xs r = tuples_of-is (xs ++ r ∷ []) (put_tuple r (tuples_of xs)) (ascends-put r (tuples_of xs) (ascends-set xs))
    (λ t. any_more t xs r ∙ sym (has-put t r (tuples_of xs) ∙ ap (λ b. tuple_eq t r || b) (has-set t xs)))

none_else : (xs ys : List Tuple) (r : Tuple) → repeats tuple_eq (xs ++ r ∷ ys) ≡ 0 → has_tuple r (xs ++ ys) ≡ false
none_else xs ys r apart = by (has_tuple r (xs ++ ys)) refl (sym (repeats_gap tuple_eq tuple_laws xs ys r) ∙ apart)
  where
    by : (b : Bool) → has_tuple r (xs ++ ys) ≡ b → cond (has_tuple r (xs ++ ys)) 1 0 + repeats tuple_eq (xs ++ ys) ≡ 0 → b ≡ false
    by true e z = (let z' : 1 + repeats tuple_eq (xs ++ ys) ≡ 0 = sym (ap (λ b. cond b 1 0 + repeats tuple_eq (xs ++ ys)) e) ∙ z in absurd (omega (arith, z')))
    by false e z = refl

-- a tuple less
pub set_less : (xs ys : List Tuple) (r : Tuple) → repeats tuple_eq (xs ++ r ∷ ys) ≡ 0 → tuples_of (xs ++ ys) ≡ without r (tuples_of (xs ++ r ∷ ys))
set_less xs ys r apart = tuples_of-is (xs ++ ys) (without r (tuples_of (xs ++ r ∷ ys))) (ascends-without r (tuples_of (xs ++ r ∷ ys)) (ascends-set (xs ++ r ∷ ys)))
    (λ t. sym (has-without t r (tuples_of (xs ++ r ∷ ys)) ∙ ap (λ b. not (tuple_eq t r) && b) (has-set t (xs ++ r ∷ ys) ∙ any_gap (tuple_eq t) xs ys r) ∙ by t (tuple_eq t r) refl))
  where
    by : (t : Tuple) (b : Bool) → tuple_eq t r ≡ b → (not b && (b || has_tuple t (xs ++ ys))) ≡ has_tuple t (xs ++ ys)
    by t true e = sym (ap (λ z. has_tuple z (xs ++ ys)) (tuple_equal t r e) ∙ none_else xs ys r apart)
    by t false e = refl

-- ---- a tuple comes in

all_before : (log log' : List Step) (rows rows' : List Tuple) (gone gone' : List Bool) (x y : KeyIndex)
    → ((places : List ℕ) → kept_by (repeats (agree_at places)) log' rows' gone' ≡ kept_by (repeats (agree_at places)) log rows gone)
    → y.clashes.before.items ≡ x.clashes.before.items → y.places.items ≡ x.places.items → IsBefore log rows gone x → IsBefore log' rows' gone' y
all_before log log' rows rows' gone gone' x y same before places is =
    before ∙ is ∙ ap (λ ps. kept_by (repeats (agree_at ps)) log rows gone) (sym places) ∙ sym (same y.places.items)

module _ (rows : List Tuple) (gone : List Bool) (fixed alive : ℕ) (before : List ℕ) (indexes : List KeyIndex) (log : List Step) (t : AreMembers rows gone fixed alive before indexes log) where
  pub members_same : (alive' : ℕ) (before' : List ℕ) (indexes' : List KeyIndex) → alive' ≡ alive → before' ≡ before → EachTurned Stays indexes indexes' → AreMembers rows gone fixed alive' before' indexes' log
  members_same alive' before' indexes' a b turned = record {
    marks = t.marks;
    apart = t.apart;
    proper = t.proper;
    counted = a ∙ t.counted;
    kept = b ∙ t.kept;
    indexed = turned_all Stays (IsIndex rows gone) (IsIndex rows gone) indexes indexes' turned (λ x y s i. s.index rows gone i) t.indexed;
    clashes = turned_all Stays (IsBefore log rows gone) (IsBefore log rows gone) indexes indexes' turned (λ x y s i. all_before log log rows rows gone gone x y (λ _. refl) s.before s.places i) t.clashes;
    some = omega (arith, t.some, turned.many);
  }

  pub members_added : (r : Tuple) (indexes' : List KeyIndex) → fixed ≤ length rows → has_tuple r (live rows gone) ≡ false → EachTurned (Becomes (rows ++ r ∷ []) (gone ++ false ∷ [])) indexes indexes'
      → AreMembers (rows ++ r ∷ []) (gone ++ false ∷ []) fixed (alive + 1) before indexes' (log ++ Added ∷ [])
  members_added r indexes' low new turned =
      let more = live_more rows gone r t.marks in
      record {
        marks = omega (arith, length-append rows (r ∷ []), length-append gone (false ∷ []), t.marks);
        apart = ap (repeats tuple_eq) more ∙ (let m = repeats_more tuple_eq tuple_laws (live rows gone) r in
            let z : ◌≡◌ {A = ℕ} (cond (has_tuple r (live rows gone)) 1 0) 0 = ap (λ b. cond b 1 0) new in
            let none : repeats tuple_eq (live rows gone ++ r ∷ []) ≡ 0 = omega (arith, m, z, t.apart) in none);
        proper = proper-added fixed log rows gone r low t.proper;
        counted = (let l = length-append (live rows gone) (r ∷ []) in let n : alive + 1 ≡ length (live rows gone ++ r ∷ []) = omega (arith, l, t.counted) in n) ∙ ap length (sym more);
        kept = t.kept ∙ sym (kept-added length log rows gone r);
        indexed = turned_all (Becomes (rows ++ r ∷ []) (gone ++ false ∷ [])) (IsIndex rows gone) (IsIndex (rows ++ r ∷ []) (gone ++ false ∷ [])) indexes indexes' turned (λ x y s i. s.index) t.indexed;
        clashes = turned_all (Becomes (rows ++ r ∷ []) (gone ++ false ∷ [])) (IsBefore log rows gone) (IsBefore (log ++ Added ∷ []) (rows ++ r ∷ []) (gone ++ false ∷ [])) indexes indexes' turned
            (λ x y s i. all_before log (log ++ Added ∷ []) rows (rows ++ r ∷ []) gone (gone ++ false ∷ []) x y (λ ps. kept-added (repeats (agree_at ps)) log rows gone r) s.before s.places i) t.clashes;
        some = omega (arith, t.some, turned.many);
      }

  -- the tuple of a number goes out
  module _ (n : ℕ) (low : n < length rows) (there : get_or gone n true ≡ false) where
    many : length (set gone n true) ≡ length rows
    many = length-set gone n true ∙ t.marks

    here : get_or (set gone n true) n false ≡ true
    here = set_here gone n (omega (arith, low, t.marks))

    -- without the tuple
    pub dropped_set : (d : Tuple) → tuples_of (live rows (set gone n true)) ≡ without (get_or rows n d) (tuples_of (live rows gone))
    dropped_set d =
        let gap = live_gap rows (set gone n true) n d many low here in
        let whole : live rows gone ≡ gap.0 ++ get_or rows n d ∷ gap.1 = ap (live rows) (sym (set_back gone n there)) ∙ gap.2 in
        ap tuples_of gap.3 ∙ set_less gap.0 gap.1 (get_or rows n d) (ap (repeats tuple_eq) (sym whole) ∙ t.apart) ∙ ap (λ l. without (get_or rows n d) (tuples_of l)) (sym whole)

    pub dropped_count : (d : Tuple) → alive ≡ length (live rows (set gone n true)) + 1
    dropped_count d =
        let gap = live_gap rows (set gone n true) n d many low here in
        let whole : live rows gone ≡ gap.0 ++ get_or rows n d ∷ gap.1 = ap (live rows) (sym (set_back gone n there)) ∙ gap.2 in
        let l = length_gap gap.0 gap.1 (get_or rows n d) in
        omega (arith, l, t.counted, ap length whole, ap length gap.3)

    pub members_dropped : (d : Tuple) (indexes' : List KeyIndex) → EachTurned (Becomes rows (set gone n true)) indexes indexes'
        → AreMembers rows (set gone n true) fixed (alive - 1) before indexes' (log ++ Dropped n ∷ [])
    members_dropped d indexes' turned =
        let count = dropped_count d in
        let marked = repeats_back tuple_eq tuple_laws rows (set gone n true) n d many low here in
        let was : repeats tuple_eq (live rows (set (set gone n true) n false)) ≡ 0 = ap (λ g. repeats tuple_eq (live rows g)) (set_back gone n there) ∙ t.apart in
        record {
          marks = many;
          apart = omega (arith, marked, was);
          proper = proper-dropped fixed log rows gone n low there t.proper;
          counted = omega (arith, count);
          kept = t.kept ∙ sym (kept-dropped length log rows gone n there);
          indexed = turned_all (Becomes rows (set gone n true)) (IsIndex rows gone) (IsIndex rows (set gone n true)) indexes indexes' turned (λ x y s i. s.index) t.indexed;
          clashes = turned_all (Becomes rows (set gone n true)) (IsBefore log rows gone) (IsBefore (log ++ Dropped n ∷ []) rows (set gone n true)) indexes indexes' turned
              (λ x y s i. all_before log (log ++ Dropped n ∷ []) rows rows gone (set gone n true) x y (λ ps. kept-dropped (repeats (agree_at ps)) log rows gone n there) s.before s.places i) t.clashes;
          some = omega (arith, t.some, turned.many);
        }

  -- the set is kept
  pub members_kept : (indexes' : List KeyIndex) → EachTurned Keeps indexes indexes' → AreMembers rows gone fixed alive (before ++ alive ∷ []) indexes' (log ++ Kept ∷ [])
  members_kept indexes' turned = record {
    marks = t.marks;
    apart = t.apart;
    proper = proper-kept fixed log rows gone t.apart t.proper;
    counted = t.counted;
    kept = (λ i. t.kept i ++ t.counted i ∷ []) ∙ sym (kept-kept length log rows gone);
    indexed = turned_all Keeps (IsIndex rows gone) (IsIndex rows gone) indexes indexes' turned (λ x y s i. s.index rows gone i) t.indexed;
    clashes = turned_all Keeps (λ x. IsIndex rows gone x × IsBefore log rows gone x) (IsBefore (log ++ Kept ∷ []) rows gone) indexes indexes' turned
        (λ x y s i. s.before ∙ (λ j. i.1 j ++ i.0.1 j ∷ []) ∙ sym (kept-kept (repeats (agree_at x.places.items)) log rows gone) ∙ ap (λ ps. kept_by (repeats (agree_at ps)) (log ++ Kept ∷ []) rows gone) (sym s.places))
        (λ k d low. (t.indexed k d low, t.clashes k d low));
    some = omega (arith, t.some, turned.many);
  }

  -- nothing is kept
  pub members_forgot : (indexes' : List KeyIndex) → EachTurned Forgets indexes indexes' → AreMembers rows gone fixed alive [] indexes' []
  members_forgot indexes' turned = record {
    marks = t.marks;
    apart = t.apart;
    proper = refl;
    counted = t.counted;
    kept = refl;
    indexed = turned_all Forgets (IsIndex rows gone) (IsIndex rows gone) indexes indexes' turned (λ x y s i. s.index rows gone i) t.indexed;
    clashes = turned_all Forgets (IsBefore log rows gone) (IsBefore [] rows gone) indexes indexes' turned (λ x y s i. s.before) t.clashes;
    some = omega (arith, t.some, turned.many);
  }

-- the same members under other names
pub members_moved : (rows rows' : List Tuple) (gone gone' : List Bool) (fixed fixed' alive : ℕ) (before : List ℕ) (indexes : List KeyIndex) (log log' : List Step)
    → rows' ≡ rows → gone' ≡ gone → fixed' ≡ fixed → log' ≡ log → AreMembers rows gone fixed alive before indexes log → AreMembers rows' gone' fixed' alive before indexes log'
members_moved rows rows' gone gone' fixed fixed' alive before indexes log log' a b c d t =
    subst (λ x. AreMembers x gone' fixed' alive before indexes log') (sym a)
    (subst (λ x. AreMembers rows x fixed' alive before indexes log') (sym b)
    (subst (λ x. AreMembers rows gone x alive before indexes log') (sym c)
    (subst (λ x. AreMembers rows gone fixed alive before indexes x) (sym d) t)))

-- what is found is there
pub find_has : (rows : List Tuple) (gone : List Bool) (row : Tuple) (o : Option ℕ) → length gone ≡ length rows → IfSome o (λ i. i < length rows) → IfSome o (λ i. get_or gone i true ≡ false)
    → IfSome o (λ i. get_or rows i row ≡ row) → (o ≡ None → has_tuple row (live rows gone) ≡ false) → is_some o ≡ has_tuple row (tuples_of (live rows gone))
find_has rows gone row None e within there same none = sym (has-set row (live rows gone) ∙ none refl)
find_has rows gone row (Some i) e within there same none =
    sym (has-set row (live rows gone) ∙ any_live (tuple_eq row) rows gone i row e within there (ap (tuple_eq row) same ∙ tuple_laws.refl row))

length_with : (r : Tuple) (s : List Tuple) → has_tuple r s ≡ false → length (put_tuple r s) ≡ suc (length s)
length_with r [] none = refl
length_with r (x ∷ s) none = by (length_with r s) (tuple_cmp r x) refl
  where
    by : (has_tuple r s ≡ false → length (put_tuple r s) ≡ suc (length s)) → (o : Ordering) → tuple_cmp r x ≡ o → length (put_tuple r (x ∷ s)) ≡ suc (suc (length s))
    by rest Less e = rw (put_in, e) refl
    by rest Equal e = absurd (true≢false (sym (ap (λ o. is_eq o || has_tuple r s) e) ∙ none))
    by rest Greater e = rw (put_in, e) (ap suc (rest (sym (ap (λ o. is_eq o || has_tuple r s) e) ∙ none)))

-- where none is twice, the set has as many tuples
pub length_set : (xs : List Tuple) → repeats tuple_eq xs ≡ 0 → length (tuples_of xs) ≡ length xs
length_set [] e = refl
length_set (x ∷ xs) e = by (length_set xs) (has_tuple x xs) refl e
  where
    by : (repeats tuple_eq xs ≡ 0 → length (tuples_of xs) ≡ length xs) → (b : Bool) → has_tuple x xs ≡ b → cond b 1 0 + repeats tuple_eq xs ≡ 0 → length (tuples_of (x ∷ xs)) ≡ length (x ∷ xs)
    by rest true h z = absurd (omega (arith, z))
    by rest false h z = length_with x (tuples_of xs) (has-set x xs ∙ h) ∙ ap suc (rest (omega (arith, z)))
