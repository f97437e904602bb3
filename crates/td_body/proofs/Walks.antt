-- What a walk over the tuples of a hash shows.
use Rattle.std.proofs.Common.{◌≡◌, ℕ, zero, suc, take, ◌+◌, ◌-◌, ◌<◌, ◌≤◌, Bool, true, false, not, cond, ◌&&◌, List, [], ◌∷◌, ◌++◌, Option, Some, None, length, get_or, map, refl, set, sym, ap, ◌∙◌, arith, subst, true≢false}
use Rattle.std.proofs.lemmas.List.{get_or_default, get_or-map, get_or-set_other, get_or-set_same, length-map, map-append, length-take, take_more}
use Rattle.std.specs.declared.cmp.Ordering.{Ordering}
use Rattle.std.specs.declared.cmp.Ordering.TheVariants.{Less, Equal, Greater}
use Rattle.std.specs.Cmp.{IsEquivalence}
use Rattle.std.specs.List.{list_any}
use Rattle.std.specs.Option.{option_cmp}
use Rattle.std.specs.Ordering.{is_eq, ordering_reverse}
use Rattle.td_types.specs.code.Keys.{list_same}
use Rattle.td_value.specs.model.Values.{Tuple, Val, value_cmp}
use Rattle.td_value.specs.code.ValueOrder.{equal_from, order_same}
use Rattle.indexmap.specs.IndexMap.{IndexMap}
use Rattle.td_body.specs.code.Chains.{AreChained, AreLinked, IsWalked, last_in, latest}
use Rattle.td_body.specs.code.Numbered.{live, repeats}
use Rattle.td_body.specs.code.KeyIndexes.{AreGone, IsLinked, agree_at, hashes_in}
use Rattle.td_body.specs.code.Hashes.{found_hash, part_hash}
use Rattle.td_body.specs.code.KeyParts.{tuple_values_at, values_cmp}
use Rattle.td_body.specs.declared.hashed.index.KeyIndex.{KeyIndex}
use Rattle.td_body.proofs.KeyParts.{found_order, found_order_total}
use Rattle.td_body.proofs.Lives.{live_gap, live_more, none_live, repeats_gap}
use Rattle.td_body.proofs.Linked.{chained_front, latest_alike, latest_low, split_nat, walk_on, walk_start}

pub length_take_low : {K : Type 0} (n : ℕ) (xs : List K) → n ≤ length xs → length (take n xs) ≡ n
length_take_low zero xs low = refl
length_take_low (suc n) [] low = absurd (omega (arith, low))
length_take_low (suc n) (x ∷ xs) low = let rest = length_take_low n xs (omega (arith, low)) in omega (arith, rest)

pub get_or_take_low : {K : Type 0} (xs : List K) (i n : ℕ) (d : K) → i < n → get_or (take n xs) i d ≡ get_or xs i d
get_or_take_low xs i zero d low = absurd (omega (arith, low))
get_or_take_low [] i (suc n) d low = refl
get_or_take_low (x ∷ xs) zero (suc n) d low = refl
get_or_take_low (x ∷ xs) (suc i) (suc n) d low = get_or_take_low xs i n d (omega (arith, low))

-- a walk over the first n tuples has ended: none of them passes
pub walk_done : (hash : Tuple → ℕ) (rows : List Tuple) (gone skipped : List Bool) (n : ℕ) (d : Tuple) (h : ℕ) (test : Tuple → Bool) → length gone ≡ length rows → n ≤ length rows
    → ((r : Tuple) → test r ≡ true → hash r ≡ h) → IsWalked (map hash rows) skipped n h (λ i. not (get_or gone i true) && test (get_or rows i d)) 0 → list_any test (live (take n rows) (take n gone)) ≡ false
walk_done hash rows gone skipped n d h test e few hashed x =
    let taken : length (take n rows) ≡ n = length_take_low n rows few in
    none_live test (take n rows) (take n gone) d (length_take_low n gone (omega (arith, e, few)) ∙ sym taken)
    (λ i low. let l : i < n = omega (arith, low, taken) in
    rw (get_or_take_low gone i n true l, get_or_take_low rows i n d l) (split_nat (hash (get_or rows i d)) h
    (λ is _. x.behind i (omega arith) l (get_or-map hash rows i d 0 (omega (arith, l, few)) ∙ is))
    (λ other _. by i other (test (get_or rows i d)) refl)))
  where
    and_false : (b : Bool) → (b && false) ≡ false
    and_false true = refl
    and_false false = refl

    by : (i : ℕ) → (hash (get_or rows i d) ≡ h → ⊥) → (b : Bool) → test (get_or rows i d) ≡ b → (not (get_or gone i true) && test (get_or rows i d)) ≡ false
    by i other true t = absurd (other (hashed (get_or rows i d) t))
    by i other false t = rw t (and_false (not (get_or gone i true)))

pub take_all : {K : Type 0} (n : ℕ) (xs : List K) → length xs ≡ n → take n xs ≡ xs
take_all zero [] e = refl
take_all zero (x ∷ xs) e = absurd (omega (arith, e))
take_all (suc n) [] e = refl
take_all (suc n) (x ∷ xs) e = ap (λ l. x ∷ l) (take_all n xs (omega (arith, e)))

-- ---- tuples that agree at places

option_same : (a b : Option Val) → option_cmp value_cmp a b ≡ Equal → a ≡ b
option_same None None e = refl
option_same None (Some w) e = cc
option_same (Some v) None e = cc
option_same (Some v) (Some w) e = ap Some (order_same v w e)

pub tied_values : (vs ws : List (Option Val)) → is_eq (found_order vs ws) ≡ true → vs ≡ ws
tied_values vs ws e = list_same (option_cmp value_cmp) option_same vs ws (equal_from (found_order vs ws) e)

equal_to_self : (o : Ordering) → o ≡ ordering_reverse o → is_eq o ≡ true
equal_to_self Less e = cc
equal_to_self Equal e = refl
equal_to_self Greater e = cc

pub same_values : (places : List ℕ) (r s : Tuple) → agree_at places r s ≡ true → tuple_values_at places r ≡ tuple_values_at places s
same_values places r s e = tied_values (tuple_values_at places r) (tuple_values_at places s) e

pub agreed : (places : List ℕ) (r s : Tuple) → tuple_values_at places r ≡ tuple_values_at places s → agree_at places r s ≡ true
agreed places r s e =
    ap (λ vs. is_eq (found_order (tuple_values_at places r) vs)) (sym e)
    ∙ equal_to_self (found_order (tuple_values_at places r) (tuple_values_at places r)) (found_order_total.antisymm (tuple_values_at places r) (tuple_values_at places r))

-- tuples that agree have one hash
pub same_hash : (places : List ℕ) (r s : Tuple) → agree_at places r s ≡ true → part_hash places s ≡ part_hash places r
same_hash places r s e = ap found_hash (sym (same_values places r s e))

-- so have those whose values are those of a part
pub hash_with : (places : List ℕ) (part : List Val) (t : Tuple) → is_eq (values_cmp places t part) ≡ true → part_hash places t ≡ found_hash (map Some part)
hash_with places part t e = ap found_hash (tied_values (tuple_values_at places t) (map Some part) e)

pub either : (a b : Bool) → (a ≡ true → b ≡ true) → (b ≡ true → a ≡ true) → a ≡ b
either true b f g = sym (f refl)
either false true f g = g refl
either false false f g = refl

pub agree_laws : (places : List ℕ) → IsEquivalence (agree_at places)
agree_laws places = record {
  refl = λ r. agreed places r r refl;
  symm = λ r s. either _ _ (λ e. agreed places s r (sym (same_values places r s e))) (λ e. agreed places r s (sym (same_values places s r e)));
  congr = λ r s t e. either _ _
      (λ f. agreed places s t (sym (same_values places r s e) ∙ same_values places r t f))
      (λ f. agreed places r t (same_values places r s e ∙ same_values places s t f));
}

-- ---- how many are alike

-- fewer than there are, where there is one
pub repeats_few : {K : Type 0} (alike : K → K → Bool) (xs : List K) → repeats alike xs ≤ length xs
repeats_few alike [] = omega arith
repeats_few alike (x ∷ xs) = let few = repeats_few alike xs in one (list_any (alike x) xs) few
  where
    one : (b : Bool) → repeats alike xs ≤ length xs → cond b 1 0 + repeats alike xs ≤ length (x ∷ xs)
    one true few = omega (arith, few)
    one false few = omega (arith, few)

pub repeats_fewer : {K : Type 0} (alike : K → K → Bool) (xs : List K) → 0 < length xs → repeats alike xs < length xs
repeats_fewer alike [] some = absurd (omega (arith, some))
repeats_fewer alike (x ∷ []) some = omega arith
repeats_fewer alike (x ∷ y ∷ ys) some = let few = repeats_fewer alike (y ∷ ys) (omega arith) in one (list_any (alike x) (y ∷ ys)) few
  where
    one : (b : Bool) → repeats alike (y ∷ ys) < length (y ∷ ys) → cond b 1 0 + repeats alike (y ∷ ys) < length (x ∷ y ∷ ys)
    one true few = omega (arith, few)
    one false few = omega (arith, few)

pub live_few : {K : Type 0} (rows : List K) (gone : List Bool) → length (live rows gone) ≤ length rows
live_few [] gone = omega arith
live_few (r ∷ rows) [] = omega arith
live_few (r ∷ rows) (true ∷ gone) = let few = live_few rows gone in omega (arith, few)
live_few (r ∷ rows) (false ∷ gone) = let few = live_few rows gone in omega (arith, few)

pub some_any : {K : Type 0} (test : K → Bool) (xs : List K) → list_any test xs ≡ true → 0 < length xs
some_any test [] e = absurd (true≢false (sym e))
some_any test (x ∷ xs) e = omega arith

-- a tuple that is marked, before and after
pub repeats_marked : {K : Type 0} (alike : K → K → Bool) → IsEquivalence alike → (rows : List K) (gone : List Bool) (i : ℕ) (d : K) → length gone ≡ length rows → i < length rows
    → get_or gone i false ≡ true → repeats alike (live rows (set gone i false)) ≡ cond (list_any (alike (get_or rows i d)) (live rows gone)) 1 0 + repeats alike (live rows gone)
repeats_marked alike laws rows gone i d e low marked =
    let gap = live_gap rows gone i d e low marked in
    ap (repeats alike) gap.2 ∙ repeats_gap alike laws gap.0 gap.1 (get_or rows i d)
    ∙ ap (λ zs. cond (list_any (alike (get_or rows i d)) zs) 1 0 + repeats alike zs) (sym gap.3)

pub both_true : (a b : Bool) → (not a && b) ≡ true → (a ≡ false) × (b ≡ true)
both_true true b e = absurd (true≢false (sym e))
both_true false b e = (refl, e)

pub zero_marked : {K : Type 0} (alike : K → K → Bool) → IsEquivalence alike → (rows : List K) (gone : List Bool) (i : ℕ) → length gone ≡ length rows → i < length rows
    → get_or gone i false ≡ true → repeats alike (live rows (set gone i false)) ≡ 0 → repeats alike (live rows gone) ≡ 0
zero_marked alike laws [] gone i e low marked none = absurd (omega (arith, low))
zero_marked alike laws (x ∷ xs) gone i e low marked none =
    let one = repeats_marked alike laws (x ∷ xs) gone i x e low marked in
    omega (arith, one, none)

-- all of them are the first of them
pub live_taken : {K : Type 0} (n : ℕ) (rows : List K) (gone : List Bool) → n ≡ length rows → length gone ≡ length rows → live (take n rows) (take n gone) ≡ live rows gone
live_taken n rows gone e m = let f : length gone ≡ n = m ∙ sym e in λ i. live (take_all n rows (sym e) i) (take_all n gone f i)

-- what a walk over all tuples answers
pub agreed_now : (at places : List ℕ) (row : Tuple) (n : ℕ) (rows : List Tuple) (gone : List Bool) → at ≡ places → n ≡ length rows → length gone ≡ length rows
    → list_any (agree_at at row) (live (take n rows) (take n gone)) ≡ list_any (agree_at places row) (live rows gone)
agreed_now at places row n rows gone is e m = λ i. list_any (agree_at (is i) row) (live_taken n rows gone e m i)

-- once an item is put behind the others, these are chained as before
pub chained_now : {H : Type 0} (ps places : List ℕ) (rows : List Tuple) (hash n : ℕ) (skipped marks : List Bool) (last : IndexMap ℕ ℕ H) (next next' : List ℕ) → length skipped ≡ n
    → AreLinked (map (part_hash places) rows ++ hash ∷ []) marks last next → marks ≡ skipped ++ false ∷ [] → ps ≡ places → next' ≡ next → n ≡ length rows → AreChained (map (part_hash ps) rows) skipped n next'
chained_now ps places rows hash n skipped marks last next next' long x put is same e =
    let m : length (map (part_hash places) rows) ≡ n = length-map rows (part_hash places) ∙ sym e in
    subst (λ z. AreChained (map (part_hash z) rows) skipped n next') (sym is)
    (subst (λ z. AreChained (map (part_hash places) rows) skipped n z) (sym same)
    (subst (λ z. AreChained (map (part_hash places) rows) skipped z next) m (chained_front (map (part_hash places) rows) hash skipped false next (long ∙ sym m)
    (subst (λ ms. AreChained (map (part_hash places) rows ++ hash ∷ []) ms (length (map (part_hash places) rows ++ hash ∷ [])) next) put x.links))))

pub hashed_first : (f : Tuple → ℕ) (rows : List Tuple) (n i : ℕ) → i < n → get_or (map f (take n rows)) i 0 ≡ get_or (map f rows) i 0
hashed_first f rows zero i low = absurd (omega (arith, low))
hashed_first f [] (suc n) i low = refl
hashed_first f (x ∷ rows) (suc n) zero low = refl
hashed_first f (x ∷ rows) (suc n) (suc i) low = hashed_first f rows n i (omega (arith, low))

pub latest_first : (f : Tuple → ℕ) (rows : List Tuple) (skipped : List Bool) (hash n : ℕ) → n ≤ length rows → latest (map f (take n rows)) skipped hash (length (map f (take n rows))) ≡ latest (map f rows) skipped hash n
latest_first f rows skipped hash n low =
    ap (latest (map f (take n rows)) skipped hash) (length-map (take n rows) f ∙ length_take_low n rows low)
    ∙ latest_alike (map f (take n rows)) (map f rows) skipped skipped hash n (λ i less. hashed_first f rows n i less) (λ i _ _. refl)

pub length_take_marks : {K : Type 0} (n : ℕ) (rows : List K) (gone : List Bool) → length gone ≡ length rows → n ≤ length rows → length (take n gone) ≡ length (take n rows)
length_take_marks n rows gone e low = length_take_low n gone (omega (arith, e, low)) ∙ sym (length_take_low n rows low)

pub live_more_gone : {K : Type 0} (rows : List K) (gone : List Bool) (r : K) → length gone ≡ length rows → live (rows ++ r ∷ []) (gone ++ true ∷ []) ≡ live rows gone
live_more_gone [] [] r e = refl
live_more_gone [] (m ∷ gone) r e = absurd (omega (arith, e))
live_more_gone (x ∷ rows) [] r e = absurd (omega (arith, e))
live_more_gone (x ∷ rows) (true ∷ gone) r e = live_more_gone rows gone r (omega (arith, e))
live_more_gone (x ∷ rows) (false ∷ gone) r e = ap (λ l. x ∷ l) (live_more_gone rows gone r (omega (arith, e)))

-- the same where the items are the first n tuples
pub chained_first : {H : Type 0} (ps places : List ℕ) (rows : List Tuple) (hash n : ℕ) (skipped marks : List Bool) (last : IndexMap ℕ ℕ H) (next next' : List ℕ) → length skipped ≡ n
    → AreLinked (map (part_hash places) (take n rows) ++ hash ∷ []) marks last next → marks ≡ skipped ++ false ∷ [] → ps ≡ places → next' ≡ next → n ≤ length rows → AreChained (map (part_hash ps) rows) skipped n next'
chained_first ps places rows hash n skipped marks last next next' long x put is same low =
    let taken : n ≡ length (take n rows) = sym (length_take_low n rows low) in
    let first : AreChained (map (part_hash ps) (take n rows)) skipped n next' = chained_now ps places (take n rows) hash n skipped marks last next next' long x put is same taken in
    λ i d less there. first i d less there
    ∙ latest_alike (map (part_hash ps) (take n rows)) (map (part_hash ps) rows) skipped skipped (get_or (map (part_hash ps) (take n rows)) i 0) i (λ j under. hashed_first (part_hash ps) rows n j (omega (arith, under, less))) (λ j _ _. refl)
    ∙ ap (λ h. latest (map (part_hash ps) rows) skipped h i) (hashed_first (part_hash ps) rows n i less)

module _ {K : Type 0} (rows : List K) (gone : List Bool) (n : ℕ) (d : K) (e : length gone ≡ length rows) (low : n < length rows) where
  marks_taken : length (take n gone) ≡ length (take n rows)
  marks_taken = length_take_marks n rows gone e (omega (arith, low))

  pub live_step : get_or gone n true ≡ false → live (take (n + 1) rows) (take (n + 1) gone) ≡ live (take n rows) (take n gone) ++ get_or rows n d ∷ []
  live_step there =
      (λ i. live (take_more rows n d low i) ((take_more gone n true (omega (arith, low, e)) ∙ ap (λ m. take n gone ++ m ∷ []) there) i))
      ∙ live_more (take n rows) (take n gone) (get_or rows n d) marks_taken

  pub live_step_gone : get_or gone n true ≡ true → live (take (n + 1) rows) (take (n + 1) gone) ≡ live (take n rows) (take n gone)
  live_step_gone there =
      (λ i. live (take_more rows n d low i) ((take_more gone n true (omega (arith, low, e)) ∙ ap (λ m. take n gone ++ m ∷ []) there) i))
      ∙ live_more_gone (take n rows) (take n gone) (get_or rows n d) marks_taken

pub hashes_step : (f : Tuple → ℕ) (rows : List Tuple) (n : ℕ) (r : Tuple) → n < length rows → r ≡ get_or rows n r → map f (take n rows) ++ f r ∷ [] ≡ map f (take (n + 1) rows)
hashes_step f rows n r low is =
    ap (λ z. map f (take n rows) ++ f z ∷ []) is ∙ sym (map-append f (take n rows) (get_or rows n r ∷ [])) ∙ ap (map f) (sym (take_more rows n r low))

pub live_few_taken : {K : Type 0} (n : ℕ) (rows : List K) (gone : List Bool) → length (live (take n rows) (take n gone)) ≤ length rows
live_few_taken n rows gone = let few = live_few (take n rows) (take n gone) in let less = length-take n rows in omega (arith, few, less)

pub is_there : (b c : Bool) → c ≡ not b → c ≡ true → b ≡ false
is_there true c e t = absurd (true≢false (sym t ∙ e))
is_there false c e t = refl

pub is_gone : (b c : Bool) → c ≡ not b → not c ≡ true → b ≡ true
is_gone true c e t = refl
is_gone false c e t = absurd (true≢false (sym t ∙ ap not e))

-- ---- what is skipped is gone

pub true_always : (xs : List Bool) (i : ℕ) → get_or xs i false ≡ true → get_or xs i true ≡ true
true_always [] i e = refl
true_always (x ∷ xs) zero e = e
true_always (x ∷ xs) (suc i) e = true_always xs i e

-- of the first marks only
pub gone_taken : (skipped gone : List Bool) (n : ℕ) → AreGone skipped (take n gone) → AreGone skipped gone
gone_taken skipped gone n x i e = taken gone n i (x i e)
  where
    taken : (xs : List Bool) (n i : ℕ) → get_or (take n xs) i false ≡ true → get_or xs i false ≡ true
    taken xs zero i e = absurd (true≢false (sym e))
    taken [] (suc n) i e = e
    taken (x ∷ xs) (suc n) zero e = e
    taken (x ∷ xs) (suc n) (suc i) e = taken xs n i e

-- where a mark more is set
pub gone_set : (skipped gone : List Bool) (number : ℕ) → number < length gone → AreGone skipped (set gone number false) → AreGone skipped gone
gone_set skipped gone number low x i e = split_nat i number
    (λ same _. absurd (true≢false (sym (x i e) ∙ ap (λ k. get_or (set gone number false) k false) same ∙ get_or-set_same gone number false false low)))
    (λ other _. sym (get_or-set_other gone number i false false other) ∙ x i e)

-- ---- a walk over the tuples of a hash that are not gone

pub record IsWalking (hashes : List ℕ) (gone : List Bool) (n : ℕ) (next : List ℕ) (hash : ℕ) (test : ℕ → Bool) (at : ℕ) : Type 0 where
  pub skipped : List Bool
  pub marked : AreGone skipped gone
  pub long : n ≤ length skipped
  pub chained : AreChained hashes skipped n next
  pub walked : IsWalked hashes skipped n hash test at

module _ (hashes : List ℕ) (gone : List Bool) (n : ℕ) (next : List ℕ) (hash : ℕ) (test : ℕ → Bool) where
  module _ (fails : (i : ℕ) → get_or gone i true ≡ true → test i ≡ false) where
    past : (skipped : List Bool) → AreGone skipped gone → n ≤ length skipped → (i : ℕ) → i < n → get_or skipped i true ≡ true → test i ≡ false
    past skipped marked long i low e = fails i (true_always gone i (marked i (get_or_default skipped i false true (omega (arith, low, long)) ∙ e)))

    pub walking_start : (skipped : List Bool) (at : ℕ) → AreGone skipped gone → n ≤ length skipped → AreChained hashes skipped n next → at ≡ latest hashes skipped hash n → IsWalking hashes gone n next hash test at
    walking_start skipped at marked long chained is = record {
      skipped = skipped;
      marked = marked;
      long = long;
      chained = chained;
      walked = walk_start hashes skipped n hash test (past skipped marked long) at is;
    }

    pub walking_on : (at at' d : ℕ) → 0 < at → IsWalking hashes gone n next hash test at → test (at - 1) ≡ false → at' ≡ get_or next (at - 1) d → IsWalking hashes gone n next hash test at'
    walking_on at at' d some x misses is = record {
      skipped = x.skipped;
      marked = x.marked;
      long = x.long;
      chained = x.chained;
      walked = walk_on hashes x.skipped n hash test (past x.skipped x.marked x.long) at at' some x.walked misses
          (is ∙ x.chained (at - 1) d (omega (arith, x.walked.within, some)) (x.walked.linked some));
    }

  pub walking_less : (at d : ℕ) → 0 < at → IsWalking hashes gone n next hash test at → get_or next (at - 1) d < at
  walking_less at d some x =
      let is = x.chained (at - 1) d (omega (arith, x.walked.within, some)) (x.walked.linked some) in
      let low = latest_low hashes x.skipped (get_or hashes (at - 1) 0) (at - 1) in
      omega (arith, is, low, some)

  pub walking_weaker : (test' : ℕ → Bool) (at : ℕ) → ((i : ℕ) → test i ≡ false → test' i ≡ false) → IsWalking hashes gone n next hash test at → IsWalking hashes gone n next hash test' at
  walking_weaker test' at weak x = record {
    skipped = x.skipped;
    marked = x.marked;
    long = x.long;
    chained = x.chained;
    walked = record {
      within = x.walked.within;
      here = x.walked.here;
      linked = x.walked.linked;
      behind = λ i low high h. weak i (x.walked.behind i low high h);
    };
  }

-- over all tuples of an index
pub walking_all : (rows : List Tuple) (gone : List Bool) (index : KeyIndex) (hash : ℕ) (test : ℕ → Bool) (at : ℕ) → ((i : ℕ) → get_or gone i true ≡ true → test i ≡ false) → IsLinked rows gone index
    → at ≡ last_in index.chains.last hash → IsWalking (hashes_in index rows) gone (length rows) index.chains.next.items hash test at
walking_all rows gone index hash test at fails x is =
    let many : length (hashes_in index rows) ≡ length rows = length-map rows (part_hash index.places.items) in
    let linked = x.linked in
    walking_start (hashes_in index rows) gone (length rows) index.chains.next.items hash test fails index.chains.skipped.items at x.marked (omega (arith, many, linked.marks))
    (subst (λ k. AreChained (hashes_in index rows) index.chains.skipped.items k index.chains.next.items) many linked.links)
    (is ∙ linked.lasts hash ∙ ap (latest (hashes_in index rows) index.chains.skipped.items hash) many)

pub gone_fails : (gone : List Bool) (pass : ℕ → Bool) (i : ℕ) → get_or gone i true ≡ true → (not (get_or gone i true) && pass i) ≡ false
gone_fails gone pass i e = rw e refl
