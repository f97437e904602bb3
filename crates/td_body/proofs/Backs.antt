-- What a step back makes of members.
use Rattle.std.proofs.Common.{◌≡◌, ℕ, ◌<◌, Bool, true, false, ◌&&◌, List, [], ◌∷◌, ◌++◌, length, nat_lt, refl, set, sym, ap, ◌∙◌, arith, true≢false}
use Rattle.std.proofs.lemmas.Bool.{ltb-true}
use Rattle.std.specs.List.{All}
use Rattle.td_value.specs.model.Values.{Tuple}
use Rattle.td_body.specs.declared.hashed.index.KeyIndex.{KeyIndex}
use Rattle.td_body.specs.declared.hashed.step.Step.{Step}
use Rattle.td_body.specs.declared.hashed.step.Step.TheVariants.{Added, Dropped}
use Rattle.td_body.specs.code.KeyIndexes.{IsIndex, IsLinked, agree_at}
use Rattle.td_body.specs.code.Numbered.{front, live, repeats, tuple_eq}
use Rattle.td_body.specs.code.Logs.{is_proper, kept_by}
use Rattle.td_body.specs.code.Members.{AreMembers, IsBefore, WasBefore}
use Rattle.td_body.specs.code.Turns.{EachTurned, GoesBack}
use Rattle.td_body.proofs.Lives.{front_push}
use Rattle.td_body.proofs.StepLaws.{kept_push, proper_push}
use Rattle.td_body.proofs.Turns.{turned_all}

last_or : {X : Type 0} → X → List X → X
last_or d [] = d
last_or d (x ∷ []) = x
last_or d (x ∷ y ∷ ys) = last_or d (y ∷ ys)

last_push : {X : Type 0} (d : X) (xs : List X) (x : X) → last_or d (xs ++ x ∷ []) ≡ x
unfolding last_or
last_push d [] x = refl
last_push d (y ∷ []) x = refl
last_push d (y ∷ z ∷ zs) x = last_push d (z ∷ zs) x

pub push_same : {X : Type 0} (xs ys : List X) (x y : X) → xs ++ x ∷ [] ≡ ys ++ y ∷ [] → (xs ≡ ys) × (x ≡ y)
push_same xs ys x y e = (sym (front_push xs x) ∙ ap front e ∙ front_push ys y, sym (last_push x xs x) ∙ ap (last_or x) e ∙ last_push x ys y)

both : (p q : Bool) → (p && q) ≡ true → (p ≡ true) × (q ≡ true)
both true q e = (refl, e)
both false q e = absurd (true≢false (sym e))

-- the last tuple goes out
module _ (log log' : List Step) (rows rows' : List Tuple) (gone gone' : List Bool) (r : Tuple) (l : log ≡ log' ++ Added ∷ []) (a : rows ≡ rows' ++ r ∷ []) (b : gone' ≡ front gone) where
  front_is : front rows ≡ rows'
  front_is = ap front a ∙ front_push rows' r

  pub back_added : {X : Type 0} (g : List Tuple → X) → kept_by g log rows gone ≡ kept_by g log' rows' gone'
  back_added g = ap (λ z. kept_by g z rows gone) l ∙ kept_push g log' rows gone Added ∙ (λ i. kept_by g log' (front_is i) (sym b i))

  pub back_proper : (fixed : ℕ) → is_proper fixed log rows gone ≡ true → is_proper fixed log' rows' gone' ≡ true
  back_proper fixed e =
      (both (nat_lt fixed (length rows)) (is_proper fixed log' rows' gone')
      (sym (ap (λ z. is_proper fixed z rows gone) l ∙ proper_push fixed log' Added rows gone ∙ (λ i. nat_lt fixed (length rows) && is_proper fixed log' (front_is i) (sym b i))) ∙ e)).1

-- the tuple of a number comes back
module _ (log log' : List Step) (rows rows' : List Tuple) (gone gone' : List Bool) (n : ℕ) (l : log ≡ log' ++ Dropped n ∷ []) (a : rows' ≡ rows) (b : gone' ≡ set gone n false) where
  pub back_dropped : {X : Type 0} (g : List Tuple → X) → kept_by g log rows gone ≡ kept_by g log' rows' gone'
  back_dropped g = ap (λ z. kept_by g z rows gone) l ∙ kept_push g log' rows gone (Dropped n) ∙ (λ i. kept_by g log' (sym a i) (sym b i))

  pub dropped_proper : (fixed : ℕ) → is_proper fixed log rows gone ≡ true → is_proper fixed log' rows' gone' ≡ true
  dropped_proper fixed e =
      (both (nat_lt n (length rows)) (is_proper fixed log' rows' gone')
      (sym (ap (λ z. is_proper fixed z rows gone) l ∙ proper_push fixed log' (Dropped n) rows gone ∙ (λ i. nat_lt n (length rows) && is_proper fixed log' (sym a i) (sym b i))) ∙ e)).1

-- a number whose tuple went out is there
pub dropped_there : (log log' : List Step) (rows : List Tuple) (gone : List Bool) (n fixed : ℕ) → log ≡ log' ++ Dropped n ∷ [] → is_proper fixed log rows gone ≡ true → n < length rows
dropped_there log log' rows gone n fixed l e =
    ltb-true n (length rows)
    (both (nat_lt n (length rows)) (is_proper fixed log' rows (set gone n false))
    (sym (ap (λ z. is_proper fixed z rows gone) l ∙ proper_push fixed log' (Dropped n) rows gone) ∙ e)).0

-- the members after the way back
pub members_back : (rows : List Tuple) (gone : List Bool) (fixed now : ℕ) (before was : List ℕ) (xs ys : List KeyIndex) (log : List Step)
    → length gone ≡ length rows → repeats tuple_eq (live rows gone) ≡ 0 → is_proper fixed log rows gone ≡ true → was ≡ kept_by length log rows gone ++ length (live rows gone) ∷ [] → was ≡ before ++ now ∷ []
    → All (IsLinked rows gone) xs → All (WasBefore log rows gone) xs → EachTurned GoesBack xs ys → 0 < length xs → AreMembers rows gone fixed now before ys log
members_back rows gone fixed now before was xs ys log marks apart proper count back linked clashes turned some =
    let both = push_same before (kept_by length log rows gone) now (length (live rows gone)) (sym back ∙ count) in
    record {
      marks = marks;
      apart = apart;
      proper = proper;
      counted = both.1;
      kept = both.0;
      indexed = turned_all GoesBack (λ x. IsLinked rows gone x × WasBefore log rows gone x) (IsIndex rows gone) xs ys turned
          (λ x y s i. (s.linked rows gone i.0, (at x y s i.1).1 ∙ ap (λ ps. repeats (agree_at ps) (live rows gone)) (sym s.places))) (λ k d low. (linked k d low, clashes k d low));
      clashes = turned_all GoesBack (λ x. IsLinked rows gone x × WasBefore log rows gone x) (IsBefore log rows gone) xs ys turned
          (λ x y s i. (at x y s i.1).0 ∙ ap (λ ps. kept_by (repeats (agree_at ps)) log rows gone) (sym s.places)) (λ k d low. (linked k d low, clashes k d low));
      some = omega (arith, some, turned.many);
    }
  where
    at : (x y : KeyIndex) → GoesBack x y → WasBefore log rows gone x → (y.clashes.before.items ≡ kept_by (repeats (agree_at x.places.items)) log rows gone) × (y.clashes.now ≡ repeats (agree_at x.places.items) (live rows gone))
    at x y s w = push_same y.clashes.before.items (kept_by (repeats (agree_at x.places.items)) log rows gone) y.clashes.now (repeats (agree_at x.places.items) (live rows gone)) (sym s.before ∙ w)
