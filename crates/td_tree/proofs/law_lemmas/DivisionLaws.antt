-- Every list has one division into longest pieces, and no other; what is found up to an end stays.
use Rattle.std.proofs.Common.{◌≡◌, ◌+◌, ◌<◌, ◌≤◌, List, [], ◌∷◌, ◌++◌, length, take, drop, Option, Some, None, ◌⊎◌, inl, inr, refl, sym, ap, ◌∙◌, subst, append_assoc, arith, Bool, true, false, if◌then◌else◌}
use Rattle.std.proofs.lemmas.List.{length-append, take_at, drop_at}
use Rattle.std.specs.Prelude.{option_map}
use Rattle.std.specs.List.{flat_map}
use Rattle.td_tree.specs.model.Division.{run, state, IsPiece, IsNext, IsDivision, divide_from, divide, up_to}

-- two divisions of one list at the same place
abbrev pub Splits : {X : Type 0} → List X → List X → List X → List X → Type 0
Splits {X} q r p rest = (length q ≤ length p) ⊎ ((y : X) × (ys : List X) × (q ≡ p ++ y ∷ ys) × (rest ≡ (y ∷ ys) ++ r))

-- of two fronts of one list one goes on the other
pub fronts : {X : Type 0} (q r p rest : List X) → q ++ r ≡ p ++ rest → Splits q r p rest
fronts [] r p rest e = inl (omega arith)
fronts (y ∷ q) r [] rest e = inr (y, q, refl, sym e)
fronts (y ∷ q) r (x ∷ p) rest e =
    let tails : q ++ r ≡ p ++ rest = cc in
    let heads : y ≡ x = cc in
    elim (fronts q r p rest tails) as (λ _. Splits (y ∷ q) r (x ∷ p) rest) [
      | inl less ↦ inl (omega (arith, less))
      | inr w ↦ inr (w.0, w.1, (let e2 = w.2 in cc), w.3)
    ]

module _ {X S : Type 0} (opens : X → S) (goes_on : S → X → Option S) where
  pub run-append : (o : Option S) (xs ys : List X) → run opens goes_on o (xs ++ ys) ≡ run opens goes_on (run opens goes_on o xs) ys
  run-append None xs ys = refl
  run-append (Some s) [] ys = refl
  run-append (Some s) (x ∷ xs) ys = run-append (goes_on s x) xs ys

  -- a piece so far, and one more
  pub state-append : (p : List X) (s : S) (ys : List X) → state opens goes_on p ≡ Some s → state opens goes_on (p ++ ys) ≡ run opens goes_on (Some s) ys
  state-append [] s ys e = absurd cc
  state-append (x ∷ p) s ys e = run-append (Some (opens x)) p ys ∙ ap (λ o. run opens goes_on o ys) e

  -- what ends where the machine does not go on is the longest
  pub stops : (p : List X) (s : S) (x : X) (xs : List X) → state opens goes_on p ≡ Some s → goes_on s x ≡ None → IsNext opens goes_on p (x ∷ xs)
  stops p s x xs e none = record {
    piece = record { last = s; is = e };
    longest = λ q r piece same.
        elim (fronts q r p (x ∷ xs) same) as (λ _. length q ≤ length p) [
          | inl less ↦ less
          | inr w ↦
              let heads : x ≡ w.0 = (let e2 = w.3 in cc) in
              let stopped : run opens goes_on (goes_on s x) (w.1) ≡ None = ap (λ o. run opens goes_on o (w.1)) none in
              let read : run opens goes_on (goes_on s (w.0)) (w.1) ≡ Some piece.last = sym (ap (state opens goes_on) w.2 ∙ state-append p s (w.0 ∷ w.1) e) ∙ piece.is in
              absurd cc
        ];
  }

  -- the pieces of divide_from are the division
  pub divides_from : (s : S) (p xs : List X) → state opens goes_on p ≡ Some s → IsDivision opens goes_on (divide_from opens goes_on s p xs) (p ++ xs)
  divides_from s p [] e = ([], refl, record { piece = record { last = s; is = e }; longest = λ q r piece same. let l : length q + length r ≡ length p + 0 = sym (length-append q r) ∙ ap length same ∙ length-append p [] in omega arith }, refl)
  divides_from s p (x ∷ xs) e =
      (elim (goes_on s x) as (λ o. goes_on s x ≡ o → IsDivision opens goes_on (elim o as (λ _. List (List X)) [ Some t ↦ divide_from opens goes_on t (p ++ x ∷ []) xs | None ↦ p ∷ divide_from opens goes_on (opens x) (x ∷ []) xs ]) (p ++ x ∷ xs)) [
        | Some t ↦ λ next. subst (IsDivision opens goes_on (divide_from opens goes_on t (p ++ x ∷ []) xs)) (append_assoc p (x ∷ []) xs) (divides_from t (p ++ x ∷ []) xs (state-append p s (x ∷ []) e ∙ ap (λ o. run opens goes_on o []) next))
        | None ↦ λ next. (x ∷ xs, refl, stops p s x xs e next, divides_from (opens x) (x ∷ []) xs refl)
      ]) refl

  -- there is a division
  pub divides : (xs : List X) → IsDivision opens goes_on (divide opens goes_on xs) xs
  divides [] = refl
  divides (x ∷ xs) = divides_from (opens x) (x ∷ []) xs refl

  piece_length : (p : List X) → IsPiece opens goes_on p → 0 < length p
  piece_length [] piece = let e : None ≡ Some piece.last = piece.is in absurd cc
  piece_length (x ∷ p) piece = omega arith

  -- there is only one
  pub one_division : (ps qs : List (List X)) (xs : List X) → IsDivision opens goes_on ps xs → IsDivision opens goes_on qs xs → ps ≡ qs
  one_division [] [] xs d e = refl
  one_division [] (q ∷ qs) xs d e = let l : 0 ≡ length q + length e.0 = ap length (sym d ∙ e.1) ∙ length-append q e.0 in absurd (omega (arith, piece_length q e.2.piece))
  one_division (p ∷ ps) [] xs d e = let l : 0 ≡ length p + length d.0 = ap length (sym e ∙ d.1) ∙ length-append p d.0 in absurd (omega (arith, piece_length p d.2.piece))
  one_division (p ∷ ps) (q ∷ qs) xs d e =
      let same : p ++ d.0 ≡ q ++ e.0 = sym d.1 ∙ e.1 in
      let longer : length p ≤ length q = e.2.longest p d.0 d.2.piece same in
      let shorter : length q ≤ length p = d.2.longest q e.0 e.2.piece (sym same) in
      let heads : p ≡ q = sym (take_at p d.0 (length p) refl) ∙ ap (take (length p)) same ∙ take_at q e.0 (length p) (omega arith) in
      let tails : d.0 ≡ e.0 = sym (drop_at p d.0 (length p) refl) ∙ ap (drop (length p)) same ∙ drop_at q e.0 (length p) (omega arith) in
      let rests : ps ≡ qs = one_division ps qs e.0 (subst (IsDivision opens goes_on ps) tails d.3) e.3 in
      cc

-- where the pieces are these and those, the list is these joined, and what those divide
pub record Rest {X S : Type 0} (opens : X → S) (goes_on : S → X → Option S) (xs : List X) (front back : List (List X)) : Type 0 where
  pub rest : List X
  pub parts : xs ≡ flat_map (λ q. q) front ++ rest
  pub again : back ≡ divide opens goes_on rest

module _ {X S : Type 0} (opens : X → S) (goes_on : S → X → Option S) where
  -- the first piece, and the division of the rest
  record First (pieces : List (List X)) (all : List X) : Type 0 where
    piece : List X
    rest : List X
    parts : all ≡ piece ++ rest
    again : pieces ≡ piece ∷ divide opens goes_on rest

  first_piece : (s : S) (p xs : List X) → First (divide_from opens goes_on s p xs) (p ++ xs)
  first_piece s p [] = record { piece = p; rest = []; parts = refl; again = refl }
  first_piece s p (x ∷ xs) =
      elim (goes_on s x) as (λ o. First (elim o as (λ _. List (List X)) [ Some t ↦ divide_from opens goes_on t (p ++ x ∷ []) xs | None ↦ p ∷ divide_from opens goes_on (opens x) (x ∷ []) xs ]) (p ++ x ∷ xs)) [
        | Some t ↦ subst (First (divide_from opens goes_on t (p ++ x ∷ []) xs)) (append_assoc p (x ∷ []) xs) (first_piece t (p ++ x ∷ []) xs)
        | None ↦ record { piece = p; rest = x ∷ xs; parts = refl; again = refl }
      ]

  pub rest_of : (front back : List (List X)) (xs : List X) → divide opens goes_on xs ≡ front ++ back → Rest opens goes_on xs front back
  rest_of [] back xs e = record { rest = xs; parts = refl; again = sym e }
  rest_of (f ∷ front) back [] e = absurd cc
  rest_of (f ∷ front) back (x ∷ xs) e =
      let w = first_piece (opens x) (x ∷ []) xs in
      let all : w.piece ∷ divide opens goes_on w.rest ≡ f ∷ (front ++ back) = sym w.again ∙ e in
      let same : w.piece ≡ f = cc in
      let others : divide opens goes_on w.rest ≡ front ++ back = cc in
      let r = rest_of front back w.rest others in
      record { rest = r.rest; parts = w.parts ∙ ap (λ q. q ++ w.rest) same ∙ ap (λ t. f ++ t) r.parts ∙ sym (append_assoc f (flat_map (λ q. q) front) r.rest); again = r.again }

module _ {X : Type 0} (ends : X → Bool) where
  pub up_to-ends : (p : X) (ps : List X) → ends p ≡ true → up_to ends (p ∷ ps) ≡ Some (p ∷ [])
  up_to-ends p ps e = rw e refl

  pub up_to-more : (p : X) (ps qs front : List X) → ((inner : List X) → up_to ends ps ≡ Some inner → up_to ends qs ≡ Some inner) → up_to ends (p ∷ ps) ≡ Some front → up_to ends (p ∷ qs) ≡ Some front
  up_to-more p ps qs front same =
      elim (ends p) as (λ b. (if b then Some (p ∷ []) else option_map (λ rs. p ∷ rs) (up_to ends ps)) ≡ Some front → (if b then Some (p ∷ []) else option_map (λ rs. p ∷ rs) (up_to ends qs)) ≡ Some front) [
        | true ↦ λ found. found
        | false ↦ (elim (up_to ends ps) as (λ o. up_to ends ps ≡ o → option_map (λ rs. p ∷ rs) o ≡ Some front → option_map (λ rs. p ∷ rs) (up_to ends qs) ≡ Some front) [
          | None ↦ λ is found. absurd cc
          | Some inner ↦ λ is found. rw (same inner is) found
        ]) refl
      ]

module _ {X S : Type 0} (opens : X → S) (goes_on : S → X → Option S) (ends : List X → Bool) (closed : (p : List X) (s : S) (x : X) → ends p ≡ true → state opens goes_on p ≡ Some s → goes_on s x ≡ None) where
  -- what ends is no longer with more behind it
  stop : (s : S) (p later : List X) → state opens goes_on p ≡ Some s → ends p ≡ true → up_to ends (divide_from opens goes_on s p later) ≡ Some (p ∷ [])
  stop s p [] is e = up_to-ends ends p [] e
  stop s p (y ∷ ys) is e = ap (λ o. up_to ends (elim o as (λ _. List (List X)) [ Some t ↦ divide_from opens goes_on t (p ++ y ∷ []) ys | None ↦ p ∷ divide_from opens goes_on (opens y) (y ∷ []) ys ])) (closed p s y e is) ∙ (up_to-ends ends p (divide_from opens goes_on (opens y) (y ∷ []) ys) e)

  -- what is found up to an end is the same in every continuation
  pub stable_from : (s : S) (p xs later : List X) (front : List (List X)) → state opens goes_on p ≡ Some s
      → up_to ends (divide_from opens goes_on s p xs) ≡ Some front → up_to ends (divide_from opens goes_on s p (xs ++ later)) ≡ Some front
  stable_from s p [] later front is =
      (elim (ends p) as (λ b. ends p ≡ b → (if b then Some (p ∷ []) else None) ≡ Some front → up_to ends (divide_from opens goes_on s p later) ≡ Some front) [
        | true ↦ λ e found. stop s p later is e ∙ found
        | false ↦ λ e found. absurd cc
      ]) refl
  stable_from s p (x ∷ xs) later front is =
      (elim (goes_on s x) as (λ o. goes_on s x ≡ o
      → up_to ends (elim o as (λ _. List (List X)) [ Some t ↦ divide_from opens goes_on t (p ++ x ∷ []) xs | None ↦ p ∷ divide_from opens goes_on (opens x) (x ∷ []) xs ]) ≡ Some front
      → up_to ends (elim o as (λ _. List (List X)) [ Some t ↦ divide_from opens goes_on t (p ++ x ∷ []) (xs ++ later) | None ↦ p ∷ divide_from opens goes_on (opens x) (x ∷ []) (xs ++ later) ]) ≡ Some front) [
        | Some t ↦ λ next found. stable_from t (p ++ x ∷ []) xs later front (state-append opens goes_on p s (x ∷ []) is ∙ ap (λ o. run opens goes_on o []) next) found
        | None ↦ λ next found. up_to-more ends p (divide_from opens goes_on (opens x) (x ∷ []) xs) (divide_from opens goes_on (opens x) (x ∷ []) (xs ++ later)) front (λ inner. stable_from (opens x) (x ∷ []) xs later inner refl) found
      ]) refl

  pub stable : (xs later : List X) (front : List (List X)) → up_to ends (divide opens goes_on xs) ≡ Some front → up_to ends (divide opens goes_on (xs ++ later)) ≡ Some front
  stable [] later front found = absurd cc
  stable (x ∷ xs) later front found = stable_from (opens x) (x ∷ []) xs later front refl found
