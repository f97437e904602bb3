-- What comments are, in the language's own words.
use Rattle.std.proofs.Common.{◌≡◌, ℕ, List, [], ◌∷◌, ◌++◌, length, refl, sym, ap, ◌∙◌, subst, arith, Bool, true, false, Option, Some, None, if◌then◌else◌, ◌⊎◌, inl, inr, append_assoc, append-nil, length-append}
use Rattle.std.specs.Prelude.{not}
use Rattle.td_tree.specs.declared.piece.Piece.{Piece}
use Rattle.td_tree.specs.declared.piece.Piece.TheVariants.{LineComment, OpenComment, StarredComment, Comment}
use Rattle.td_tree.specs.model.Pieces.{opens, goes_on, is_character, sign_at, sign_goes_on}
use Rattle.td_tree.specs.laws.Spellings.{comment_start, comment_end, EndsInStar, HasNoEnd, IsOpenComment, IsStarredComment, IsComment, IsLineComment, IsSpelled}
use Rattle.td_tree.proofs.law_lemmas.DivisionLaws.{run-append}
use Rattle.td_tree.proofs.law_lemmas.RunLaws.{run, spelled_state, same_character, stays, goes_through}

-- ---- lists by their last item

snoc_same : {X : Type 0} (xs ys : List X) (x y : X) → xs ++ x ∷ [] ≡ ys ++ y ∷ [] → (xs ≡ ys) × (x ≡ y)
snoc_same [] [] x y e = (refl, (let same : x ≡ y = cc in same))
snoc_same [] (b ∷ ys) x y e = absurd (omega (arith, ap length e, length-append ys (y ∷ [])))
snoc_same (a ∷ xs) [] x y e = absurd (omega (arith, ap length e, length-append xs (x ∷ [])))
snoc_same (a ∷ xs) (b ∷ ys) x y e =
    let heads : a ≡ b = cc in
    let tails : xs ++ x ∷ [] ≡ ys ++ y ∷ [] = cc in
    let w = snoc_same xs ys x y tails in
    let fronts : xs ≡ ys = w.0 in
    (cc, w.1)

by_last : {X : Type 0} (xs : List X) → (xs ≡ []) ⊎ ((front : List X) × (last : X) × (xs ≡ front ++ last ∷ []))
by_last [] = inl refl
by_last {X} (x ∷ xs) = elim (by_last xs) as (λ _. (x ∷ xs ≡ []) ⊎ ((front : List X) × (last : X) × (x ∷ xs ≡ front ++ last ∷ []))) [
  | inl e ↦ inr ([], x, ap (λ r. x ∷ r) e)
  | inr w ↦ inr (x ∷ w.0, w.1, ap (λ r. x ∷ r) w.2)
]

-- ---- where there is no end

no_end_front : (xs ys : List (Option ℕ)) → HasNoEnd (xs ++ ys) → HasNoEnd xs
no_end_front xs ys none before after e = none before (after ++ ys) (ap (λ r. r ++ ys) e ∙ append_assoc before (comment_end ++ after) ys)

no_end_more : (inside : List (Option ℕ)) (c : Option ℕ) → HasNoEnd inside → (EndsInStar inside → c ≡ Some 47 → ⊥) → HasNoEnd (inside ++ c ∷ [])
no_end_more inside c none ends before after e = elim (by_last after) as (λ _. ⊥) [
  | inl no_more ↦
      let last : inside ++ c ∷ [] ≡ (before ++ Some 42 ∷ []) ++ Some 47 ∷ [] = e ∙ ap (λ r. before ++ (comment_end ++ r)) no_more ∙ sym (append_assoc before (Some 42 ∷ []) (Some 47 ∷ [])) in
      let w = snoc_same inside (before ++ Some 42 ∷ []) c (Some 47) last in
      ends (record { before = before; is = w.0 }) w.1
  | inr v ↦
      let last : inside ++ c ∷ [] ≡ (before ++ (comment_end ++ v.0)) ++ v.1 ∷ [] = e ∙ ap (λ r. before ++ (comment_end ++ r)) v.2 ∙ sym (append_assoc before (comment_end ++ v.0) (v.1 ∷ [])) in
      none before v.0 (snoc_same inside (before ++ (comment_end ++ v.0)) c v.1 last).0
]

nothing_inside : HasNoEnd []
nothing_inside before after e = absurd (omega (arith, ap length e, length-append before (comment_end ++ after)))

no_star_inside : EndsInStar [] → ⊥
no_star_inside w = absurd (omega (arith, ap length w.is, length-append w.before (Some 42 ∷ [])))

-- ---- what the machine has read behind `/*`

Read : Piece → List (Option ℕ) → Type 0
Read OpenComment inside = HasNoEnd inside × (EndsInStar inside → ⊥)
Read StarredComment inside = HasNoEnd inside × EndsInStar inside
Read Comment inside = (front : List (Option ℕ)) × (inside ≡ front ++ comment_end) × HasNoEnd front
Read _ inside = ⊥

-- one more character, which ends nothing
read_open : (inside : List (Option ℕ)) (c : Option ℕ) → HasNoEnd inside → (EndsInStar inside → c ≡ Some 47 → ⊥) → Read (if is_character 42 c then StarredComment else OpenComment) (inside ++ c ∷ [])
unfolding Read
read_open inside c none ends =
    (elim (is_character 42 c) as (λ b. is_character 42 c ≡ b → Read (if b then StarredComment else OpenComment) (inside ++ c ∷ [])) [
      | true ↦ λ e. (no_end_more inside c none ends, record { before = inside; is = ap (λ d. inside ++ d ∷ []) (same_character 42 c e) })
      | false ↦ λ e. (
        no_end_more inside c none ends,
        λ star.
            let same : c ≡ Some 42 = (snoc_same inside star.before c (Some 42) star.is).1 in
            let wrong : true ≡ false = ap (is_character 42) (sym same) ∙ e in absurd cc,
      )
    ]) refl

-- a `*` and a character
read_starred : (inside : List (Option ℕ)) (c : Option ℕ) → HasNoEnd inside → EndsInStar inside → Read (if is_character 47 c then Comment else (if is_character 42 c then StarredComment else OpenComment)) (inside ++ c ∷ [])
unfolding Read
read_starred inside c none star =
    (elim (is_character 47 c) as (λ b. is_character 47 c ≡ b → Read (if b then Comment else (if is_character 42 c then StarredComment else OpenComment)) (inside ++ c ∷ [])) [
      | true ↦ λ e. (
        star.before,
        ap (λ r. r ++ c ∷ []) star.is ∙ append_assoc star.before (Some 42 ∷ []) (c ∷ []) ∙ ap (λ d. star.before ++ Some 42 ∷ d ∷ []) (same_character 47 c e),
        no_end_front star.before (Some 42 ∷ []) (subst HasNoEnd star.is none),
      )
      | false ↦ λ e. read_open inside c none (λ _ same. (let wrong : true ≡ false = ap (is_character 47) (sym same) ∙ e in absurd cc))
    ]) refl

read_more : (s t : Piece) (inside : List (Option ℕ)) (c : Option ℕ) → Read s inside → goes_on s c ≡ Some t → Read t (inside ++ c ∷ [])
unfolding Read goes_on
read_more OpenComment t inside c r e =
    let same : (if is_character 42 c then StarredComment else OpenComment) ≡ t = cc in
    subst (λ p. Read p (inside ++ c ∷ [])) same (read_open inside c r.0 (λ star _. r.1 star))
read_more StarredComment t inside c r e =
    let same : (if is_character 47 c then Comment else (if is_character 42 c then StarredComment else OpenComment)) ≡ t = cc in
    subst (λ p. Read p (inside ++ c ∷ [])) same (read_starred inside c r.0 r.1)
read_more Comment t inside c r e = absurd cc
read_more _ t inside c r e = absurd r

read_all : (cs : List (Option ℕ)) (s v : Piece) (inside : List (Option ℕ)) → Read s inside → run (Some s) cs ≡ Some v → Read v (inside ++ cs)
read_all [] s v inside r = λ e. let same : s ≡ v = cc in subst (λ p. Read p (inside ++ [])) same (subst (Read s) (sym (append-nil inside)) r)
read_all (c ∷ cs) s v inside r =
    (elim (goes_on s c) as (λ o. goes_on s c ≡ o → run o cs ≡ Some v → Read v (inside ++ c ∷ cs)) [
      | None ↦ λ is e. absurd cc
      | Some t ↦ λ is e. subst (Read v) (append_assoc inside (c ∷ []) cs) (read_all cs t v (inside ++ c ∷ []) (read_more s t inside c r is) e)
    ]) refl

read_nothing : Read OpenComment []
unfolding Read
read_nothing = (nothing_inside, no_star_inside)

spelled_open : (v : Piece) (cs : List (Option ℕ)) → Read v cs → IsSpelled v (comment_start ++ cs)
unfolding Read
spelled_open OpenComment cs r = record { inside = cs; is = refl; no_end = r.0; no_star = r.1 }
spelled_open StarredComment cs r = record { inside = cs; is = refl; no_end = r.0; star = r.1 }
spelled_open Comment cs r = record { inside = r.0; is = ap (λ t. comment_start ++ t) r.1; no_end = r.2 }
spelled_open _ cs r = absurd r

-- what the machine leaves so behind `/*` is spelled so
pub comment_is : (v : Piece) (cs : List (Option ℕ)) → run (Some OpenComment) cs ≡ Some v → IsSpelled v (comment_start ++ cs)
comment_is v cs e = spelled_open v cs (read_all cs OpenComment v [] read_nothing e)

-- ---- what is spelled so, the machine leaves so

IsOpen : Piece → Type 0
IsOpen OpenComment = Unit {0}
IsOpen StarredComment = Unit {0}
IsOpen _ = ⊥

is_open : (b : Bool) → IsOpen (if b then StarredComment else OpenComment)
unfolding IsOpen
is_open true = tt
is_open false = tt

-- the piece goes on as an open comment
record Opens (s : Piece) (cs : List (Option ℕ)) : Type 0 where
  last : Piece
  still : IsOpen last
  is : run (Some s) cs ≡ Some last

open_more : (s : Piece) (inside cs : List (Option ℕ)) (c : Option ℕ) → Read s inside → IsOpen s → HasNoEnd (inside ++ c ∷ cs) → Opens s (c ∷ [])
unfolding Read IsOpen goes_on
open_more OpenComment inside cs c r o none = record { last = if is_character 42 c then StarredComment else OpenComment; still = is_open (is_character 42 c); is = refl }
open_more StarredComment inside cs c r o none =
    (elim (is_character 47 c) as (λ b. is_character 47 c ≡ b → Opens StarredComment (c ∷ [])) [
      | true ↦ λ e.
          let star = r.1 in
          absurd (none star.before cs (ap (λ t. t ++ c ∷ cs) star.is ∙ append_assoc star.before (Some 42 ∷ []) (c ∷ cs) ∙ ap (λ d. star.before ++ (Some 42 ∷ d ∷ cs)) (same_character 47 c e)))
      | false ↦ λ e. record {
        last = if is_character 42 c then StarredComment else OpenComment;
        still = is_open (is_character 42 c);
        is = ap (λ b. Some (if b then Comment else (if is_character 42 c then StarredComment else OpenComment))) e;
      }
    ]) refl
open_more _ inside cs c r o none = absurd o

open_all : (cs : List (Option ℕ)) (s : Piece) (inside : List (Option ℕ)) → Read s inside → IsOpen s → HasNoEnd (inside ++ cs) → Opens s cs
open_all [] s inside r o none = record { last = s; still = o; is = refl }
open_all (c ∷ cs) s inside r o none =
    let w = open_more s inside cs c r o none in
    let more = open_all cs w.last (inside ++ c ∷ []) (read_all (c ∷ []) s w.last inside r w.is) w.still (subst HasNoEnd (sym (append_assoc inside (c ∷ []) cs)) none) in
    record { last = more.last; still = more.still; is = run-append opens goes_on (Some s) (c ∷ []) cs ∙ ap (λ o. run o cs) w.is ∙ more.is }

behind_start : (inside : List (Option ℕ)) → HasNoEnd inside → Opens OpenComment inside
unfolding IsOpen
behind_start inside none = open_all inside OpenComment [] read_nothing tt none

begun : (cs : List (Option ℕ)) → spelled_state (comment_start ++ cs) ≡ run (Some OpenComment) cs
unfolding opens goes_on sign_at sign_goes_on
begun cs = refl

open_last : (v : Piece) (inside : List (Option ℕ)) → IsOpen v → Read v inside → (EndsInStar inside → ⊥) → v ≡ OpenComment
unfolding Read IsOpen
open_last OpenComment inside o r no_star = refl
open_last StarredComment inside o r no_star = absurd (no_star r.1)
open_last _ inside o r no_star = absurd o

starred_last : (v : Piece) (inside : List (Option ℕ)) → IsOpen v → Read v inside → EndsInStar inside → v ≡ StarredComment
unfolding Read IsOpen
starred_last OpenComment inside o r star = absurd (r.1 star)
starred_last StarredComment inside o r star = refl
starred_last _ inside o r star = absurd o

pub open_comment_state : (cs : List (Option ℕ)) → IsOpenComment cs → spelled_state cs ≡ Some OpenComment
open_comment_state cs h =
    let w = behind_start h.inside h.no_end in
    ap spelled_state h.is ∙ begun h.inside ∙ w.is ∙ ap Some (open_last w.last h.inside w.still (read_all h.inside OpenComment w.last [] read_nothing w.is) h.no_star)

pub starred_comment_state : (cs : List (Option ℕ)) → IsStarredComment cs → spelled_state cs ≡ Some StarredComment
starred_comment_state cs h =
    let w = behind_start h.inside h.no_end in
    ap spelled_state h.is ∙ begun h.inside ∙ w.is ∙ ap Some (starred_last w.last h.inside w.still (read_all h.inside OpenComment w.last [] read_nothing w.is) h.star)

ends_open : (v : Piece) → IsOpen v → run (Some v) comment_end ≡ Some Comment
unfolding IsOpen goes_on
ends_open OpenComment o = refl
ends_open StarredComment o = refl
ends_open _ o = absurd o

pub comment_state : (cs : List (Option ℕ)) → IsComment cs → spelled_state cs ≡ Some Comment
comment_state cs h =
    let w = behind_start h.inside h.no_end in
    ap spelled_state h.is ∙ begun (h.inside ++ comment_end) ∙ run-append opens goes_on (Some OpenComment) h.inside comment_end ∙ ap (λ o. run o comment_end) w.is ∙ ends_open w.last w.still

-- ---- comments up to the end of a line

on_the_line : (c : Option ℕ) → goes_on LineComment c ≡ (if not (is_character 10 c) then Some LineComment else None)
unfolding goes_on
on_the_line c = elim (is_character 10 c) as (λ b. (if b then None else Some LineComment) ≡ (if not b then Some LineComment else None)) [ true ↦ refl | false ↦ refl ]

-- what the machine leaves so behind `//` is spelled so
pub line_comment_is : (v : Piece) (cs : List (Option ℕ)) → run (Some LineComment) cs ≡ Some v → IsSpelled v (Some 47 ∷ Some 47 ∷ cs)
line_comment_is v cs e =
    let w = stays LineComment (λ c. not (is_character 10 c)) on_the_line cs v e in
    subst (λ p. IsSpelled p (Some 47 ∷ Some 47 ∷ cs)) (sym w.0) (let line : IsLineComment (Some 47 ∷ Some 47 ∷ cs) = record { inside = cs; is = refl; line = w.1 } in line)

line_begun : (cs : List (Option ℕ)) → spelled_state (Some 47 ∷ Some 47 ∷ cs) ≡ run (Some LineComment) cs
unfolding opens goes_on sign_at sign_goes_on
line_begun cs = refl

pub line_comment_state : (cs : List (Option ℕ)) → IsLineComment cs → spelled_state cs ≡ Some LineComment
line_comment_state cs h = ap spelled_state h.is ∙ line_begun h.inside ∙ goes_through LineComment (λ c. not (is_character 10 c)) on_the_line h.inside h.line
