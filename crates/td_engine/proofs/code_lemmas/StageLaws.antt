-- Catalogues that go on and go back, by their stages.
use Rattle.std.proofs.Common.{◌≡◌, ◌∙◌, ◌≤◌, ◌<◌, ◌+◌, ◌∷◌, ◌++◌, ℕ, zero, suc, List, [], ap, append_assoc, append-nil, arith, get_or, length, length-append, map, drop, refl, sym, take}
use Rattle.std.proofs.Math.Seq.{get_or-append_seam, take-append_seam}
use Rattle.std.proofs.lemmas.List.{get_or_append_left, length-take-le, take-append-drop}
use Rattle.td_catalog.specs.model.Database.{Database}
use Rattle.td_catalog.specs.code.KeptDatabases.{CatalogView, advanced_view, stages}
use Rattle.td_engine.specs.code.Stages.{Descend, GoesOn, stage}

-- ---- lists that end in one more

last_is : {A : Type 0} (xs ys : List A) (x y : A) → xs ++ (x ∷ []) ≡ ys ++ (y ∷ []) → (xs ≡ ys) × (x ≡ y)
last_is [] [] x y e = (refl, cc)
last_is [] (b ∷ []) x y e = absurd (cc)
last_is [] (b ∷ c ∷ ys) x y e = absurd (cc)
last_is (a ∷ []) [] x y e = absurd (cc)
last_is (a ∷ c ∷ xs) [] x y e = absurd (cc)
last_is (a ∷ xs) (b ∷ ys) x y e =
    let rest : xs ++ (x ∷ []) ≡ ys ++ (y ∷ []) = cc in
    let first : a ≡ b = cc in
    let both = last_is xs ys x y rest in
    ((λ i. first i ∷ both.0 i), both.1)

same_default : {A : Type 0} (xs : List A) (n : ℕ) (d e : A) → n < length xs → get_or xs n d ≡ get_or xs n e
same_default [] n d e h = absurd (omega (arith, h))
same_default (x ∷ xs) zero d e h = refl
same_default (x ∷ xs) (suc n) d e h = same_default xs n d e (omega (arith, h))

-- catalogues of the same stages are the same
pub same_view : (v w : CatalogView) → stages v ≡ stages w → v ≡ w
same_view v w e =
    let both = last_is v.kept w.kept v.database w.database e in
    λ i. record { database = both.1 i; kept = both.0 i }

pub stage_count : (v : CatalogView) → length (stages v) ≡ length v.kept + 1
stage_count v = length-append v.kept (v.database ∷ [])

-- ---- going on

pub stays : (v w : CatalogView) → w ≡ v → GoesOn v w
stays v w e = ([], ap stages e ∙ sym (append-nil (stages v)))

pub goes_on : (v w : CatalogView) (db : Database) → w ≡ advanced_view db v → GoesOn v w
goes_on v w db e = (db ∷ [], ap stages e)

pub on_and_on : (u v w : CatalogView) → GoesOn u v → GoesOn v w → GoesOn u w
on_and_on u v w first then =
    (first.0 ++ then.0, then.1 ∙ ap (λ xs. xs ++ then.0) first.1 ∙ append_assoc (stages u) first.0 then.0)

-- as much is kept, and more
pub keeps_more : (v w : CatalogView) → GoesOn v w → length v.kept ≤ length w.kept
keeps_more v w on =
    let counts : length w.kept + 1 ≡ length v.kept + 1 + length on.0 =
    sym (stage_count w) ∙ ap length on.1 ∙ length-append (stages v) on.0 ∙ ap (λ n. n + length on.0) (stage_count v) in
    omega (arith, counts)

-- ---- going back

pub back_again : (v w u : CatalogView) → GoesOn v w → stages u ≡ take (length v.kept + 1) (stages w) → u ≡ v
back_again v w u on back =
    same_view u v
    (back ∙ ap (take (length v.kept + 1)) on.1 ∙ ap (λ n. take n (stages v ++ on.0)) (sym (stage_count v)) ∙ take-append_seam (stages v) on.0)

-- ---- places

pub descend_more : (a b : ℕ) (places : List ℕ) → a ≤ b → Descend a places → Descend b places
descend_more a b [] h d = tt
descend_more a b (p ∷ ps) h d = (omega (arith, h, d.0), d.1)

stage_on : (v w : CatalogView) (place : ℕ) → place ≤ length v.kept → GoesOn v w → stage w place ≡ stage v place
stage_on v w place h on =
    let within : place < length (stages v) = omega (arith, h, stage_count v) in
    ap (λ xs. get_or xs place w.database) on.1 ∙ get_or_append_left (stages v) on.0 w.database place within
    ∙ same_default (stages v) place w.database v.database within

-- the stages at places that are kept stay
pub stages_on : (v w : CatalogView) (places : List ℕ) → Descend (length v.kept) places → GoesOn v w → map (stage w) places ≡ map (stage v) places
stages_on v w places d on = by_places (length v.kept) places d (omega arith)
  where
    by_places : (most : ℕ) (ps : List ℕ) → Descend most ps → most ≤ length v.kept → map (stage w) ps ≡ map (stage v) ps
    by_places most [] d h = refl
    by_places most (p ∷ ps) d h =
        let low : p ≤ length v.kept = omega (arith, d.0, h) in
        let first = stage_on v w p low on in
        let rest = by_places p ps d.1 low in
        λ i. first i ∷ rest i

-- the present database is at the place of what is kept
pub present_stage : (v : CatalogView) → stage v (length v.kept) ≡ v.database
present_stage v = get_or-append_seam v.kept v.database [] v.database

-- ---- going back to a place

pub back_to : (v w : CatalogView) (place : ℕ) → place ≤ length v.kept → stages w ≡ take (place + 1) (stages v) → GoesOn w v
back_to v w place h back = (drop (place + 1) (stages v), sym (take-append-drop (place + 1) (stages v)) ∙ ap (λ xs. xs ++ drop (place + 1) (stages v)) (sym back))

pub place_kept : (v w : CatalogView) (place : ℕ) → place ≤ length v.kept → stages w ≡ take (place + 1) (stages v) → length w.kept ≡ place
place_kept v w place h back =
    let counts : length w.kept + 1 ≡ place + 1 =
    sym (stage_count w) ∙ ap length back ∙ length-take-le (place + 1) (stages v) (omega (arith, h, stage_count v)) in
    omega (arith, counts)

-- what is gone back to
pub back_stage : (v w : CatalogView) (place : ℕ) → place ≤ length v.kept → stages w ≡ take (place + 1) (stages v) → w.database ≡ stage v place
back_stage v w place h back =
    let kept = place_kept v w place h back in
    sym (present_stage w) ∙ ap (stage w) kept ∙ sym (stage_on w v place (omega (arith, kept)) (back_to v w place h back))

-- the places before it, and their stages, stay
pub back_stages : (v w : CatalogView) (place : ℕ) (places : List ℕ) → place ≤ length v.kept → stages w ≡ take (place + 1) (stages v) → Descend place places
    → Descend (length w.kept) places × (map (stage w) places ≡ map (stage v) places)
back_stages v w place places h back d =
    let kept = place_kept v w place h back in
    let there = descend_more place (length w.kept) places (omega (arith, kept)) d in
    (there, sym (stages_on w v places there (back_to v w place h back)))
