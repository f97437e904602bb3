-- Rows of blocks, as they are made.
use Rattle.std.proofs.Common.{◌≡◌, ◌≤◌, ◌<◌, ◌+◌, ℕ, zero, suc, List, [], ◌∷◌, length, arith, drop, refl}
use Rattle.std.proofs.Common.{◌-◌, ◌∙◌, ◌++◌, ap, sym, subst, append_assoc, append-nil, length-append, max, take}
use Rattle.std.proofs.lemmas.List.{length-drop, length-take, drop-drop, take-append-drop}
use Rattle.td_value.proofs.Cut.{cut_first, cut_length, cut_names, cut_tuple, zip_depth}
use Rattle.td_value.specs.model.Values.{AreValues, IsTuple, Tuple, Val, pack_parts, tuple_names}
use Rattle.td_value.specs.code.Blocks.{AreAsDeep, AreOfDepth, AreWhole, IsRow, row_view, rows_of}
use Rattle.td_value.specs.code.Depths.{depth, parts_depth, tuple_depth}
use Rattle.td_value.specs.code.Views.{tuple_view, values_of}
use Rattle.td_value.specs.code.Zipped.{AreNames}

-- rows of values that hold no others nest as deep as all of these
pub flat_rows : (ns : List (List ℕ)) (k : ℕ) (vs : List Val) (d : ℕ) → d ≤ 1 → 0 < length ns → AreWhole ns k vs → AreAsDeep ns k vs d
flat_rows ns zero vs d flat wide w = tt
flat_rows ns (suc k) vs d flat wide w = (first ns vs wide w.0, flat_rows ns k (drop (length ns) vs) d flat wide w.1)
  where
    first : (ms : List (List ℕ)) (ws : List Val) → 0 < length ms → length ms ≤ length ws → d ≤ tuple_depth (tuple_view ms ws)
    first [] ws p e = absurd (omega (arith, p))
    first (m ∷ ms) [] p e = absurd (omega (arith, e))
    first (m ∷ ms) (w ∷ ws) p e = omega (arith, flat)

-- the only row of a block
pub only_row : (ns : List (List ℕ)) (vs : List Val) (width : ℕ) → width ≡ length vs → length ns ≡ length vs → IsTuple (tuple_view ns vs) → IsRow ns width 0 vs
only_row ns vs width w e valid =
    record { width_is = omega (arith, w, e); inside = omega (arith, e); deepest = zip_depth ns vs e; is_tuple = valid }

-- what holds of each value holds of those from a place on
pub AreValues-drop : (i : ℕ) (vs : List Val) → AreValues (pack_parts vs) → AreValues (pack_parts (drop i vs))
AreValues-drop zero vs h = h
AreValues-drop (suc i) [] h = h
AreValues-drop (suc i) (v ∷ vs) h = AreValues-drop i vs h.1

-- a row of a block, if it nests as deep as the block
pub deep_row : (ns : List (List ℕ)) (width start : ℕ) (vs : List Val) → width ≡ length ns → start + length ns ≤ length vs
    → parts_depth (pack_parts vs) ≤ tuple_depth (row_view ns start vs) → AreNames ns → AreValues (pack_parts vs) → IsRow ns width start vs
deep_row ns width start vs w e deep names values =
    record {
      width_is = w;
      inside = e;
      deepest = deep;
      is_tuple = cut_tuple ns (drop start vs) (omega (arith, e, length-drop start vs)) names (AreValues-drop start vs values);
    }

-- a row's names, and how many there are
pub row_names : (ns : List (List ℕ)) (width start : ℕ) (vs : List Val) → IsRow ns width start vs → tuple_names (row_view ns start vs) ≡ ns
row_names ns width start vs r = cut_names ns (drop start vs) (omega (arith, r.inside, length-drop start vs))

pub row_length : (ns : List (List ℕ)) (width start : ℕ) (vs : List Val) → IsRow ns width start vs → length (row_view ns start vs) ≡ length ns
row_length ns width start vs r = cut_length ns (drop start vs) (omega (arith, r.inside, length-drop start vs))

-- the first of the rows that are left
pub record First (ns : List (List ℕ)) (left start : ℕ) (vs : List Val) : Type 0 where
  pub inside : start + length ns ≤ length vs
  pub rest : AreWhole ns (left - 1) (drop (start + length ns) vs)
  pub rows : rows_of ns left (drop start vs) ≡ row_view ns start vs ∷ rows_of ns (left - 1) (drop (start + length ns) vs)

pub first_of : (ns : List (List ℕ)) (left start : ℕ) (vs : List Val) → 0 < left → start ≤ length vs → AreWhole ns left (drop start vs) → First ns left start vs
first_of ns zero start vs p e h = absurd (omega (arith, p))
first_of ns (suc k) start vs p e h =
    let one : k ≡ suc k - 1 = omega arith in
    let past : drop (length ns) (drop start vs) ≡ drop (start + length ns) vs = drop-drop (length ns) start vs in
    record {
      inside = omega (arith, h.0, length-drop start vs, e);
      rest = subst (λ n. AreWhole ns n (drop (start + length ns) vs)) one (subst (AreWhole ns k) past h.1);
      rows = ap (λ r. row_view ns start vs ∷ r) (ap (rows_of ns k) past ∙ ap (λ n. rows_of ns n (drop (start + length ns) vs)) one);
    }

-- the first of the rows that are left, and the others, are as deep
pub deep_first : (ns : List (List ℕ)) (left start d : ℕ) (vs : List Val) → 0 < left → AreAsDeep ns left (drop start vs) d
    → (d ≤ tuple_depth (row_view ns start vs)) × AreAsDeep ns (left - 1) (drop (start + length ns) vs) d
deep_first ns zero start d vs p h = absurd (omega (arith, p))
deep_first ns (suc k) start d vs p h =
    let one : k ≡ suc k - 1 = omega arith in
    (h.0, subst (λ n. AreAsDeep ns n (drop (start + length ns) vs) d) one (subst (λ r. AreAsDeep ns k r d) (drop-drop (length ns) start vs) h.1))

-- the rows so far and those that are left, with one more made
pub one_more : (made : List Tuple) (t : Tuple) (left all : List Tuple) (now : List Tuple) → now ≡ made ++ t ∷ [] → made ++ t ∷ left ≡ all → now ++ left ≡ all
one_more made t left all now e h = ap (λ r. r ++ left) e ∙ append_assoc made (t ∷ []) left ∙ h

-- none is left
pub all_made : (ns : List (List ℕ)) (left : ℕ) (vs : List Val) (made all : List Tuple) → left ≤ 0 → made ++ rows_of ns left vs ≡ all → made ≡ all
all_made ns zero vs made all e h = sym (append-nil made) ∙ h
all_made ns (suc k) vs made all e h = absurd (omega (arith, e))

past_first : (ns : List (List ℕ)) (vs ws : List Val) → length ns ≤ length vs → drop (length ns) (vs ++ ws) ≡ drop (length ns) vs ++ ws
past_first [] vs ws e = refl
past_first (n ∷ ns) [] ws e = absurd (omega (arith, e))
past_first (n ∷ ns) (v ∷ vs) ws e = past_first ns vs ws (omega (arith, e))

first_alone : (ns : List (List ℕ)) (vs ws : List Val) → length ns ≤ length vs → tuple_view ns (vs ++ ws) ≡ tuple_view ns vs
first_alone [] vs ws e = refl
first_alone (n ∷ ns) [] ws e = absurd (omega (arith, e))
first_alone (n ∷ ns) (v ∷ vs) ws e = ap (λ r. (n, v) ∷ r) (first_alone ns vs ws (omega (arith, e)))

pushed_whole : (ns : List (List ℕ)) (k : ℕ) (vs row : List Val) → AreWhole ns k vs → length ns ≡ length row → AreWhole ns (suc k) (vs ++ row)
pushed_whole ns zero [] row h e = (omega (arith, e), omega (arith, e, length-drop (length ns) row))
pushed_whole ns zero (v ∷ vs) row h e = absurd (omega (arith, h))
pushed_whole ns (suc k) vs row h e =
    (omega (arith, h.0, length-append vs row), subst (AreWhole ns (suc k)) (sym (past_first ns vs row h.0)) (pushed_whole ns k (drop (length ns) vs) row h.1 e))

pushed_rows : (ns : List (List ℕ)) (k : ℕ) (vs row : List Val) → AreWhole ns k vs → rows_of ns (suc k) (vs ++ row) ≡ rows_of ns k vs ++ tuple_view ns row ∷ []
pushed_rows ns zero [] row h = refl
pushed_rows ns zero (v ∷ vs) row h = absurd (omega (arith, h))
pushed_rows ns (suc k) vs row h =
    λ i. first_alone ns vs row h.0 i ∷ (ap (rows_of ns (suc k)) (past_first ns vs row h.0) ∙ pushed_rows ns k (drop (length ns) vs) row h.1) i

-- one more row after the others
pub one_row_more : (ns : List (List ℕ)) (k n : ℕ) (vs row : List Val) → n ≡ k + 1 → AreWhole ns k vs → length ns ≡ length row
    → AreWhole ns n (vs ++ row) × (rows_of ns n (vs ++ row) ≡ rows_of ns k vs ++ tuple_view ns row ∷ [])
one_row_more ns k n vs row e h f =
    let same : suc k ≡ n = omega (arith, e) in (
      subst (λ j. AreWhole ns j (vs ++ row)) same (pushed_whole ns k vs row h f),
      subst (λ j. rows_of ns j (vs ++ row) ≡ rows_of ns k vs ++ tuple_view ns row ∷ []) same (pushed_rows ns k vs row h),
    )

-- one more row is made
pub made_more : (ns : List (List ℕ)) (vs : List Val) (left start width : ℕ) (made now all : List Tuple) (t : Tuple) → length ns ≡ width → First ns left start vs
    → now ≡ made ++ t ∷ [] → t ≡ row_view ns start vs → made ++ rows_of ns left (drop start vs) ≡ all
    → (start + width ≤ length vs) × AreWhole ns (left - 1) (drop (start + width) vs) × (now ++ rows_of ns (left - 1) (drop (start + width) vs) ≡ all)
made_more ns vs left start width made now all t w first e is h =
    subst (λ n. (start + n ≤ length vs) × AreWhole ns (left - 1) (drop (start + n) vs) × (now ++ rows_of ns (left - 1) (drop (start + n) vs) ≡ all)) w
    (first.inside, first.rest, one_more made (row_view ns start vs) _ all now (e ∙ ap (λ x. made ++ x ∷ []) is) (ap (λ r. made ++ r) (sym first.rows) ∙ h))

pub parts_append : (vs ws : List Val) → parts_depth (pack_parts (vs ++ ws)) ≡ max (parts_depth (pack_parts vs)) (parts_depth (pack_parts ws))
parts_append [] ws = omega arith
parts_append (v ∷ vs) ws = omega (arith, parts_append vs ws)

-- rows that nest just so deep make a block that nests no deeper
of_depth : (ns : List (List ℕ)) (k : ℕ) (vs : List Val) (d : ℕ) → AreWhole ns k vs → AreOfDepth ns k vs d → parts_depth (pack_parts vs) ≤ d
of_depth ns zero [] d w h = omega arith
of_depth ns zero (v ∷ vs) d w h = absurd (omega (arith, w))
of_depth ns (suc k) vs d w h =
    let whole : take (length ns) vs ++ drop (length ns) vs ≡ vs = take-append-drop (length ns) vs in
    omega (arith, h.0, of_depth ns k (drop (length ns) vs) d w.1 h.1, parts_append (take (length ns) vs) (drop (length ns) vs), ap (λ r. parts_depth (pack_parts r)) whole)

as_deep : (ns : List (List ℕ)) (k : ℕ) (vs : List Val) (d e : ℕ) → e ≤ d → AreWhole ns k vs → AreOfDepth ns k vs d → AreAsDeep ns k vs e
as_deep ns zero vs d e p w h = tt
as_deep ns (suc k) vs d e p w h =
    let same : tuple_view ns (take (length ns) vs) ≡ tuple_view ns vs = cut_first ns vs in
    let row = zip_depth ns (take (length ns) vs) (omega (arith, w.0, length-take (length ns) vs)) in
    (omega (arith, p, h.0, row, ap tuple_depth same), as_deep ns k (drop (length ns) vs) d e p w.1 h.1)

-- rows that nest just so deep nest as deep as their block
pub alike : (ns : List (List ℕ)) (k : ℕ) (vs : List Val) (d : ℕ) → AreWhole ns k vs → AreOfDepth ns k vs d → AreAsDeep ns k vs (parts_depth (pack_parts vs))
alike ns k vs d w h = as_deep ns k vs d (parts_depth (pack_parts vs)) (of_depth ns k vs d w h) w h

-- the first of the rows that are left nests just so deep, and so do the others
pub depth_first : (ns : List (List ℕ)) (left start d : ℕ) (vs : List Val) → 0 < left → parts_depth (pack_parts (take (length ns) (drop start vs))) ≡ d
    → AreOfDepth ns (left - 1) (drop (start + length ns) vs) d → AreOfDepth ns left (drop start vs) d
depth_first ns zero start d vs p e h = absurd (omega (arith, p))
depth_first ns (suc k) start d vs p e h =
    let one : suc k - 1 ≡ k = omega arith in
    (e, subst (λ r. AreOfDepth ns k r d) (sym (drop-drop (length ns) start vs)) (subst (λ n. AreOfDepth ns n (drop (start + length ns) vs) d) one h))

-- none is left
pub none_of_depth : (ns : List (List ℕ)) (left d : ℕ) (vs : List Val) → left ≤ 0 → AreOfDepth ns left vs d
none_of_depth ns zero d vs e = tt
none_of_depth ns (suc k) d vs e = absurd (omega (arith, e))

-- a tuple nests as deep as its values do
pub values_depth : (t : Tuple) → parts_depth (pack_parts (values_of t)) ≡ tuple_depth t
values_depth [] = refl
values_depth (e ∷ t) = ap (max (suc (depth e.1))) (values_depth t)

pub positive : (n : ℕ) → (n ≡ 0 → ⊥) → 0 < n
positive zero h = absurd (h refl)
positive (suc n) h = omega arith
