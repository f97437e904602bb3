-- What the rank of a type bounds: it is at least 1, and the type's tree is no higher.
use Rattle.std.proofs.Common.{◌≡◌, ℕ, ◌+◌, ◌≤◌, max, List, [], ◌∷◌, Bool, true, false, refl, sym, arith}
use Rattle.std.specs.Prelude.{fold}
use Rattle.td_tree.specs.declared.cause.Cause.TheVariants as causes
use Rattle.td_tree.specs.model.Heights.{attributes_height, type_height}
use Rattle.td_tree.specs.model.Outcomes.{Outcome, Valued, Refused, Only, with_both, with_value}
use Rattle.td_types.specs.model.TypeLists.{DeclaredType, greatest_rank, rank_of, rank_over, user_ranks, with_rank}
use Rattle.td_types.specs.laws.TypeTrees.{attribute_trees, type_tree}
use Rattle.td_types.specs.model.Types.{Type', boolean, integer, char, user, tuple, relation, Attrs, no_attrs, attr, pack, same_name}

-- the rank of a type that has parts
pub one_more : (o : Outcome ℕ) (k : ℕ) → with_value o (λ greatest. Valued (greatest + 1)) ≡ Valued k → (g : ℕ) × (o ≡ Valued g) × (k ≡ g + 1)
one_more (Valued g) k e =
    let same : g + 1 ≡ k = cc in
    (g, refl, sym same)
one_more (Refused cs) k e = absurd (cc)

-- the greatest of two ranks
pub greatest_of : (o p : Outcome ℕ) (k : ℕ) → with_both o p (λ first others. Valued (max first others)) ≡ Valued k
    → (a : ℕ) × (b : ℕ) × (o ≡ Valued a) × (p ≡ Valued b) × (k ≡ max a b)
greatest_of (Valued a) (Valued b) k e =
    let same : max a b ≡ k = cc in
    (a, b, refl, refl, sym same)
greatest_of (Valued a) (Refused ds) k e = absurd (cc)
greatest_of (Refused cs) (Valued b) k e = absurd (cc)
greatest_of (Refused cs) (Refused ds) k e = absurd (cc)

abbrev pub ArePositive : (List ℕ → Outcome ℕ) → Type 0
ArePositive ranks = (name : List ℕ) (k : ℕ) → ranks name ≡ Valued k → 1 ≤ k

one_positive : (ranks : List ℕ → Outcome ℕ) (d : DeclaredType) → ArePositive ranks → ArePositive (with_rank ranks d)
one_positive ranks d h name k e = by_test (same_name d.name name) refl
  where
    by_test : (b : Bool) → same_name d.name name ≡ b → 1 ≤ k
    by_test true is =
        let more = one_more (greatest_rank ranks (pack d.components)) k (rw is at e) in
        omega (arith, more.2)
    by_test false is = h name k (rw is at e)

fold_positive : (ranks : List ℕ → Outcome ℕ) (ds : List DeclaredType) → ArePositive ranks → ArePositive (fold with_rank ranks ds)
fold_positive ranks [] h = h
fold_positive ranks (d ∷ ds) h = fold_positive (with_rank ranks d) ds (one_positive ranks d h)

pub user_ranks_positive : (ds : List DeclaredType) → ArePositive (user_ranks ds)
user_ranks_positive ds = fold_positive (λ n. Refused (Only causes.NameUnknown)) ds (λ name k e. absurd (cc))

mutual
  -- a type's tree is no higher than its rank, and has a height
  pub type_low : (ranks : List ℕ → Outcome ℕ) (t : Type') (k : ℕ) → ArePositive ranks → rank_over ranks t ≡ Valued k → type_height (type_tree t) ≤ k
  type_low ranks boolean k h e = let one : 1 ≡ k = cc in omega (arith, one)
  type_low ranks integer k h e = let one : 1 ≡ k = cc in omega (arith, one)
  type_low ranks char k h e = let one : 1 ≡ k = cc in omega (arith, one)
  type_low ranks (user name) k h e = h name k e
  type_low ranks (tuple heading) k h e =
      let more = one_more (greatest_rank ranks heading) k e in
      omega (arith, more.2, heading_low ranks heading more.0 h more.1)
  type_low ranks (relation heading) k h e =
      let more = one_more (greatest_rank ranks heading) k e in
      omega (arith, more.2, heading_low ranks heading more.0 h more.1)

  pub heading_low : (ranks : List ℕ → Outcome ℕ) (heading : Attrs) (k : ℕ) → ArePositive ranks → greatest_rank ranks heading ≡ Valued k
      → attributes_height (attribute_trees heading) ≤ k
  heading_low ranks no_attrs k h e = omega arith
  heading_low ranks (attr name t rest) k h e =
      let both = greatest_of (rank_over ranks t) (greatest_rank ranks rest) k e in
      omega (arith, both.4, type_low ranks t both.0 h both.2, heading_low ranks rest both.1 h both.3)

pub rank_positive : (ds : List DeclaredType) (t : Type') (k : ℕ) → rank_of ds t ≡ Valued k → 1 ≤ k
rank_positive ds boolean k e = let one : 1 ≡ k = cc in omega (arith, one)
rank_positive ds integer k e = let one : 1 ≡ k = cc in omega (arith, one)
rank_positive ds char k e = let one : 1 ≡ k = cc in omega (arith, one)
rank_positive ds (user name) k e = user_ranks_positive ds name k e
rank_positive ds (tuple heading) k e = omega (arith, (one_more (greatest_rank (user_ranks ds) heading) k e).2)
rank_positive ds (relation heading) k e = omega (arith, (one_more (greatest_rank (user_ranks ds) heading) k e).2)
