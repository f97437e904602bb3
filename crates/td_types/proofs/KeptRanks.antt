-- Ranks as a table keeps them.
use Rattle.std.proofs.Common.{◌≡◌, ◌∙◌, ◌∷◌, ◌≤◌, ◌<◌, ◌↔◌, ◌+◌, ℕ, Bool, true, false, List, [], Option, Some, None, ◌⊎◌, inl, inr, ap, arith, fold, refl}
use Rattle.std.specs.Prelude.{is_some, max, min, nat_le, IsTrue, ⊤, if◌then◌else◌}
use Rattle.td_tree.specs.declared.cause.Cause.TheVariants as causes
use Rattle.td_tree.specs.model.Outcomes.{Outcome, Valued, Refused, least, named_cause, with_value, with_both, value_if}
use Rattle.td_types.specs.code.Tables.{kept_rank}
use Rattle.td_types.specs.model.TypeLists.{AreDeclared, AreKnown, DeclaredType, IsKnown, greatest_rank, is_declared, limited_rank, rank_limit, rank_of, rank_over, user_ranks, with_rank}
use Rattle.td_types.specs.model.Types.{Attrs, Type', attr, boolean, char, integer, no_attrs, pack, relation, same_name, tuple, user}
use Rattle.td_types.proofs.OutcomeLaws.{value_of_with, values_of_both}
use Rattle.td_types.proofs.Ranks.{greater, known_have_ranks, no_ranks, one_more}
use Rattle.std.proofs.lemmas.Bool.Decides.{leb_tells}

-- the greater of two that may be none
abbrev pub kept_greater : Option ℕ → Option ℕ → Option ℕ
kept_greater None k = None
kept_greater (Some a) None = None
kept_greater (Some a) (Some b) = Some (max a b)

pub kept_both : (o p : Outcome ℕ) → kept_rank (with_both o p greater) ≡ kept_greater (kept_rank o) (kept_rank p)
kept_both (Valued a) (Valued b) = ap Some (omega arith)
kept_both (Valued a) (Refused ds) = refl
kept_both (Refused cs) (Valued b) = refl
kept_both (Refused cs) (Refused ds) = refl

-- what is left to look at once one more is looked at
pub kept_step : (g r : ℕ) (o p : Outcome ℕ) → kept_rank o ≡ Some r
    → kept_greater (Some g) (kept_rank (with_both o p greater)) ≡ kept_greater (Some (max g r)) (kept_rank p)
kept_step g r o p e = ap (kept_greater (Some g)) (kept_both o p ∙ ap (λ k. kept_greater k (kept_rank p)) e) ∙ by_rest (kept_rank p)
  where
    by_rest : (k : Option ℕ) → kept_greater (Some g) (kept_greater (Some r) k) ≡ kept_greater (Some (max g r)) k
    by_rest None = refl
    by_rest (Some b) = ap Some (omega arith)

-- and where that one has none, there is none
pub kept_none : (g : ℕ) (o p : Outcome ℕ) → kept_rank o ≡ None → kept_greater (Some g) (kept_rank (with_both o p greater)) ≡ None
kept_none g o p e = ap (kept_greater (Some g)) (kept_both o p ∙ ap (λ k. kept_greater k (kept_rank p)) e)

-- none is left
pub kept_end : (g : ℕ) → kept_greater (Some g) (kept_rank (Valued 0)) ≡ Some g
kept_end g = ap Some (omega arith)

-- at the beginning
pub kept_begin : (o : Outcome ℕ) → kept_greater (Some 0) (kept_rank o) ≡ kept_rank o
kept_begin (Valued n) = ap Some (omega arith)
kept_begin (Refused cs) = refl

-- ---- a type has a rank exactly where its user types are declared

-- a name that has a rank is declared, or had one before
ranked_in : (ranks : List ℕ → Outcome ℕ) (ds : List DeclaredType) (name : List ℕ) (n : ℕ) → fold with_rank ranks ds name ≡ Valued n
    → (is_declared name ds ≡ true) ⊎ ((m : ℕ) × (ranks name ≡ Valued m))
ranked_in ranks [] name n e = inr (n, e)
ranked_in ranks (d ∷ ds) name n e = by_test (ranked_in (with_rank ranks d) ds name n e) (same_name d.name name) refl
  where
    by_test : (is_declared name ds ≡ true) ⊎ ((m : ℕ) × (with_rank ranks d name ≡ Valued m)) → (b : Bool) → same_name d.name name ≡ b
        → (is_declared name (d ∷ ds) ≡ true) ⊎ ((m : ℕ) × (ranks name ≡ Valued m))
    by_test h true is = inl (rw is refl)
    by_test (inl h) false is = inl (rw is h)
    by_test (inr h) false is = inr (h.0, rw is at h.1)

pub user_ranked : (ds : List DeclaredType) (name : List ℕ) (n : ℕ) → user_ranks ds name ≡ Valued n → is_declared name ds ≡ true
user_ranked ds name n e = by_cases (ranked_in no_ranks ds name n e)
  where
    by_cases : (is_declared name ds ≡ true) ⊎ ((m : ℕ) × (no_ranks name ≡ Valued m)) → is_declared name ds ≡ true
    by_cases (inl h) = h
    by_cases (inr (m, h)) = absurd (cc)

mutual
  ranked_known : (ds : List DeclaredType) (t : Type') (r : ℕ) → rank_of ds t ≡ Valued r → IsKnown ds t
  ranked_known ds boolean r e = tt
  ranked_known ds integer r e = tt
  ranked_known ds char r e = tt
  ranked_known ds (user name) r e = user_ranked ds name r e
  ranked_known ds (tuple xs) r e =
      let is = value_of_with (greatest_rank (user_ranks ds) xs) one_more r e in
      greatest_known ds xs is.0 is.1
  ranked_known ds (relation xs) r e =
      let is = value_of_with (greatest_rank (user_ranks ds) xs) one_more r e in
      greatest_known ds xs is.0 is.1

  greatest_known : (ds : List DeclaredType) (xs : Attrs) (n : ℕ) → greatest_rank (user_ranks ds) xs ≡ Valued n → AreKnown ds xs
  greatest_known ds no_attrs n e = tt
  greatest_known ds (attr name t xs) n e =
      let is = values_of_both (rank_of ds t) (greatest_rank (user_ranks ds) xs) greater n e in
      (ranked_known ds t is.0 is.2, greatest_known ds xs is.1 is.3)

-- so is it with the rank as it is kept
pub known_where_kept : (ds : List DeclaredType) (t : Type') → AreDeclared ds → IsTrue (is_some (kept_rank (rank_of ds t))) ↔ IsKnown ds t
known_where_kept ds t h = (known, kept)
  where
    by_outcome : (o : Outcome ℕ) → rank_of ds t ≡ o → is_some (kept_rank o) ≡ true → IsKnown ds t
    by_outcome (Valued r) e k = ranked_known ds t r e
    by_outcome (Refused cs) e k = absurd (cc)

    known : is_some (kept_rank (rank_of ds t)) ≡ true → IsKnown ds t
    known k = by_outcome (rank_of ds t) refl k

    kept : IsKnown ds t → is_some (kept_rank (rank_of ds t)) ≡ true
    kept k = ap (λ o. is_some (kept_rank o)) (known_have_ranks ds t h k).2

-- ---- the cause for which a type has no rank

abbrev OnlyUnknown : {A : Type 0} → Outcome A → Type 0
OnlyUnknown (Valued x) = ⊤
OnlyUnknown (Refused cs) = least cs ≡ causes.NameUnknown

unknown_next : (o : Outcome ℕ) → OnlyUnknown o → OnlyUnknown (with_value o one_more)
unknown_next (Valued n) h = tt
unknown_next (Refused cs) h = h

unknown_both : (o p : Outcome ℕ) → OnlyUnknown o → OnlyUnknown p → OnlyUnknown (with_both o p greater)
unknown_both (Valued a) (Valued b) h k = tt
unknown_both (Valued a) (Refused ds) h k = k
unknown_both (Refused cs) (Valued b) h k = h
unknown_both (Refused cs) (Refused ds) h k = rw (h, k) refl

mutual
  unknown_type : (ranks : List ℕ → Outcome ℕ) → ((name : List ℕ) → OnlyUnknown (ranks name)) → (t : Type') → OnlyUnknown (rank_over ranks t)
  unknown_type ranks h boolean = tt
  unknown_type ranks h integer = tt
  unknown_type ranks h char = tt
  unknown_type ranks h (user name) = h name
  unknown_type ranks h (tuple xs) = unknown_next (greatest_rank ranks xs) (unknown_greatest ranks h xs)
  unknown_type ranks h (relation xs) = unknown_next (greatest_rank ranks xs) (unknown_greatest ranks h xs)

  unknown_greatest : (ranks : List ℕ → Outcome ℕ) → ((name : List ℕ) → OnlyUnknown (ranks name)) → (xs : Attrs) → OnlyUnknown (greatest_rank ranks xs)
  unknown_greatest ranks h no_attrs = tt
  unknown_greatest ranks h (attr n t xs) =
      unknown_both (rank_over ranks t) (greatest_rank ranks xs) (unknown_type ranks h t) (unknown_greatest ranks h xs)

unknown_with : (ranks : List ℕ → Outcome ℕ) → ((name : List ℕ) → OnlyUnknown (ranks name)) → (d : DeclaredType) (name : List ℕ) → OnlyUnknown (with_rank ranks d name)
unknown_with ranks h d name = by_test (same_name d.name name)
  where
    by_test : (b : Bool) → OnlyUnknown (if b then with_value (greatest_rank ranks (pack d.components)) one_more else ranks name)
    by_test true = unknown_next (greatest_rank ranks (pack d.components)) (unknown_greatest ranks h (pack d.components))
    by_test false = h name

unknown_from : (ranks : List ℕ → Outcome ℕ) → ((name : List ℕ) → OnlyUnknown (ranks name)) → (ds : List DeclaredType) (name : List ℕ) → OnlyUnknown (fold with_rank ranks ds name)
unknown_from ranks h [] name = h name
unknown_from ranks h (d ∷ ds) name = unknown_from (with_rank ranks d) (unknown_with ranks h d) ds name

unknown_rank : (ds : List DeclaredType) (t : Type') → OnlyUnknown (rank_of ds t)
unknown_rank ds t = unknown_type (user_ranks ds) (unknown_from no_ranks (λ name. refl) ds) t

-- ---- what is answered of a rank

abbrev limited : ℕ → Outcome ℕ
limited rank = value_if (nat_le rank rank_limit) rank causes.Rank

pub rank_none : (ds : List DeclaredType) (t : Type') → kept_rank (rank_of ds t) ≡ None → named_cause (limited_rank ds t) ≡ Some causes.NameUnknown
rank_none ds t e = by_outcome (rank_of ds t) e (unknown_rank ds t)
  where
    by_outcome : (o : Outcome ℕ) → kept_rank o ≡ None → OnlyUnknown o → named_cause (with_value o limited) ≡ Some causes.NameUnknown
    by_outcome (Valued n) k h = absurd (cc)
    by_outcome (Refused cs) k h = ap Some h

some_number : (m n : ℕ) → Some m ≡ Some n → m ≡ n
some_number m n e = cc

pub rank_within : (ds : List DeclaredType) (t : Type') (r : ℕ) → kept_rank (rank_of ds t) ≡ Some r → r ≤ rank_limit → limited_rank ds t ≡ Valued r
rank_within ds t r e within = by_outcome (rank_of ds t) e
  where
    by_test : (n : ℕ) → n ≡ r → ((nat_le n rank_limit ≡ true) × (n ≤ rank_limit)) ⊎ ((nat_le n rank_limit ≡ false) × (rank_limit < n)) → limited n ≡ Valued r
    by_test n same (inl l) = rw l.0 (ap Valued same)
    by_test n same (inr g) = absurd (omega (arith, same, g.1, within))

    by_outcome : (o : Outcome ℕ) → kept_rank o ≡ Some r → with_value o limited ≡ Valued r
    by_outcome (Valued n) k =
        let least_is = some_number (min n (rank_limit + 1)) r k in
        by_test n (omega (arith, least_is, within)) (leb_tells n rank_limit)
    by_outcome (Refused cs) k = absurd (cc)

pub rank_above_limit : (ds : List DeclaredType) (t : Type') (r : ℕ) → kept_rank (rank_of ds t) ≡ Some r → rank_limit < r
    → named_cause (limited_rank ds t) ≡ Some causes.Rank
rank_above_limit ds t r e above = by_outcome (rank_of ds t) e
  where
    by_test : (n : ℕ) → r ≤ n → ((nat_le n rank_limit ≡ true) × (n ≤ rank_limit)) ⊎ ((nat_le n rank_limit ≡ false) × (rank_limit < n)) → named_cause (limited n) ≡ Some causes.Rank
    by_test n most (inl l) = absurd (omega (arith, most, l.1, above))
    by_test n most (inr g) = rw g.0 refl

    by_outcome : (o : Outcome ℕ) → kept_rank o ≡ Some r → named_cause (with_value o limited) ≡ Some causes.Rank
    by_outcome (Valued n) k =
        let least_is = some_number (min n (rank_limit + 1)) r k in
        by_test n (omega (arith, least_is)) (leb_tells n rank_limit)
    by_outcome (Refused cs) k = absurd (cc)
