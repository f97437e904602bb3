-- Ranks where types are declared: known types have one, it stays where more are declared, and falls towards components.
use Rattle.std.proofs.Common.{◌≡◌, ◌∙◌, ◌∷◌, ◌++◌, ◌≤◌, ◌<◌, ◌+◌, ℕ, zero, suc, Bool, true, false, List, [], Some, ap, arith, fold, refl, subst, sym, true≢false}
use Rattle.std.specs.Prelude.{is_some, max, not, if◌then◌else◌}
use Rattle.std.specs.Cmp.Lexicographic.{same_text}
use Rattle.std.specs.List.{Contains, slice_get}
use Rattle.std.proofs.lemmas.Option.{slice_get-get_or}
use Rattle.std.proofs.lemmas.List.{append-nil, append_assoc}
use Rattle.std.proofs.lemmas.List.Elements.{Contains-append_right, Contains-get_or}
use Rattle.std.proofs.lemmas.List.Sums.{fold-append}
use Rattle.td_tree.specs.declared.cause.Cause.TheVariants as causes
use Rattle.td_tree.specs.model.Outcomes.{Outcome, Valued, Refused, Only, with_value, with_both}
use Rattle.td_types.specs.model.TypeLists.{AreDeclared, AreKnown, DeclaredType, IsDeclarable, IsKnown, declared_at, greatest_rank, is_declared, rank_of, rank_over, user_ranks, with_rank}
use Rattle.td_types.specs.model.Types.{Attrs, Attribute, Heading, Type', attr, boolean, char, integer, no_attrs, pack, relation, same_name, tuple, user}
use Rattle.td_types.proofs.DeclaredTypes.{declared_at-later, is_declared-earlier, stands_in}
use Rattle.td_types.proofs.HeadingLaws.{same_name-itself}
use Rattle.td_types.proofs.OutcomeLaws.{value_of_with, valued_is, values_of_both}

-- one more than the greatest of some
abbrev pub one_more : ℕ → Outcome ℕ
one_more greatest = Valued (greatest + 1)

-- the greater of two
abbrev pub greater : ℕ → ℕ → Outcome ℕ
greater first others = Valued (max first others)

-- no user type has a rank
abbrev pub no_ranks : List ℕ → Outcome ℕ
no_ranks name = Refused (Only causes.NameUnknown)

-- ---- types have one rank where the ranks of their user types agree

mutual
  pub rank_alike : (r s : List ℕ → Outcome ℕ) (ds : List DeclaredType) (t : Type') → ((name : List ℕ) → is_declared name ds ≡ true → r name ≡ s name)
      → IsKnown ds t → rank_over r t ≡ rank_over s t
  rank_alike r s ds boolean h k = refl
  rank_alike r s ds integer h k = refl
  rank_alike r s ds char h k = refl
  rank_alike r s ds (user name) h k = h name k
  rank_alike r s ds (tuple xs) h k = ap (λ o. with_value o one_more) (greatest_alike r s ds xs h k)
  rank_alike r s ds (relation xs) h k = ap (λ o. with_value o one_more) (greatest_alike r s ds xs h k)

  pub greatest_alike : (r s : List ℕ → Outcome ℕ) (ds : List DeclaredType) (xs : Attrs) → ((name : List ℕ) → is_declared name ds ≡ true → r name ≡ s name)
      → AreKnown ds xs → greatest_rank r xs ≡ greatest_rank s xs
  greatest_alike r s ds no_attrs h k = refl
  greatest_alike r s ds (attr n t xs) h k =
      ap (λ o. with_both o (greatest_rank r xs) greater) (rank_alike r s ds t h k.0)
      ∙ ap (λ o. with_both (rank_over s t) o greater) (greatest_alike r s ds xs h k.1)

-- ---- known types have a rank

abbrev HaveRanks : (List ℕ → Outcome ℕ) → List DeclaredType → Type 0
HaveRanks ranks ds = (name : List ℕ) → is_declared name ds ≡ true → (n : ℕ) × (1 ≤ n) × (ranks name ≡ Valued n)

mutual
  rank_is : (ranks : List ℕ → Outcome ℕ) (ds : List DeclaredType) (t : Type') → HaveRanks ranks ds → IsKnown ds t
      → (n : ℕ) × (1 ≤ n) × (rank_over ranks t ≡ Valued n)
  rank_is ranks ds boolean h k = (1, omega arith, refl)
  rank_is ranks ds integer h k = (1, omega arith, refl)
  rank_is ranks ds char h k = (1, omega arith, refl)
  rank_is ranks ds (user name) h k = h name k
  rank_is ranks ds (tuple xs) h k =
      let g = greatest_is ranks ds xs h k in
      (g.0 + 1, omega arith, ap (λ o. with_value o one_more) g.1)
  rank_is ranks ds (relation xs) h k =
      let g = greatest_is ranks ds xs h k in
      (g.0 + 1, omega arith, ap (λ o. with_value o one_more) g.1)

  greatest_is : (ranks : List ℕ → Outcome ℕ) (ds : List DeclaredType) (xs : Attrs) → HaveRanks ranks ds → AreKnown ds xs
      → (n : ℕ) × (greatest_rank ranks xs ≡ Valued n)
  greatest_is ranks ds no_attrs h k = (0, refl)
  greatest_is ranks ds (attr n t xs) h k =
      let a = rank_is ranks ds t h k.0 in
      let b = greatest_is ranks ds xs h k.1 in
      (max a.0 b.0, ap (λ o. with_both o (greatest_rank ranks xs) greater) a.2 ∙ ap (λ o. with_both (Valued a.0) o greater) b.1)

-- the components of a type that can be declared are known
pub known_components : (ds : List DeclaredType) (xs : Heading) → ((a : Attribute) → Contains xs a → IsKnown ds a.1) → AreKnown ds (pack xs)
known_components ds [] h = tt
known_components ds (x ∷ xs) h =
    (h x (Contains-get_or (x ∷ xs) 0 x (omega arith)), known_components ds xs (λ a c. h a (Contains-append_right (x ∷ []) xs a c)))

not_true : (b : Bool) → not b ≡ true → b ≡ false
not_true true i = absurd (cc)
not_true false i = refl

-- a later type has another name
other_name : (ds : List DeclaredType) (d : DeclaredType) (name : List ℕ) → IsDeclarable ds d → is_declared name ds ≡ true → same_name d.name name ≡ false
other_name ds d name new e = by_test (same_name d.name name) refl
  where
    by_test : (b : Bool) → same_name d.name name ≡ b → b ≡ false
    by_test false is = refl
    by_test true is =
        let same : d.name ≡ name = same_text d.name name (sym is) in
        absurd (true≢false (sym e ∙ ap (λ n. is_declared n ds) (sym same) ∙ not_true _ new.new))

have_ranks_push : (ranks : List ℕ → Outcome ℕ) (ds : List DeclaredType) (d : DeclaredType) → IsDeclarable ds d → HaveRanks ranks ds
    → HaveRanks (with_rank ranks d) (ds ++ (d ∷ []))
have_ranks_push ranks ds d new h name e = by_test (same_name d.name name) refl
  where
    by_earlier : (b : Bool) → is_declared name ds ≡ b → same_name d.name name ≡ false → is_declared name ds ≡ true
    by_earlier true is n = is
    by_earlier false is n =
        let none = declared_at-later name ds (d ∷ []) is in
        absurd (true≢false (sym e ∙ ap is_some none ∙ rw n refl))

    by_test : (b : Bool) → same_name d.name name ≡ b
        → (n : ℕ) × (1 ≤ n) × ((if b then with_value (greatest_rank ranks (pack d.components)) one_more else ranks name) ≡ Valued n)
    by_test true is =
        let g = greatest_is ranks ds (pack d.components) h (known_components ds d.components new.known) in
        (g.0 + 1, omega arith, ap (λ o. with_value o one_more) g.1)
    by_test false is = h name (by_earlier (is_declared name ds) refl is)

have_ranks_from : (ranks : List ℕ → Outcome ℕ) (ds more : List DeclaredType) → AreDeclared (ds ++ more) → HaveRanks ranks ds
    → HaveRanks (fold with_rank ranks more) (ds ++ more)
have_ranks_from ranks ds [] h r = subst (HaveRanks ranks) (sym (append-nil ds)) r
have_ranks_from ranks ds (d ∷ more) h r =
    let assoc = append_assoc ds (d ∷ []) more in
    subst (HaveRanks (fold with_rank (with_rank ranks d) more)) assoc
    (have_ranks_from (with_rank ranks d) (ds ++ (d ∷ [])) more (subst AreDeclared (sym assoc) h) (have_ranks_push ranks ds d (h ds more d refl) r))

pub have_ranks : (ds : List DeclaredType) → AreDeclared ds → HaveRanks (user_ranks ds) ds
have_ranks ds h = have_ranks_from no_ranks [] ds h (λ name e. absurd (cc))

pub known_have_ranks : (ds : List DeclaredType) (t : Type') → AreDeclared ds → IsKnown ds t → (n : ℕ) × (1 ≤ n) × (rank_of ds t ≡ Valued n)
known_have_ranks ds t h k = rank_is (user_ranks ds) ds t (have_ranks ds h) k

-- ---- ranks stay where more types are declared

unchanged : (ranks : List ℕ → Outcome ℕ) (ds more : List DeclaredType) → AreDeclared (ds ++ more) → (name : List ℕ) → is_declared name ds ≡ true
    → fold with_rank ranks more name ≡ ranks name
unchanged ranks ds [] h name e = refl
unchanged ranks ds (d ∷ more) h name e =
    unchanged (with_rank ranks d) (ds ++ (d ∷ [])) more (subst AreDeclared (sym (append_assoc ds (d ∷ []) more)) h) name (is_declared-earlier name ds (d ∷ []) e)
    ∙ rw (other_name ds d name (h ds more d refl) e) refl

pub user_rank_later : (ds more : List DeclaredType) → AreDeclared (ds ++ more) → (name : List ℕ) → is_declared name ds ≡ true
    → user_ranks (ds ++ more) name ≡ user_ranks ds name
user_rank_later ds more h name e = ap (λ (r : List ℕ → Outcome ℕ). r name) (fold-append with_rank no_ranks ds more) ∙ unchanged (user_ranks ds) ds more h name e

pub rank_later : (ds more : List DeclaredType) (t : Type') → AreDeclared (ds ++ more) → IsKnown ds t → rank_of (ds ++ more) t ≡ rank_of ds t
rank_later ds more t h k = rank_alike (user_ranks (ds ++ more)) (user_ranks ds) ds t (user_rank_later ds more h) k

pub greatest_later : (ds more : List DeclaredType) (xs : Attrs) → AreDeclared (ds ++ more) → AreKnown ds xs
    → greatest_rank (user_ranks (ds ++ more)) xs ≡ greatest_rank (user_ranks ds) xs
greatest_later ds more xs h k = greatest_alike (user_ranks (ds ++ more)) (user_ranks ds) ds xs (user_rank_later ds more h) k

-- ---- the rank of a declared type is above those of its components

-- of the last of a list
pub rank_of_last : (ds : List DeclaredType) (d : DeclaredType)
    → user_ranks (ds ++ (d ∷ [])) d.name ≡ with_value (greatest_rank (user_ranks ds) (pack d.components)) one_more
rank_of_last ds d = ap (λ (r : List ℕ → Outcome ℕ). r d.name) (fold-append with_rank no_ranks ds (d ∷ [])) ∙ rw (same_name-itself d.name) refl

pub rank_of_declared : (ds : List DeclaredType) (name : List ℕ) (d : DeclaredType) → AreDeclared ds → declared_at name ds ≡ Some d
    → user_ranks ds name ≡ with_value (greatest_rank (user_ranks ds) (pack d.components)) one_more
rank_of_declared ds name d h e =
    let at = stands_in name ds d e in
    let es = at.0 in
    let ls = at.1 in
    let parts : ds ≡ (es ++ (d ∷ [])) ++ ls = at.2 ∙ sym (append_assoc es (d ∷ []) ls) in
    let all : AreDeclared ((es ++ (d ∷ [])) ++ ls) = subst AreDeclared parts h in
    let new = h es ls d at.2 in
    let there : is_declared d.name (es ++ (d ∷ [])) ≡ true = itself es d new in
    ap (λ xs. user_ranks xs name) parts ∙ ap (user_ranks ((es ++ (d ∷ [])) ++ ls)) (sym at.3)
    ∙ user_rank_later (es ++ (d ∷ [])) ls all d.name there ∙ rank_of_last es d
    ∙ ap (λ o. with_value o one_more)
    (sym (greatest_later es (d ∷ ls) (pack d.components) (subst AreDeclared at.2 h) (known_components es d.components new.known)))
    ∙ ap (λ xs. with_value (greatest_rank (user_ranks xs) (pack d.components)) one_more) (sym at.2)
  where
    itself : (es : List DeclaredType) (d : DeclaredType) → IsDeclarable es d → is_declared d.name (es ++ (d ∷ [])) ≡ true
    itself es d new = ap is_some (declared_at-later d.name es (d ∷ []) (not_true _ new.new)) ∙ rw (same_name-itself d.name) refl

-- no attribute has a rank above the greatest
at_most_greatest : (ranks : List ℕ → Outcome ℕ) (xs : Heading) (i : ℕ) (a : Attribute) → slice_get xs i ≡ Some a → (m n : ℕ)
    → rank_over ranks a.1 ≡ Valued m → greatest_rank ranks (pack xs) ≡ Valued n → m ≤ n
at_most_greatest ranks [] zero a c m n p q = absurd (cc)
at_most_greatest ranks [] (suc i) a c m n p q = absurd (cc)
at_most_greatest ranks (x ∷ xs) zero a c m n p q =
    let is = values_of_both (rank_over ranks x.1) (greatest_rank ranks (pack xs)) greater n q in
    let same : x ≡ a = cc in
    let first : is.0 ≡ m = valued_is is.0 m (sym is.2 ∙ ap (λ b. rank_over ranks b.1) same ∙ p) in
    omega (arith, first, valued_is (max is.0 is.1) n is.4)
at_most_greatest ranks (x ∷ xs) (suc i) a c m n p q =
    let is = values_of_both (rank_over ranks x.1) (greatest_rank ranks (pack xs)) greater n q in
    omega (arith, at_most_greatest ranks xs i a c m is.1 p is.3, valued_is (max is.0 is.1) n is.4)

pub components_rank_below : (ds : List DeclaredType) (name : List ℕ) (d : DeclaredType) (a : Attribute) (m n : ℕ) → AreDeclared ds
    → declared_at name ds ≡ Some d → Contains d.components a → rank_of ds a.1 ≡ Valued m → rank_of ds (user name) ≡ Valued n → m < n
components_rank_below ds name d a m n h e c p q =
    let is = value_of_with (greatest_rank (user_ranks ds) (pack d.components)) one_more n (sym (rank_of_declared ds name d h e) ∙ q) in
    let at : slice_get d.components c.0 ≡ Some a = slice_get-get_or d.components c.0 a c.1 ∙ ap Some c.2 in
    omega (arith, at_most_greatest (user_ranks ds) d.components c.0 a at m is.0 p is.1, valued_is (is.0 + 1) n is.2)
