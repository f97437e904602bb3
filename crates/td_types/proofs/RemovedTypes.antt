-- Declared types without one of them that none of the others is made of: the others stay what they are.
use Rattle.std.proofs.Common.{◌≡◌, ◌∙◌, ◌∷◌, ◌++◌, ℕ, zero, suc, Bool, true, false, cond, List, [], Some, ◌⊎◌, inl, inr, ap, fold, refl, subst, sym, true≢false}
use Rattle.std.specs.Prelude.{◌||◌, is_some, nat_le, not, if◌then◌else◌}
use Rattle.std.specs.Cmp.Lexicographic.{same_text}
use Rattle.std.specs.List.{Contains, slice_get}
use Rattle.std.proofs.lemmas.List.{append_assoc}
use Rattle.std.proofs.lemmas.List.Folds.{list_any-append}
use Rattle.std.proofs.lemmas.Option.{slice_get-get_or}
use Rattle.td_tree.specs.declared.cause.Cause.TheVariants as causes
use Rattle.td_tree.specs.model.Outcomes.{Outcome, value_if, with_value, with_both}
use Rattle.td_types.specs.model.NamedTypes.{any_names_user, is_component, is_made_of, names_user, without_declared}
use Rattle.td_types.specs.model.TypeLists.{AreDeclared, AreKnown, DeclaredType, IsDeclarable, IsKnown, declared_at, greatest_rank, is_declared, limited_rank, rank_limit, rank_of, rank_over, user_ranks, with_rank}
use Rattle.td_types.specs.model.Types.{Attrs, Attribute, Heading, Type', attr, boolean, char, integer, no_attrs, pack, relation, same_name, tuple, user}
use Rattle.td_types.proofs.DeclaredTypes.{declared_at-itself, first_is, found, rest_is, stands_in}
use Rattle.td_types.proofs.HeadingLaws.{same_name-flips}
use Rattle.td_types.proofs.Ranks.{greater, no_ranks, one_more}

-- ---- tests

pub not_true : (b : Bool) → not b ≡ true → b ≡ false
not_true true e = absurd (true≢false (sym e))
not_true false e = refl

pub neither_left : (b c : Bool) → (b || c) ≡ false → b ≡ false
neither_left true c e = absurd (true≢false e)
neither_left false c e = refl

pub neither_right : (b c : Bool) → (b || c) ≡ false → c ≡ false
neither_right true c e = absurd (true≢false e)
neither_right false c e = e

-- ---- no component names the removed type

-- a type of a heading in which it doesn't stand
pub names_user-at : (name : List ℕ) (xs : Heading) (a : Attribute) → any_names_user name (pack xs) ≡ false → Contains xs a
    → names_user name a.1 ≡ false
names_user-at name xs a h c = at xs c.0 h (slice_get-get_or xs c.0 a c.1 ∙ ap Some c.2)
  where
    at : (ys : Heading) (i : ℕ) → any_names_user name (pack ys) ≡ false → slice_get ys i ≡ Some a → names_user name a.1 ≡ false
    at [] zero g e = absurd (cc)
    at [] (suc i) g e = absurd (cc)
    at (y ∷ ys) zero g e =
        let same : y ≡ a = cc in
        subst (λ b. names_user name b.1 ≡ false) same (neither_left (names_user name y.1) (any_names_user name (pack ys)) g)
    at (y ∷ ys) (suc i) g e = at ys i (neither_right (names_user name y.1) (any_names_user name (pack ys)) g) e

-- no type of the list is made of it
pub is_made_of-among : (name : List ℕ) (earlier : List DeclaredType) (d : DeclaredType) (later : List DeclaredType)
    → is_component name (earlier ++ (d ∷ later)) ≡ false → is_made_of name d ≡ false
is_made_of-among name earlier d later e =
    let later_test = is_component name (d ∷ later) in
    neither_left (is_made_of name d) (is_component name later)
    (neither_right (is_component name earlier) later_test (sym (list_any-append (is_made_of name) earlier (d ∷ later)) ∙ e))

-- nor where it is removed
pub is_component-without : (name removed : List ℕ) (ds : List DeclaredType) → is_component name ds ≡ false
    → is_component name (without_declared removed ds) ≡ false
is_component-without name removed [] e = refl
is_component-without name removed (d ∷ ds) e =
    by_test (same_name d.name removed) (is_component-without name removed ds others)
  where
    others : is_component name ds ≡ false
    others = neither_right (is_made_of name d) (is_component name ds) e

    by_test : (b : Bool) → is_component name (without_declared removed ds) ≡ false
        → is_component name (cond b ds (d ∷ without_declared removed ds)) ≡ false
    by_test true rest = others
    by_test false rest = rw (neither_left (is_made_of name d) (is_component name ds) e) rest

-- ---- what a name finds

apart : (name n own : List ℕ) → own ≡ name → same_name n name ≡ false → same_name own n ≡ false
apart name n own is e = ap (λ k. same_name k n) is ∙ same_name-flips name n ∙ e

-- another name finds the same type
pub declared_at-without : (name n : List ℕ) (ds : List DeclaredType) → same_name n name ≡ false
    → declared_at n (without_declared name ds) ≡ declared_at n ds
declared_at-without name n [] e = refl
declared_at-without name n (d ∷ ds) e = by_test (declared_at-without name n ds e) (same_name d.name name) refl
  where
    by_test : declared_at n (without_declared name ds) ≡ declared_at n ds → (b : Bool) → same_name d.name name ≡ b
        → declared_at n (without_declared name (d ∷ ds)) ≡ declared_at n (d ∷ ds)
    by_test rest true is =
        let other : same_name d.name n ≡ false = apart name n d.name (same_text d.name name (sym is)) e in
        rw (is, other) refl
    by_test rest false is = rw is (ap (λ o. if same_name d.name n then Some d else o) rest)

pub is_declared-without : (name n : List ℕ) (ds : List DeclaredType) → same_name n name ≡ false
    → is_declared n (without_declared name ds) ≡ is_declared n ds
is_declared-without name n ds e = ap is_some (declared_at-without name n ds e)

-- a name that is not declared is not declared still
pub not_declared-without : (name n : List ℕ) (ds : List DeclaredType) → is_declared n ds ≡ false
    → is_declared n (without_declared name ds) ≡ false
not_declared-without name n [] e = refl
not_declared-without name n (d ∷ ds) e = by_name (not_declared-without name n ds) (same_name d.name n) refl
  where
    by_test : is_declared n ds ≡ false → is_declared n (without_declared name ds) ≡ false → same_name d.name n ≡ false → (b : Bool)
        → is_declared n (cond b ds (d ∷ without_declared name ds)) ≡ false
    by_test others rest is true = others
    by_test others rest is false = rw is rest

    by_name : (is_declared n ds ≡ false → is_declared n (without_declared name ds) ≡ false) → (b : Bool) → same_name d.name n ≡ b
        → is_declared n (without_declared name (d ∷ ds)) ≡ false
    by_name rest true is = absurd (true≢false (rw is at e))
    by_name rest false is =
        let others : is_declared n ds ≡ false = rw is at e in
        by_test others (rest others) is (same_name d.name name)

-- the name of a declared type is not declared again after it
pub not_again : (earlier : List DeclaredType) (d : DeclaredType) (later : List DeclaredType) → AreDeclared (earlier ++ (d ∷ later))
    → is_declared d.name later ≡ false
not_again earlier d later h = by_test (is_declared d.name later) refl
  where
    front : (es ls : List DeclaredType) (e : DeclaredType) → later ≡ es ++ (e ∷ ls)
        → earlier ++ (d ∷ later) ≡ (earlier ++ (d ∷ es)) ++ (e ∷ ls)
    front es ls e is = ap (λ xs. earlier ++ (d ∷ xs)) is ∙ sym (append_assoc earlier (d ∷ es) (e ∷ ls))

    there : (es : List DeclaredType) → is_declared d.name (earlier ++ (d ∷ es)) ≡ true
    there es = ap is_some (declared_at-itself earlier d es (not_true _ (h earlier later d refl).new))

    by_test : (b : Bool) → is_declared d.name later ≡ b → is_declared d.name later ≡ false
    by_test false is = is
    by_test true is =
        let at = found d.name later is in
        let in_later = stands_in d.name later at.0 at.1 in
        let new = (h (earlier ++ (d ∷ in_later.0)) in_later.1 at.0 (front in_later.0 in_later.1 at.0 in_later.2)).new in
        let again = ap (λ n. is_declared n (earlier ++ (d ∷ in_later.0))) in_later.3 ∙ there in_later.0 in
        absurd (true≢false (sym again ∙ not_true _ new))

-- the removed type is not declared any more
pub removed_is_gone : (name : List ℕ) (ds : List DeclaredType) → AreDeclared ds
    → is_declared name (without_declared name ds) ≡ false
removed_is_gone name ds h = from [] ds h
  where
    from : (front rest : List DeclaredType) → AreDeclared (front ++ rest) → is_declared name (without_declared name rest) ≡ false
    from front [] g = refl
    from front (d ∷ rest) g =
        by_test (same_name d.name name) refl (not_again front d rest g)
        (from (front ++ (d ∷ [])) rest (subst AreDeclared (sym (append_assoc front (d ∷ []) rest)) g))
      where
        by_test : (b : Bool) → same_name d.name name ≡ b → is_declared d.name rest ≡ false
            → is_declared name (without_declared name rest) ≡ false → is_declared name (without_declared name (d ∷ rest)) ≡ false
        by_test true is none more = rw is (ap (λ n. is_declared n rest) (sym (same_text d.name name (sym is))) ∙ none)
        by_test false is none more = rw (is, is) more

-- two names of which one is declared are not the same
pub other_name : (name n : List ℕ) (ds : List DeclaredType) → is_declared name ds ≡ false → is_declared n ds ≡ true
    → same_name n name ≡ false
other_name name n ds none there = by_test (same_name n name) refl
  where
    by_test : (b : Bool) → same_name n name ≡ b → same_name n name ≡ false
    by_test false is = is
    by_test true is = absurd (true≢false (sym there ∙ ap (λ k. is_declared k ds) (same_text n name (sym is)) ∙ none))

-- ---- what is known

mutual
  -- a name that is not declared doesn't stand in a type that is known
  pub names_user-known : (name : List ℕ) (ds : List DeclaredType) (t : Type') → is_declared name ds ≡ false → IsKnown ds t
      → names_user name t ≡ false
  names_user-known name ds boolean none k = refl
  names_user-known name ds integer none k = refl
  names_user-known name ds char none k = refl
  names_user-known name ds (user n) none k = other_name name n ds none k
  names_user-known name ds (tuple xs) none k = any_names_user-known name ds xs none k
  names_user-known name ds (relation xs) none k = any_names_user-known name ds xs none k

  pub any_names_user-known : (name : List ℕ) (ds : List DeclaredType) (xs : Attrs) → is_declared name ds ≡ false → AreKnown ds xs
      → any_names_user name xs ≡ false
  any_names_user-known name ds no_attrs none k = refl
  any_names_user-known name ds (attr n t xs) none k =
      rw (names_user-known name ds t none k.0) (any_names_user-known name ds xs none k.1)

mutual
  -- a type in which it doesn't stand is known still
  pub IsKnown-without : (name : List ℕ) (ds : List DeclaredType) (t : Type') → names_user name t ≡ false → IsKnown ds t
      → IsKnown (without_declared name ds) t
  IsKnown-without name ds boolean e k = tt
  IsKnown-without name ds integer e k = tt
  IsKnown-without name ds char e k = tt
  IsKnown-without name ds (user n) e k = is_declared-without name n ds e ∙ k
  IsKnown-without name ds (tuple xs) e k = AreKnown-without name ds xs e k
  IsKnown-without name ds (relation xs) e k = AreKnown-without name ds xs e k

  pub AreKnown-without : (name : List ℕ) (ds : List DeclaredType) (xs : Attrs) → any_names_user name xs ≡ false → AreKnown ds xs
      → AreKnown (without_declared name ds) xs
  AreKnown-without name ds no_attrs e k = tt
  AreKnown-without name ds (attr n t xs) e k = (
    IsKnown-without name ds t (neither_left (names_user name t) (any_names_user name xs) e) k.0,
    AreKnown-without name ds xs (neither_right (names_user name t) (any_names_user name xs) e) k.1,
  )

-- a type that is not made of it can be declared still
pub IsDeclarable-without : (name : List ℕ) (ds : List DeclaredType) (d : DeclaredType) → is_made_of name d ≡ false
    → IsDeclarable ds d → IsDeclarable (without_declared name ds) d
IsDeclarable-without name ds d e h =
    record {
      named = h.named;
      new = ap not (not_declared-without name d.name ds (not_true _ h.new));
      has_component = h.has_component;
      distinct = h.distinct;
      names = h.names;
      types = h.types;
      known = λ a c. IsKnown-without name ds a.1 (names_user-at name d.components a e c) (h.known a c);
    }

-- a type that stands there still stood there before, after the same types or after those that the removed one was among
abbrev StoodIn : List ℕ → List DeclaredType → List DeclaredType → DeclaredType → Type 0
StoodIn name ds earlier d =
    (before : List DeclaredType) × (after : List DeclaredType) × (ds ≡ before ++ (d ∷ after))
    × ((earlier ≡ before) ⊎ (earlier ≡ without_declared name before))

-- so does it with one more type before it that stays
stood_later : (name : List ℕ) (c x : DeclaredType) (ds earlier : List DeclaredType) (d : DeclaredType) → c ≡ x
    → same_name c.name name ≡ false → StoodIn name ds earlier d → StoodIn name (c ∷ ds) (x ∷ earlier) d
stood_later name c x ds earlier d same is (before, after, all, place) = (c ∷ before, after, ap (λ xs. c ∷ xs) all, by_place place)
  where
    by_place : (earlier ≡ before) ⊎ (earlier ≡ without_declared name before)
        → (x ∷ earlier ≡ c ∷ before) ⊎ (x ∷ earlier ≡ without_declared name (c ∷ before))
    by_place (inl p) = inl (λ i. sym same i ∷ p i)
    by_place (inr p) = inr (rw is (λ i. sym same i ∷ p i))

-- and behind the removed one
stood_behind : (name : List ℕ) (c : DeclaredType) (ds earlier : List DeclaredType) (d : DeclaredType) (later : List DeclaredType)
    → same_name c.name name ≡ true → ds ≡ earlier ++ (d ∷ later) → StoodIn name (c ∷ ds) earlier d
stood_behind name c ds earlier d later is all = (c ∷ earlier, later, ap (λ xs. c ∷ xs) all, inr (rw is refl))

stood_in : (name : List ℕ) (ds earlier : List DeclaredType) (d : DeclaredType) (later : List DeclaredType)
    → without_declared name ds ≡ earlier ++ (d ∷ later) → StoodIn name ds earlier d
stood_in name [] [] d later e = absurd (cc)
stood_in name [] (x ∷ earlier) d later e = absurd (cc)
stood_in name (c ∷ ds) [] d later e = by_test (same_name c.name name) refl
  where
    first : c ∷ without_declared name ds ≡ d ∷ later → StoodIn name (c ∷ ds) [] d
    first all = ([], ds, ap (λ x. x ∷ ds) (first_is c d (without_declared name ds) later all), inl refl)

    by_test : (b : Bool) → same_name c.name name ≡ b → StoodIn name (c ∷ ds) [] d
    by_test true is = stood_behind name c ds [] d later is (rw is at e)
    by_test false is = first (rw is at e)
stood_in name (c ∷ ds) (x ∷ earlier) d later e = by_test (stood_in name ds earlier d later) (same_name c.name name) refl
  where
    next : (without_declared name ds ≡ earlier ++ (d ∷ later) → StoodIn name ds earlier d) → same_name c.name name ≡ false
        → c ∷ without_declared name ds ≡ x ∷ (earlier ++ (d ∷ later)) → StoodIn name (c ∷ ds) (x ∷ earlier) d
    next rest is all =
        stood_later name c x ds earlier d (first_is c x (without_declared name ds) (earlier ++ (d ∷ later)) all) is
        (rest (rest_is c x (without_declared name ds) (earlier ++ (d ∷ later)) all))

    by_test : (without_declared name ds ≡ earlier ++ (d ∷ later) → StoodIn name ds earlier d) → (b : Bool)
        → same_name c.name name ≡ b → StoodIn name (c ∷ ds) (x ∷ earlier) d
    by_test rest true is = stood_behind name c ds (x ∷ earlier) d later is (rw is at e)
    by_test rest false is = next rest is (rw is at e)

-- the others can be declared in their order still
pub AreDeclared-without : (name : List ℕ) (ds : List DeclaredType) → is_component name ds ≡ false → AreDeclared ds
    → AreDeclared (without_declared name ds)
AreDeclared-without name ds e h earlier later d is = by_place (stood_in name ds earlier d later is)
  where
    by_place : StoodIn name ds earlier d → IsDeclarable earlier d
    by_place (before, after, all, inl p) = subst (λ xs. IsDeclarable xs d) (sym p) (h before after d all)
    by_place (before, after, all, inr p) =
        subst (λ xs. IsDeclarable xs d) (sym p)
        (IsDeclarable-without name before d (is_made_of-among name before d after (ap (is_component name) (sym all) ∙ e))
        (h before after d all))

-- ---- ranks

-- ranks that agree on each name but one
abbrev Agree : List ℕ → (List ℕ → Outcome ℕ) → (List ℕ → Outcome ℕ) → Type 0
Agree name r s = (n : List ℕ) → same_name n name ≡ false → r n ≡ s n

mutual
  rank_over-agree : (name : List ℕ) (r s : List ℕ → Outcome ℕ) (t : Type') → Agree name r s → names_user name t ≡ false
      → rank_over r t ≡ rank_over s t
  rank_over-agree name r s boolean h e = refl
  rank_over-agree name r s integer h e = refl
  rank_over-agree name r s char h e = refl
  rank_over-agree name r s (user n) h e = h n e
  rank_over-agree name r s (tuple xs) h e = ap (λ o. with_value o one_more) (greatest_rank-agree name r s xs h e)
  rank_over-agree name r s (relation xs) h e = ap (λ o. with_value o one_more) (greatest_rank-agree name r s xs h e)

  greatest_rank-agree : (name : List ℕ) (r s : List ℕ → Outcome ℕ) (xs : Attrs) → Agree name r s → any_names_user name xs ≡ false
      → greatest_rank r xs ≡ greatest_rank s xs
  greatest_rank-agree name r s no_attrs h e = refl
  greatest_rank-agree name r s (attr n t xs) h e =
      ap (λ o. with_both o (greatest_rank r xs) greater)
      (rank_over-agree name r s t h (neither_left (names_user name t) (any_names_user name xs) e))
      ∙ ap (λ o. with_both (rank_over s t) o greater)
      (greatest_rank-agree name r s xs h (neither_right (names_user name t) (any_names_user name xs) e))

with_rank-agree : (name : List ℕ) (r s : List ℕ → Outcome ℕ) (d : DeclaredType) → Agree name r s → is_made_of name d ≡ false
    → Agree name (with_rank r d) (with_rank s d)
with_rank-agree name r s d h e n other = by_test (same_name d.name n)
  where
    by_test : (b : Bool)
        → (if b then with_value (greatest_rank r (pack d.components)) one_more else r n)
        ≡ (if b then with_value (greatest_rank s (pack d.components)) one_more else s n)
    by_test true = ap (λ o. with_value o one_more) (greatest_rank-agree name r s (pack d.components) h e)
    by_test false = h n other

fold-agree : (name : List ℕ) (r s : List ℕ → Outcome ℕ) (ds : List DeclaredType) → Agree name r s → is_component name ds ≡ false
    → Agree name (fold with_rank r ds) (fold with_rank s ds)
fold-agree name r s [] h e = h
fold-agree name r s (d ∷ ds) h e =
    fold-agree name (with_rank r d) (with_rank s d) ds
    (with_rank-agree name r s d h (neither_left (is_made_of name d) (is_component name ds) e))
    (neither_right (is_made_of name d) (is_component name ds) e)

-- its own rank counts for no other name
own_rank-agree : (name : List ℕ) (r s : List ℕ → Outcome ℕ) (d : DeclaredType) → Agree name r s → same_name d.name name ≡ true
    → Agree name r (with_rank s d)
own_rank-agree name r s d h is n other =
    let different : same_name d.name n ≡ false = apart name n d.name (same_text d.name name (sym is)) other in
    rw different (h n other)

without-agree : (name : List ℕ) (r s : List ℕ → Outcome ℕ) (ds : List DeclaredType) → Agree name r s
    → is_component name ds ≡ false → Agree name (fold with_rank r (without_declared name ds)) (fold with_rank s ds)
without-agree name r s [] h e = h
without-agree name r s (d ∷ ds) h e =
    by_test
    (without-agree name (with_rank r d) (with_rank s d) ds
    (with_rank-agree name r s d h (neither_left (is_made_of name d) (is_component name ds) e)) others)
    (same_name d.name name) refl
  where
    others : is_component name ds ≡ false
    others = neither_right (is_made_of name d) (is_component name ds) e

    by_test : Agree name (fold with_rank (with_rank r d) (without_declared name ds)) (fold with_rank (with_rank s d) ds)
        → (b : Bool) → same_name d.name name ≡ b
        → Agree name (fold with_rank r (cond b ds (d ∷ without_declared name ds))) (fold with_rank (with_rank s d) ds)
    by_test rest true is = fold-agree name r (with_rank s d) ds (own_rank-agree name r s d h is) others
    by_test rest false is = rest

-- another user type keeps its rank
pub user_ranks-without : (name n : List ℕ) (ds : List DeclaredType) → is_component name ds ≡ false → same_name n name ≡ false
    → user_ranks (without_declared name ds) n ≡ user_ranks ds n
user_ranks-without name n ds e other = without-agree name no_ranks no_ranks ds (λ k _. refl) e n other

-- and so does each type in which the removed one doesn't stand
pub rank_of-without : (name : List ℕ) (ds : List DeclaredType) (t : Type') → is_component name ds ≡ false
    → names_user name t ≡ false → rank_of (without_declared name ds) t ≡ rank_of ds t
rank_of-without name ds t e other =
    rank_over-agree name (user_ranks (without_declared name ds)) (user_ranks ds) t (λ n. user_ranks-without name n ds e) other

pub greatest_rank-without : (name : List ℕ) (ds : List DeclaredType) (xs : Attrs) → is_component name ds ≡ false
    → any_names_user name xs ≡ false → greatest_rank (user_ranks (without_declared name ds)) xs ≡ greatest_rank (user_ranks ds) xs
greatest_rank-without name ds xs e other =
    greatest_rank-agree name (user_ranks (without_declared name ds)) (user_ranks ds) xs (λ n. user_ranks-without name n ds e) other

pub limited_rank-without : (name : List ℕ) (ds : List DeclaredType) (t : Type') → is_component name ds ≡ false
    → names_user name t ≡ false → limited_rank (without_declared name ds) t ≡ limited_rank ds t
limited_rank-without name ds t e other =
    ap (λ o. with_value o (λ rank. value_if (nat_le rank rank_limit) rank causes.Rank)) (rank_of-without name ds t e other)
