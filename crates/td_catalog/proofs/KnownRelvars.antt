-- What names find among known relvars.
use Rattle.std.proofs.Common.{◌≡◌, ◌∷◌, ◌++◌, ◌∙◌, ℕ, Bool, true, false, List, [], Option, Some, None, ap, map, refl, subst, sym, true≢false}
use Rattle.std.specs.Prelude.{if◌then◌else◌, is_some}
use Rattle.std.specs.Cmp.Lexicographic.{same_text}
use Rattle.std.specs.Set.{remove_key}
use Rattle.td_check.specs.model.Scopes.{KnownRelvar, Scope, known_relvar, relvar_in}
use Rattle.td_check.specs.laws.StaticLaws.{AgreeOn, UsersAllIn, UsersIn}
use Rattle.td_check.specs.model.StaticTypes.{type_of}
use Rattle.td_check.proofs.StaticLaws.{depends}
use Rattle.td_tree.specs.model.Outcomes.{Valued}
use Rattle.td_tree.specs.model.Trees.{Tree}
use Rattle.td_types.specs.model.Headings.{has_name}
use Rattle.td_types.specs.model.TypeLists.{declared_at}
use Rattle.td_types.specs.model.Types.{Attrs, Type', attr, boolean, char, integer, no_attrs, pack, relation, same_name, tuple, user}

-- the name of a relvar that is found is among the names
pub found_named : (n : List ℕ) (rs : List KnownRelvar) (q : KnownRelvar) → relvar_in n rs ≡ Some q → has_name n (map (λ (r : KnownRelvar). r.name) rs) ≡ true
found_named n [] q e = absurd (cc)
found_named n (r ∷ rs) q e = by_test (same_name r.name n) refl (found_named n rs q)
  where
    by_test : (b : Bool) → same_name r.name n ≡ b → (relvar_in n rs ≡ Some q → has_name n (map (λ (s : KnownRelvar). s.name) rs) ≡ true)
        → has_name n (map (λ (s : KnownRelvar). s.name) (r ∷ rs)) ≡ true
    by_test true is rest = rw is refl
    by_test false is rest = rw is (rest (rw is at e))

-- one more relvar between others, of another name
found_apart : (n : List ℕ) (x : KnownRelvar) (xs ys : List KnownRelvar) → same_name x.name n ≡ false → relvar_in n ((xs ++ (x ∷ [])) ++ ys) ≡ relvar_in n (xs ++ ys)
found_apart n x [] ys h = rw h refl
found_apart n x (r ∷ xs) ys h = by_test (same_name r.name n) (found_apart n x xs ys h)
  where
    by_test : (b : Bool) → relvar_in n ((xs ++ (x ∷ [])) ++ ys) ≡ relvar_in n (xs ++ ys)
        → (if b then Some r else relvar_in n ((xs ++ (x ∷ [])) ++ ys)) ≡ (if b then Some r else relvar_in n (xs ++ ys))
    by_test true e = refl
    by_test false e = e

-- a relvar that is known stays so with one more of a new name
pub found_between : (n : List ℕ) (x : KnownRelvar) (xs ys : List KnownRelvar) (q : KnownRelvar)
    → has_name x.name (map (λ (r : KnownRelvar). r.name) (xs ++ ys)) ≡ false → relvar_in n (xs ++ ys) ≡ Some q → relvar_in n ((xs ++ (x ∷ [])) ++ ys) ≡ Some q
found_between n x xs ys q new e = by_test (same_name x.name n) refl
  where
    by_test : (b : Bool) → same_name x.name n ≡ b → relvar_in n ((xs ++ (x ∷ [])) ++ ys) ≡ Some q
    by_test true is =
        let has = found_named n (xs ++ ys) q e in
        let same = same_text x.name n (sym is) in
        absurd (true≢false (sym has ∙ ap (λ m. has_name m (map (λ (r : KnownRelvar). r.name) (xs ++ ys))) (sym same) ∙ new))
    by_test false is = found_apart n x xs ys is ∙ e

-- one less, of another name
pub found_removed : {X : Type 0} (view : X → KnownRelvar) (n dropped : List ℕ) (xs : List X) (ys zs : List KnownRelvar) → (n ≡ dropped → ⊥)
    → relvar_in n ys ≡ relvar_in n zs → relvar_in n (map view (remove_key (λ x. same_name (view x).name dropped) xs) ++ ys) ≡ relvar_in n (map view xs ++ zs)
found_removed view n dropped [] ys zs other e = e
found_removed {X} view n dropped (x ∷ xs) ys zs other e =
    by_test (same_name (view x).name dropped) refl (found_removed view n dropped xs ys zs other e)
  where
    unnamed : same_name (view x).name dropped ≡ true → (b : Bool) → same_name (view x).name n ≡ b → b ≡ false
    unnamed is true same = absurd (other (sym (same_text (view x).name n (sym same)) ∙ same_text (view x).name dropped (sym is)))
    unnamed is false same = refl

    -- nothing is taken from what stands behind the first of the name
    behind : (rest : List X) → relvar_in n (map view rest ++ ys) ≡ relvar_in n (map view rest ++ zs)
    behind [] = e
    behind (r ∷ rest) = by_name (same_name (view r).name n) (behind rest)
      where
        by_name : (b : Bool) → relvar_in n (map view rest ++ ys) ≡ relvar_in n (map view rest ++ zs)
            → (if b then Some (view r) else relvar_in n (map view rest ++ ys)) ≡ (if b then Some (view r) else relvar_in n (map view rest ++ zs))
        by_name true f = refl
        by_name false f = f

    kept : (b : Bool) → relvar_in n (map view (remove_key (λ y. same_name (view y).name dropped) xs) ++ ys) ≡ relvar_in n (map view xs ++ zs)
        → (if b then Some (view x) else relvar_in n (map view (remove_key (λ y. same_name (view y).name dropped) xs) ++ ys))
        ≡ (if b then Some (view x) else relvar_in n (map view xs ++ zs))
    kept true f = refl
    kept false f = f

    by_test : (b : Bool) → same_name (view x).name dropped ≡ b
        → relvar_in n (map view (remove_key (λ y. same_name (view y).name dropped) xs) ++ ys) ≡ relvar_in n (map view xs ++ zs)
        → relvar_in n (map view (if b then xs else x ∷ remove_key (λ y. same_name (view y).name dropped) xs) ++ ys) ≡ relvar_in n (map view (x ∷ xs) ++ zs)
    by_test true is rest = behind xs ∙ rw (unnamed is (same_name (view x).name n) refl) refl
    by_test false is rest = kept (same_name (view x).name n) rest

-- ---- an expression that has a type has the same where the relvars that are known stay so

abbrev pub any : List ℕ → Bool
any n = true

mutual
  users_any : (t : Type') → UsersIn any t
  users_any boolean = tt
  users_any integer = tt
  users_any char = tt
  users_any (user n) = refl
  users_any (tuple xs) = users_all_any xs
  users_any (relation xs) = users_all_any xs

  pub users_all_any : (xs : Attrs) → UsersAllIn any xs
  users_all_any no_attrs = tt
  users_all_any (attr n t xs) = (users_any t, users_all_any xs)

pub types_stay : (first second : Scope) (e : Tree) (t : Type') → second.types ≡ first.types → second.entered ≡ first.entered
    → ((n : List ℕ) (q : KnownRelvar) → known_relvar first n ≡ Some q → known_relvar second n ≡ Some q) → type_of first e ≡ Valued t → type_of second e ≡ Valued t
types_stay first second e t types entered relvars is =
    let agree : AgreeOn any first second =
    record {
      entered = entered;
      types = λ n d m f. subst (λ ds. declared_at n ds ≡ Some d) (sym types) f;
      closed = λ n d m f. users_all_any (pack d.components);
      entered_in = λ h c. users_all_any (pack h);
    } in
    (depends.of_tree any first second e t agree (λ n c. refl) (λ n c q f. (q, relvars n q f, refl, users_all_any (pack q.heading))) is).0
