-- A type without which the others can be declared: none is made of it.
use Rattle.std.proofs.Common.{◌≡◌, ◌∷◌, ◌++◌, ℕ, suc, Bool, true, false, Contains, List, [], ap, arith, cond, refl, subst, sym}
use Rattle.std.specs.Prelude.{◌||◌}
use Rattle.std.proofs.lemmas.List.{append_assoc}
use Rattle.td_types.specs.model.NamedTypes.{any_names_user, is_component, is_made_of, without_declared}
use Rattle.td_types.specs.model.TypeLists.{AreDeclared, DeclaredType, IsKnown, is_declared}
use Rattle.td_types.specs.model.Types.{Attribute, pack, same_name}
use Rattle.td_types.proofs.DeclaredTypes.{AreDeclared-front}
use Rattle.td_types.proofs.RemovedTypes.{names_user-known, removed_is_gone}

contains_first : {X : Type 0} (x : X) (xs : List X) → Contains (x ∷ xs) x
contains_first x xs = (0, omega arith, refl)

contains_later : {X : Type 0} (y : X) (xs : List X) (x : X) → Contains xs x → Contains (y ∷ xs) x
contains_later y xs x c = (suc c.0, (let below = c.1 in omega arith), c.2)

made_of_known : (name : List ℕ) (ds : List DeclaredType) (xs : List Attribute) → is_declared name ds ≡ false → ((a : Attribute) → Contains xs a → IsKnown ds a.1)
    → any_names_user name (pack xs) ≡ false
made_of_known name ds [] none h = refl
made_of_known name ds (a ∷ xs) none h =
    (λ i. names_user-known name ds a.1 none (h a (contains_first a xs)) i
    || made_of_known name ds xs none (λ b c. h b (contains_later a xs b c)) i)

-- what is taken out among the earlier ones stands among them
without_earlier : (name : List ℕ) (earlier later : List DeclaredType) → is_declared name earlier ≡ true
    → without_declared name (earlier ++ later) ≡ without_declared name earlier ++ later
without_earlier name [] later e = absurd (cc)
without_earlier name (d ∷ earlier) later e = by_test (same_name d.name name) refl (without_earlier name earlier later)
  where
    by_test : (b : Bool) → same_name d.name name ≡ b
        → (is_declared name earlier ≡ true → without_declared name (earlier ++ later) ≡ without_declared name earlier ++ later)
        → cond b (earlier ++ later) (d ∷ without_declared name (earlier ++ later)) ≡ cond b earlier (d ∷ without_declared name earlier) ++ later
    by_test true is rest = refl
    by_test false is rest = ap (λ ds. d ∷ ds) (rest (rw is at e))

module _ (name : List ℕ) where
  made_of_none : (earlier : List DeclaredType) (d : DeclaredType) (later : List DeclaredType) → AreDeclared (earlier ++ (d ∷ later))
      → AreDeclared (without_declared name (earlier ++ (d ∷ later))) → is_made_of name d ≡ false
  made_of_none earlier d later all others = by_test (is_declared name earlier) refl
    where
      by_test : (b : Bool) → is_declared name earlier ≡ b → is_made_of name d ≡ false
      by_test true e =
          let stands = subst AreDeclared (without_earlier name earlier (d ∷ later) e) others in
          made_of_known name (without_declared name earlier) d.components (removed_is_gone name earlier (AreDeclared-front earlier (d ∷ later) all))
          (stands (without_declared name earlier) later d refl).known
      by_test false e = made_of_known name earlier d.components e (all earlier later d refl).known

  made_of_later : (earlier later : List DeclaredType) → AreDeclared (earlier ++ later) → AreDeclared (without_declared name (earlier ++ later))
      → is_component name later ≡ false
  made_of_later earlier [] all others = refl
  made_of_later earlier (d ∷ later) all others =
      let same = append_assoc earlier (d ∷ []) later in
      (λ i. made_of_none earlier d later all others i
      || made_of_later (earlier ++ (d ∷ [])) later (subst AreDeclared (sym same) all) (subst (λ ds. AreDeclared (without_declared name ds)) (sym same) others) i)

  pub last_unused : (ds : List DeclaredType) → AreDeclared ds → AreDeclared (without_declared name ds) → is_component name ds ≡ false
  last_unused = made_of_later []
