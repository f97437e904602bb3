-- Scopes as they are made are scopes.
use Rattle.std.proofs.Common.{◌≡◌, ◌∷◌, ◌++◌, ℕ, Bool, true, false, List, [], ◌⊎◌, inl, inr, Some, None, arith, drop, map, refl, subst, take}
use Rattle.std.proofs.lemmas.List.{append-nil}
use Rattle.std.specs.Prelude.{if◌then◌else◌}
use Rattle.std.specs.List.{AllByRecursion, Contains}
use Rattle.std.proofs.lemmas.List.Elements.{Contains-append_cases, Contains-append_right}
use Rattle.td_check.specs.code.LentScopes.{known_as, lent_scope}
use Rattle.td_check.specs.declared.declared.Declared.{Declared}
use Rattle.td_check.specs.declared.scope.Kind.{Kind}
use Rattle.td_check.specs.declared.scope.Kind.TheVariants.{Base, Virtual}
use Rattle.td_check.specs.model.Scopes.{KnownRelvar, Scope, alone_with, entered_with, without_innermost, relvar_in, scope_of, with_known_constraint, with_known_relvar}
use Rattle.td_check.specs.laws.StaticLaws.{IsKnownHeading, IsScope, ScopesAreKept}
use Rattle.td_types.specs.model.TypeLists.{AreDeclared, DeclaredType}
use Rattle.td_types.specs.model.Types.{Heading, same_name}
use Rattle.td_check.proofs.AgreementLaws.{only_one}

nothing_there : {A : Type 0} (x : A) → Contains [] x → ⊥
nothing_there x c = absurd (omega (arith, c.1))

contained_later : (hs : List Heading) (h : Heading) → Contains (drop 1 hs) h → Contains hs h
contained_later [] h c = c
contained_later (g ∷ hs) h c = Contains-append_right (g ∷ []) hs h c

scope_of_types : (ds : List DeclaredType) → AreDeclared ds → IsScope (scope_of ds)
scope_of_types ds a = record { declared = a; relvars = λ n r e. absurd (cc); entered = λ h c. absurd (nothing_there h c) }

-- a relvar that a name finds among rows, and what stands behind them, has a known heading where all have
rows_known : (ds : List DeclaredType) (kind : Kind) (n : List ℕ) (rows : List (List ℕ × Heading)) (more : List KnownRelvar)
    → AllByRecursion (λ row. IsKnownHeading ds row.1) rows → ((r : KnownRelvar) → relvar_in n more ≡ Some r → IsKnownHeading ds r.heading)
    → (r : KnownRelvar) → relvar_in n (map (known_as kind) rows ++ more) ≡ Some r → IsKnownHeading ds r.heading
rows_known ds kind n [] more k behind r e = behind r e
rows_known ds kind n (row ∷ rows) more k behind r e = by_name (same_name row.0 n) (rows_known ds kind n rows more k.1 behind r) e
  where
    by_name : (same : Bool) → (relvar_in n (map (known_as kind) rows ++ more) ≡ Some r → IsKnownHeading ds r.heading)
        → (if same then Some (known_as kind row) else relvar_in n (map (known_as kind) rows ++ more)) ≡ Some r → IsKnownHeading ds r.heading
    by_name true later is =
        let same : known_as kind row ≡ r = cc in
        subst (λ q. IsKnownHeading ds q.heading) same k.0
    by_name false later is = later is

scope_of_declared : (ds : List DeclaredType) (declared : Declared) (virtuals : ℕ) → AreDeclared ds
    → AllByRecursion (λ row. IsKnownHeading ds row.1) declared.bases.entries
    → AllByRecursion (λ row. IsKnownHeading ds row.1) (take virtuals declared.virtuals.entries) → IsScope (lent_scope ds declared virtuals)
scope_of_declared ds declared virtuals a bases fronts =
    record { declared = a; relvars = λ n. rows_known ds Base n declared.bases.entries _ bases (among_virtuals n); entered = λ h c. absurd (nothing_there h c) }
  where
    among_virtuals : (n : List ℕ) (r : KnownRelvar) → relvar_in n (map (known_as Virtual) (take virtuals declared.virtuals.entries)) ≡ Some r → IsKnownHeading ds r.heading
    among_virtuals n r e =
        rows_known ds Virtual n (take virtuals declared.virtuals.entries) [] fronts (λ q f. absurd (cc)) r
        (rw append-nil e)

scope_entered : (h : Heading) (scope : Scope) → IsScope scope → IsKnownHeading scope.types h → IsScope (entered_with h scope)
scope_entered h scope s k =
    record { declared = s.declared; relvars = s.relvars; entered = λ g c. by_case g (Contains-append_cases (h ∷ []) scope.entered g c) }
  where
    by_case : (g : Heading) → Contains (h ∷ []) g ⊎ Contains scope.entered g → IsKnownHeading scope.types g
    by_case g (inl c) = subst (IsKnownHeading scope.types) (only_one h g c) k
    by_case g (inr c) = s.entered g c

scope_left : (scope : Scope) → IsScope scope → IsScope (without_innermost scope)
scope_left scope s =
    record { declared = s.declared; relvars = s.relvars; entered = λ h c. s.entered h (contained_later scope.entered h c) }

scope_alone : (h : Heading) (scope : Scope) → IsScope scope → IsKnownHeading scope.types h → IsScope (alone_with h scope)
scope_alone h scope s k =
    record {
      declared = s.declared;
      relvars = λ n r e. absurd (cc);
      entered = λ g c. subst (IsKnownHeading scope.types) (only_one h g c) k;
    }

-- a relvar that a name finds where one more stands last is that one, or was there
relvar_cases : (n : List ℕ) (rs : List KnownRelvar) (q r : KnownRelvar) → relvar_in n (rs ++ (q ∷ [])) ≡ Some r
    → (relvar_in n rs ≡ Some r) ⊎ (q ≡ r)
relvar_cases n [] q r e = by_name (same_name q.name n) e
  where
    by_name : (same : Bool) → (if same then Some q else None) ≡ Some r → (relvar_in n [] ≡ Some r) ⊎ (q ≡ r)
    by_name true is = let same : q ≡ r = cc in inr same
    by_name false is = absurd (cc)
relvar_cases n (p ∷ rs) q r e = by_name (same_name p.name n) refl (relvar_cases n rs q r)
  where
    by_name : (same : Bool) → same_name p.name n ≡ same → (relvar_in n (rs ++ (q ∷ [])) ≡ Some r → (relvar_in n rs ≡ Some r) ⊎ (q ≡ r))
        → (relvar_in n (p ∷ rs) ≡ Some r) ⊎ (q ≡ r)
    by_name true is rest = inl (rw is (rw is at e))
    by_name false is rest = rw is (rest (rw is at e))

scope_relvar : (n : List ℕ) (kind : Kind) (h : Heading) (scope : Scope) → IsScope scope → IsKnownHeading scope.types h
    → IsScope (with_known_relvar n kind h scope)
scope_relvar n kind h scope s k =
    record { declared = s.declared; relvars = λ m r e. by_case m r (relvar_cases m scope.relvars added r e); entered = s.entered }
  where
    added : KnownRelvar
    added = record { name = n; kind = kind; heading = h }

    by_case : (m : List ℕ) (r : KnownRelvar) → (relvar_in m scope.relvars ≡ Some r) ⊎ (added ≡ r) → IsKnownHeading scope.types r.heading
    by_case m r (inl e) = s.relvars m r e
    by_case m r (inr e) = subst (λ q. IsKnownHeading scope.types q.heading) e k

scope_constraint : (n : List ℕ) (scope : Scope) → IsScope scope → IsScope (with_known_constraint n scope)
scope_constraint n scope s = record { declared = s.declared; relvars = s.relvars; entered = s.entered }

pub scopes_are_kept : ScopesAreKept
scopes_are_kept =
    record {
      of_types = scope_of_types;
      of_declared = scope_of_declared;
      one_entered = scope_entered;
      one_left = scope_left;
      one_alone = scope_alone;
      one_relvar = scope_relvar;
      one_constraint = scope_constraint;
    }
