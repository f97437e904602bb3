-- What the rows of a scope's relvars give to a name.
use Rattle.std.proofs.Common.{◌≡◌, ◌∙◌, ℕ, Bool, true, false, List, [], ◌∷◌, ◌++◌, Option, Some, None, ap, option_map, refl, Bor}
use Rattle.std.specs.Option.{option_copied}
use Rattle.std.specs.Prelude.{is_some, not, ◌||◌}
use Rattle.std.specs.List.{list_any}
use Rattle.std.proofs.lemmas.List.{map-append}
use Rattle.indexmap.specs.IndexMap.{IndexMap, insert_entry}
use Rattle.indexmap.specs.IndexSet.{insert_key}
use Rattle.indexmap.proofs.CallerLemmas.{insert_entry-new}
use Rattle.td_types.specs.model.Headings.{has_name}
use Rattle.std.specs.Map.{lookup}
use Rattle.td_check.specs.code.ScopeCode.{known_view, known_relvar_view, relvars_view}
use Rattle.td_check.specs.model.Scopes.{kind_and_heading, relvar_in}
use Rattle.td_check.specs.declared.scope.KindAndHeading.{KindAndHeading}
use Rattle.td_types.specs.model.Types.{same_name}
use Rattle.td_types.proofs.HeadingLaws.{same_name-flips}

-- a name finds a row where it finds a relvar
pub found : (name : List ℕ) (rows : List (List ℕ × KindAndHeading)) → is_some (lookup (same_name name) rows) ≡ is_some (relvar_in name (relvars_view rows))
found name [] = refl
found name (row ∷ rows) = by_test (found name rows) (same_name name row.0) refl
  where
    by_test : is_some (lookup (same_name name) rows) ≡ is_some (relvar_in name (relvars_view rows)) → (b : Bool) → same_name name row.0 ≡ b
        → is_some (lookup (same_name name) (row ∷ rows)) ≡ is_some (relvar_in name (relvars_view (row ∷ rows)))
    by_test rest true is =
        let same : same_name row.0 name ≡ true = same_name-flips row.0 name ∙ is in
        rw (is, same) refl
    by_test rest false is =
        let same : same_name row.0 name ≡ false = same_name-flips row.0 name ∙ is in
        rw (is, same) rest

-- a map of what references point to
pub of_references : {T U : Type 0} (f : T → U) (o : Option (Bor T)) → option_map (λ k. f k.now) o ≡ option_map f (option_copied o)
of_references f None = refl
of_references f (Some k) = refl

-- what it finds of both
pub kept : (name : List ℕ) (rows : List (List ℕ × KindAndHeading))
    → option_map known_view (lookup (same_name name) rows) ≡ option_map kind_and_heading (relvar_in name (relvars_view rows))
kept name [] = refl
kept name (row ∷ rows) = by_test (kept name rows) (same_name name row.0) refl
  where
    by_test : option_map known_view (lookup (same_name name) rows) ≡ option_map kind_and_heading (relvar_in name (relvars_view rows))
        → (b : Bool) → same_name name row.0 ≡ b
        → option_map known_view (lookup (same_name name) (row ∷ rows)) ≡ option_map kind_and_heading (relvar_in name (relvars_view (row ∷ rows)))
    by_test rest true is =
        let same : same_name row.0 name ≡ true = same_name-flips row.0 name ∙ is in
        rw (is, same) refl
    by_test rest false is =
        let same : same_name row.0 name ≡ false = same_name-flips row.0 name ∙ is in
        rw (is, same) rest

-- where no relvar has the name, no row has it
pub row_missing : (name : List ℕ) (rows : List (List ℕ × KindAndHeading)) → not (is_some (relvar_in name (relvars_view rows))) ≡ true
    → lookup (same_name name) rows ≡ None
row_missing name rows h = by_option (lookup (same_name name) rows) (ap not (found name rows) ∙ h)
  where
    by_option : (o : Option KindAndHeading) → not (is_some o) ≡ true → o ≡ None
    by_option None e = refl
    by_option (Some known) e = absurd (cc)

-- one more relvar stands last
pub relvar_added : {S : Type 0} (m : IndexMap (List ℕ) KindAndHeading S) (name : List ℕ) (known : KindAndHeading)
    → not (is_some (relvar_in name (relvars_view m.entries))) ≡ true
    → relvars_view (insert_entry same_name m.entries name known) ≡ relvars_view m.entries ++ (known_relvar_view (name, known) ∷ [])
relvar_added m name known h =
    ap relvars_view (insert_entry-new same_name m name known (row_missing name m.entries h))
    ∙ map-append known_relvar_view m.entries ((name, known) ∷ [])

-- so does one more name
pub name_added : (names : List (List ℕ)) (name : List ℕ) → not (has_name name names) ≡ true → insert_key same_name names name ≡ names ++ (name ∷ [])
name_added names name h = rw (flipped names ∙ not_true (has_name name names) h) refl
  where
    not_true : (b : Bool) → not b ≡ true → b ≡ false
    not_true true e = absurd (cc)
    not_true false e = refl

    flipped : (ns : List (List ℕ)) → list_any (same_name name) ns ≡ has_name name ns
    flipped [] = refl
    flipped (n ∷ ns) = λ i. same_name-flips name n i || flipped ns i
