-- What a table's rows give to a name, and that they stay a table with one more.
use Rattle.std.proofs.Common.{◌≡◌, ◌∙◌, ◌∷◌, ◌++◌, ◌+◌, ℕ, suc, cond, length, nat_lt, Bool, true, false, List, [], Option, Some, None, ap, refl, subst, sym, true≢false}
use Rattle.std.specs.Prelude.{if◌then◌else◌, is_some, not, option_map}
use Rattle.std.specs.Cmp.Lexicographic.{same_text}
use Rattle.std.specs.List.{AllByRecursion, position, prefix_len}
use Rattle.std.specs.Map.{keys_of, lookup}
use Rattle.std.proofs.lemmas.List.{append_assoc, map-append}
use Rattle.td_tree.specs.model.Outcomes.{Outcome, Valued, Refused}
use Rattle.td_types.specs.code.Tables.{IsTable, kept_rank, rows_view}
use Rattle.td_types.specs.model.TypeLists.{AreDeclared, DeclaredType, IsDeclarable, declared_at, declared_place, is_declared, user_ranks}
use Rattle.td_types.specs.model.Types.{same_name}
use Rattle.td_types.specs.declared.table.Row.{Row}
use Rattle.td_types.proofs.DeclaredTypes.{AreDeclared-none, AreDeclared-push}
use Rattle.td_types.proofs.HeadingLaws.{same_name-flips, same_name-itself}
use Rattle.td_types.proofs.KeptRanks.{user_ranked}
use Rattle.td_types.proofs.Ranks.{user_rank_later}

abbrev Named : List (List ℕ × Row) → Type 0
Named = AllByRecursion (λ row. row.0 ≡ row.1.entry.value.name)

-- a name finds the row of the type that it finds
pub found_entry : (name : List ℕ) (rows : List (List ℕ × Row)) → Named rows
    → option_map (λ (row : Row). row.entry.value) (lookup (same_name name) rows) ≡ declared_at name (rows_view rows)
found_entry name [] h = refl
found_entry name (row ∷ rows) h = by_test (found_entry name rows h.1) (same_name name row.0) refl
  where
    by_test : option_map (λ (r : Row). r.entry.value) (lookup (same_name name) rows) ≡ declared_at name (rows_view rows) → (b : Bool) → same_name name row.0 ≡ b
        → option_map (λ (r : Row). r.entry.value) (lookup (same_name name) (row ∷ rows)) ≡ declared_at name (rows_view (row ∷ rows))
    by_test rest true is =
        let same : same_name row.1.entry.value.name name ≡ true = ap (λ n. same_name n name) (sym h.0) ∙ same_name-flips row.0 name ∙ is in
        rw (is, same) refl
    by_test rest false is =
        let same : same_name row.1.entry.value.name name ≡ false = ap (λ n. same_name n name) (sym h.0) ∙ same_name-flips row.0 name ∙ is in
        rw (is, same) rest

pub entry_some : (name : List ℕ) (rows : List (List ℕ × Row)) (row : Row) → Named rows → Some row ≡ lookup (same_name name) rows
    → Some row.entry.value ≡ declared_at name (rows_view rows)
entry_some name rows row h e = ap (option_map (λ (r : Row). r.entry.value)) e ∙ found_entry name rows h

pub entry_none : (name : List ℕ) (rows : List (List ℕ × Row)) → Named rows → None ≡ lookup (same_name name) rows
    → None ≡ declared_at name (rows_view rows)
entry_none name rows h e = ap (option_map (λ (r : Row). r.entry.value)) e ∙ found_entry name rows h

-- the place of its row is the place of the type
pub found_place : (name : List ℕ) (rows : List (List ℕ × Row)) → Named rows
    → position (same_name name) (keys_of rows) ≡ declared_place name (rows_view rows)
found_place name rows h =
    let counted : length (keys_of rows) ≡ length (rows_view rows) = same_length rows in
    (λ i. cond (nat_lt (before rows h i) (counted i)) (Some (before rows h i)) None)
  where
    same_length : (xs : List (List ℕ × Row)) → length (keys_of xs) ≡ length (rows_view xs)
    same_length [] = refl
    same_length (x ∷ xs) = ap suc (same_length xs)

    before : (xs : List (List ℕ × Row)) → Named xs
        → prefix_len (λ n. not (same_name name n)) (keys_of xs) ≡ prefix_len (λ d. not (same_name d.name name)) (rows_view xs)
    before [] g = refl
    before (x ∷ xs) g =
        let same : same_name x.1.entry.value.name name ≡ same_name name x.0 = ap (λ n. same_name n name) (sym g.0) ∙ same_name-flips x.0 name in
        rw same (ap (λ n. cond (not (same_name name x.0)) (1 + n) 0) (before xs g.1))

-- where no type has the name, no row has it
pub row_none : (name : List ℕ) (rows : List (List ℕ × Row)) → Named rows → not (is_declared name (rows_view rows)) ≡ true
    → lookup (same_name name) rows ≡ None
row_none name rows h e = by_option (lookup (same_name name) rows) (found_entry name rows h)
  where
    by_option : (o : Option Row) → option_map (λ (row : Row). row.entry.value) o ≡ declared_at name (rows_view rows) → o ≡ None
    by_option None is = refl
    by_option (Some row) is = absurd (true≢false (sym e ∙ ap (λ d. not (is_some d)) (sym is)))

-- ---- ranks

module _ (ranks : List ℕ → Outcome ℕ) where
  abbrev Ranked : List (List ℕ × Row) → Type 0
  Ranked = AllByRecursion (λ row. row.1.rank ≡ kept_rank (ranks row.0))

  pub rank_some : (name : List ℕ) (rows : List (List ℕ × Row)) (row : Row) → Ranked rows → Some row ≡ lookup (same_name name) rows
      → row.rank ≡ kept_rank (ranks name)
  rank_some name [] row h e = absurd (cc)
  rank_some name (r ∷ rows) row h e = by_test (rank_some name rows row h.1) (same_name name r.0) refl
    where
      by_test : (Some row ≡ lookup (same_name name) rows → row.rank ≡ kept_rank (ranks name)) → (b : Bool) → same_name name r.0 ≡ b → row.rank ≡ kept_rank (ranks name)
      by_test rest true is =
          let at : Some row ≡ Some r.1 = e ∙ rw is refl in
          let same : row ≡ r.1 = cc in
          ap (λ (x : Row). x.rank) same ∙ h.0 ∙ ap (λ n. kept_rank (ranks n)) (sym (same_text name r.0 (sym is)))
      by_test rest false is = rest (e ∙ rw is refl)

pub rank_missing : (name : List ℕ) (rows : List (List ℕ × Row)) → Named rows → None ≡ lookup (same_name name) rows
    → None ≡ kept_rank (user_ranks (rows_view rows) name)
rank_missing name rows h e = by_outcome (user_ranks (rows_view rows) name) refl
  where
    by_outcome : (o : Outcome ℕ) → user_ranks (rows_view rows) name ≡ o → None ≡ kept_rank o
    by_outcome (Refused cs) is = refl
    by_outcome (Valued n) is = absurd (true≢false (sym (user_ranked (rows_view rows) name n is) ∙ ap is_some (sym (entry_none name rows h e))))

-- ---- tables

pub IsTable-none : IsTable []
IsTable-none = record { named = tt; ranked = tt; declared = AreDeclared-none }

all_push : {A : Type 0} (P : A → Type 0) (xs : List A) (x : A) → AllByRecursion P xs → P x → AllByRecursion P (xs ++ (x ∷ []))
all_push P [] x h p = (p, tt)
all_push P (y ∷ xs) x h p = (h.0, all_push P xs x h.1 p)

-- each name of a row is declared
ranks_stay : (ds : List DeclaredType) (d : DeclaredType) (rows : List (List ℕ × Row)) → AreDeclared (ds ++ (d ∷ []))
    → AllByRecursion (λ row. is_declared row.0 ds ≡ true) rows → Ranked (user_ranks ds) rows → Ranked (user_ranks (ds ++ (d ∷ []))) rows
ranks_stay ds d [] h k r = tt
ranks_stay ds d (row ∷ rows) h k r =
    (r.0 ∙ ap kept_rank (sym (user_rank_later ds (d ∷ []) h row.0 k.0)), ranks_stay ds d rows h k.1 r.1)

pub names_declared : (before rows : List (List ℕ × Row)) → Named rows
    → AllByRecursion (λ row. is_declared row.0 (rows_view (before ++ rows)) ≡ true) rows
names_declared before [] h = tt
names_declared before (row ∷ rows) h = (
  here,
  subst (λ all. AllByRecursion (λ r. is_declared r.0 (rows_view all) ≡ true) rows) (append_assoc before (row ∷ []) rows)
      (names_declared (before ++ (row ∷ [])) rows h.1),
)
  where
    at_front : (d : DeclaredType) (more : List DeclaredType) (name : List ℕ) → name ≡ d.name → is_declared name (d ∷ more) ≡ true
    at_front d more name e = rw (e, same_name-itself d.name) refl

    later : (c : DeclaredType) (ds : List DeclaredType) (name : List ℕ) → is_declared name ds ≡ true → is_declared name (c ∷ ds) ≡ true
    later c ds name e = by_test (same_name c.name name)
      where
        by_test : (b : Bool) → is_some (if b then Some c else declared_at name ds) ≡ true
        by_test true = refl
        by_test false = e

    among : (ds : List DeclaredType) (d : DeclaredType) (more : List DeclaredType) (name : List ℕ) → name ≡ d.name → is_declared name (ds ++ (d ∷ more)) ≡ true
    among [] d more name e = at_front d more name e
    among (c ∷ ds) d more name e = later c (ds ++ (d ∷ more)) name (among ds d more name e)

    here : is_declared row.0 (rows_view (before ++ (row ∷ rows))) ≡ true
    here = ap (is_declared row.0) (map-append (λ (r : List ℕ × Row). r.1.entry.value) before (row ∷ rows)) ∙ among (rows_view before) row.1.entry.value (rows_view rows) row.0 h.0

-- the table with one more row, of a type that can be declared
pub IsTable-push : (rows : List (List ℕ × Row)) (name : List ℕ) (row : Row) → IsTable rows → name ≡ row.entry.value.name
    → IsDeclarable (rows_view rows) row.entry.value → row.rank ≡ kept_rank (user_ranks (rows_view rows ++ (row.entry.value ∷ [])) row.entry.value.name)
    → IsTable (rows ++ ((name, row) ∷ []))
IsTable-push rows name row h n new r =
    let view = map-append (λ (x : List ℕ × Row). x.1.entry.value) rows ((name, row) ∷ []) in
    let declared = AreDeclared-push (rows_view rows) row.entry.value h.declared new in
    let stay = ranks_stay (rows_view rows) row.entry.value rows declared (names_declared [] rows h.named) h.ranked in
    record {
      named = all_push (λ x. x.0 ≡ x.1.entry.value.name) rows (name, row) h.named n;
      ranked = subst (λ ds. Ranked (user_ranks ds) (rows ++ ((name, row) ∷ []))) (sym view)
          (all_push (λ x. x.1.rank ≡ kept_rank (user_ranks (rows_view rows ++ (row.entry.value ∷ [])) x.0)) rows (name, row) stay
          (r ∙ ap (λ k. kept_rank (user_ranks (rows_view rows ++ (row.entry.value ∷ [])) k)) (sym n)));
      declared = subst AreDeclared (sym view) declared;
    }
