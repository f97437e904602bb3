-- A table without one of its types, of which no other is made.
use Rattle.std.proofs.Common.{◌≡◌, ◌∙◌, ◌∷◌, ℕ, Bool, true, false, cond, List, [], ap, refl, subst, sym}
use Rattle.std.specs.List.{AllByRecursion}
use Rattle.std.specs.Map.{remove_entry}
use Rattle.td_types.specs.model.NamedTypes.{is_component, without_declared}
use Rattle.td_types.specs.code.Tables.{IsTable, kept_rank, rows_view}
use Rattle.td_types.specs.model.TypeLists.{AreDeclared, is_declared, user_ranks}
use Rattle.td_types.specs.model.Types.{same_name}
use Rattle.td_types.specs.declared.table.Row.{Row}
use Rattle.td_types.proofs.HeadingLaws.{same_name-flips}
use Rattle.td_types.proofs.RemovedTypes.{AreDeclared-without, other_name, removed_is_gone, user_ranks-without}
use Rattle.td_types.proofs.Tables.{names_declared}

abbrev Rows : Type 0
Rows = List (List ℕ × Row)

all_without : (P : List ℕ × Row → Type 0) (test : List ℕ → Bool) (rows : Rows) → AllByRecursion P rows
    → AllByRecursion P (remove_entry test rows)
all_without P test [] h = tt
all_without P test (row ∷ rows) h = by_test (all_without P test rows h.1) (test row.0)
  where
    by_test : AllByRecursion P (remove_entry test rows) → (b : Bool)
        → AllByRecursion P (cond b rows (row ∷ remove_entry test rows))
    by_test rest true = h.1
    by_test rest false = (h.0, rest)

-- the types of the rows that are left
pub view_without : (name : List ℕ) (rows : Rows) → AllByRecursion (λ row. row.0 ≡ row.1.entry.value.name) rows
    → rows_view (remove_entry (same_name name) rows) ≡ without_declared name (rows_view rows)
view_without name [] h = refl
view_without name (row ∷ rows) h = by_test (view_without name rows h.1) (same_name name row.0) refl own
  where
    own : same_name row.1.entry.value.name name ≡ same_name name row.0
    own = ap (λ n. same_name n name) (sym h.0) ∙ same_name-flips row.0 name

    by_test : rows_view (remove_entry (same_name name) rows) ≡ without_declared name (rows_view rows)
        → (b : Bool) → same_name name row.0 ≡ b → same_name row.1.entry.value.name name ≡ same_name name row.0
        → rows_view (remove_entry (same_name name) (row ∷ rows)) ≡ without_declared name (rows_view (row ∷ rows))
    by_test rest true is same = rw (same, is) refl
    by_test rest false is same = rw (same, is) (ap (λ ds. row.1.entry.value ∷ ds) rest)

-- the rows that are left are a table
pub IsTable-without : (name : List ℕ) (rows : Rows) → is_component name (rows_view rows) ≡ false → IsTable rows
    → IsTable (remove_entry (same_name name) rows)
IsTable-without name rows e h =
    record {
      named = named;
      ranked = ranks left (all_without _ (same_name name) rows h.ranked) (names_declared [] left named);
      declared = subst AreDeclared (sym view) (AreDeclared-without name (rows_view rows) e h.declared);
    }
  where
    left : Rows
    left = remove_entry (same_name name) rows

    named : AllByRecursion (λ row. row.0 ≡ row.1.entry.value.name) left
    named = all_without _ (same_name name) rows h.named

    view : rows_view left ≡ without_declared name (rows_view rows)
    view = view_without name rows h.named

    gone : is_declared name (rows_view left) ≡ false
    gone = ap (is_declared name) view ∙ removed_is_gone name (rows_view rows) h.declared

    ranks : (more : Rows) → AllByRecursion (λ row. row.1.rank ≡ kept_rank (user_ranks (rows_view rows) row.0)) more
        → AllByRecursion (λ row. is_declared row.0 (rows_view left) ≡ true) more
        → AllByRecursion (λ row. row.1.rank ≡ kept_rank (user_ranks (rows_view left) row.0)) more
    ranks [] r d = tt
    ranks (row ∷ more) r d = (
      r.0
          ∙ ap kept_rank (sym (ap (λ ds. user_ranks ds row.0) view
          ∙ user_ranks-without name row.0 (rows_view rows) e (other_name name row.0 (rows_view left) gone d.0))),
      ranks more r.1 d.1,
    )
