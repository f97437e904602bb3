-- Rows that give the same names, types and ranks, as those of a copied table.
use Rattle.std.proofs.Common.{◌≡◌, ◌∙◌, ◌∷◌, ◌++◌, ℕ, List, [], Option, None, ap, map, refl, subst, sym, true}
use Rattle.std.specs.Prelude.{not}
use Rattle.std.specs.List.{AllByRecursion}
use Rattle.std.specs.Map.{lookup}
use Rattle.std.proofs.lemmas.List.{append-nil, append_assoc, map-append}
use Rattle.indexmap.specs.IndexMap.{IndexMap, insert_entry}
use Rattle.indexmap.proofs.CallerLemmas.{insert_entry-new}
use Rattle.td_types.specs.code.Tables.{IsTable, kept_rank, rows_view}
use Rattle.td_types.specs.model.TypeLists.{AreDeclared, DeclaredType, is_declared, user_ranks}
use Rattle.td_types.specs.model.Types.{same_name}
use Rattle.td_types.specs.declared.table.Row.{Row}
use Rattle.td_types.proofs.Tables.{row_none}

abbrev Rows : Type 0
Rows = List (List ℕ × Row)

-- a row without where it lies in memory
record Parts : Type 0 where
  pub name : List ℕ
  pub entry : DeclaredType
  pub rank : Option ℕ

abbrev parts : List ℕ × Row → Parts
parts row = record { name = row.0; entry = row.1.entry.value; rank = row.1.rank }

abbrev contents : Rows → List Parts
contents = map parts

module _ (P : Parts → Type 0) where
  all_to : (rows : Rows) → AllByRecursion (λ row. P (parts row)) rows → AllByRecursion P (contents rows)
  all_to [] h = tt
  all_to (row ∷ rows) h = (h.0, all_to rows h.1)

  all_from : (rows : Rows) → AllByRecursion P (contents rows) → AllByRecursion (λ row. P (parts row)) rows
  all_from [] h = tt
  all_from (row ∷ rows) h = (h.0, all_from rows h.1)

  all_alike : (rows others : Rows) → contents rows ≡ contents others → AllByRecursion (λ row. P (parts row)) others
      → AllByRecursion (λ row. P (parts row)) rows
  all_alike rows others e h = all_from rows (subst (AllByRecursion P) (sym e) (all_to others h))

entries_of : (rows : Rows) → rows_view rows ≡ map (λ (p : Parts). p.entry) (contents rows)
entries_of [] = refl
entries_of (row ∷ rows) = ap (λ ds. row.1.entry.value ∷ ds) (entries_of rows)

-- their types are the same
view_alike : (rows others : Rows) → contents rows ≡ contents others → rows_view rows ≡ rows_view others
view_alike rows others e = entries_of rows ∙ ap (map (λ (p : Parts). p.entry)) e ∙ sym (entries_of others)

-- and they are a table where the others are
IsTable-alike : (rows others : Rows) → contents rows ≡ contents others → IsTable others → IsTable rows
IsTable-alike rows others e h =
    record {
      named = all_alike (λ p. p.name ≡ p.entry.name) rows others e h.named;
      ranked = subst (λ ds. AllByRecursion (λ row. row.1.rank ≡ kept_rank (user_ranks ds row.0)) rows)
          (sym (view_alike rows others e))
          (all_alike (λ p. p.rank ≡ kept_rank (user_ranks (rows_view others) p.name)) rows others e h.ranked);
      declared = subst AreDeclared (sym (view_alike rows others e)) h.declared;
    }

all_front : (P : Parts → Type 0) (ps more : List Parts) → AllByRecursion P (ps ++ more) → AllByRecursion P ps
all_front P [] more h = tt
all_front P (p ∷ ps) more h = (h.0, all_front P ps more h.1)

all_behind : (P : Parts → Type 0) (ps more : List Parts) → AllByRecursion P (ps ++ more) → AllByRecursion P more
all_behind P [] more h = h
all_behind P (p ∷ ps) more h = all_behind P ps more h.1

-- the rows that are copied, and those that are left, are those of a table
pub record IsCopied (all rows rest : Rows) : Type 0 where
  pub table : IsTable all
  pub so_far : contents rows ++ contents rest ≡ contents all

-- none is copied
pub copied_none : (all rows : Rows) → IsTable all → rows ≡ [] → IsCopied all rows all
copied_none all rows h none = record { table = h; so_far = ap (λ xs. contents xs ++ contents all) none }

-- the next row goes behind those that are copied
module _ {S : Type 0} (m : IndexMap (List ℕ) Row S) (all rest : Rows) (name : List ℕ) (row : Row) (key : List ℕ) (copy : Row)
    (same_key : key ≡ name) (same_entry : copy.entry.value ≡ row.entry.value) (same_rank : copy.rank ≡ row.rank)
    (h : IsCopied all m.entries ((name, row) ∷ rest)) where
  abbrev left : List Parts
  left = contents ((name, row) ∷ rest)

  abbrev Named : Parts → Type 0
  Named p = p.name ≡ p.entry.name

  named : AllByRecursion Named (contents m.entries ++ left)
  named = subst (AllByRecursion Named) (sym h.so_far) (all_to Named all h.table.named)

  types : rows_view all ≡ rows_view m.entries ++ (row.entry.value ∷ rows_view rest)
  types =
      entries_of all ∙ ap (map (λ (p : Parts). p.entry)) (sym h.so_far)
      ∙ map-append (λ (p : Parts). p.entry) (contents m.entries) left
      ∙ (λ i. sym (entries_of m.entries) i ++ (row.entry.value ∷ sym (entries_of rest) i))

  new : not (is_declared key (rows_view m.entries)) ≡ true
  new =
      ap (λ n. not (is_declared n (rows_view m.entries))) (same_key ∙ (all_behind Named (contents m.entries) left named).0)
      ∙ (h.table.declared (rows_view m.entries) (rows_view rest) row.entry.value types).new

  none : lookup (same_name key) m.entries ≡ None
  none = row_none key m.entries (all_from Named m.entries (all_front Named (contents m.entries) left named)) new

  same_parts : parts (key, copy) ≡ parts (name, row)
  same_parts = λ i. record { name = same_key i; entry = same_entry i; rank = same_rank i }

  one_more : contents (insert_entry same_name m.entries key copy) ++ contents rest ≡ contents all
  one_more =
      ap (λ xs. contents xs ++ contents rest) (insert_entry-new same_name m key copy none)
      ∙ ap (λ ps. ps ++ contents rest) (map-append parts m.entries ((key, copy) ∷ []))
      ∙ append_assoc (contents m.entries) (parts (key, copy) ∷ []) (contents rest)
      ∙ ap (λ p. contents m.entries ++ (p ∷ contents rest)) same_parts
      ∙ h.so_far

  pub copied_next : (rows : Rows) → rows ≡ insert_entry same_name m.entries key copy → IsCopied all rows rest
  copied_next rows is = record { table = h.table; so_far = ap (λ xs. contents xs ++ contents rest) is ∙ one_more }

-- all are copied once none is left
pub copied_all : (all rows rest : Rows) → IsCopied all rows rest → rest ≡ [] → IsTable rows × (rows_view rows ≡ rows_view all)
copied_all all rows rest h none =
    let same = sym (append-nil (contents rows)) ∙ ap (λ xs. contents rows ++ contents xs) (sym none) ∙ h.so_far in
    (IsTable-alike rows all same h.table, view_alike rows all same)
