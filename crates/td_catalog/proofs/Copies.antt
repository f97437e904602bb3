-- Rows that are copied in their order.
use Rattle.std.proofs.Common.{◌≡◌, ◌∙◌, ◌∷◌, ◌++◌, ℕ, false, List, [], ap, map, refl, subst, sym, true}
use Rattle.std.specs.Prelude.{is_some}
use Rattle.std.specs.List.{AllByRecursion}
use Rattle.std.specs.Map.{lookup}
use Rattle.std.proofs.lemmas.List.{append-nil, append_assoc, map-append}
use Rattle.indexmap.specs.IndexMap.{IndexMap, insert_entry}
use Rattle.td_catalog.specs.code.CatalogViews.{AreEntries, IsBodyOf, base_view, entry_keys}
use Rattle.td_catalog.specs.model.Database.{BaseRelvar}
use Rattle.td_catalog.specs.declared.entry.BaseEntry.{BaseEntry}
use Rattle.td_catalog.proofs.ByPlace.{apart}
use Rattle.td_catalog.proofs.Rows.{known, view_with}
use Rattle.td_types.specs.model.Headings.{are_distinct}
use Rattle.td_types.specs.model.Types.{Heading, same_name}
use Rattle.td_value.specs.model.Values.{Relation}

module _ {E X : Type 0} (view : List ℕ × E → X) (name_of : X → List ℕ) (named : (row : List ℕ × E) → name_of (view row) ≡ row.0) where
  -- the rows that are copied and those that are left are seen as these, of which no two have one name
  pub record IsCopied (all : List X) (rows rest : List (List ℕ × E)) : Type 0 where
    pub distinct : are_distinct (map name_of all) ≡ true
    pub so_far : map view rows ++ map view rest ≡ all

  -- none is copied
  pub copied_none : (all : List X) (rows rest : List (List ℕ × E)) → are_distinct (map name_of all) ≡ true → map view rest ≡ all → rows ≡ []
      → IsCopied all rows rest
  copied_none all rows rest distinct seen none = record { distinct = distinct; so_far = ap (λ xs. map view xs ++ map view rest) none ∙ seen }

  -- the next row goes behind those that are copied
  module _ {S : Type 0} (m : IndexMap (List ℕ) E S) (all : List X) (rest : List (List ℕ × E)) (name : List ℕ) (entry : E) (key : List ℕ) (copy : E)
      (same : view (key, copy) ≡ view (name, entry)) (h : IsCopied all m.entries ((name, entry) ∷ rest)) where
    names : map name_of (map view m.entries) ++ (key ∷ map name_of (map view rest)) ≡ map name_of all
    names =
        ap (λ n. map name_of (map view m.entries) ++ (n ∷ map name_of (map view rest))) (sym (named (key, copy)) ∙ ap name_of same)
        ∙ sym (map-append name_of (map view m.entries) (map view ((name, entry) ∷ rest))) ∙ ap (map name_of) h.so_far

    free : is_some (lookup (same_name key) m.entries) ≡ false
    free =
        known view name_of named key m.entries
        ∙ apart key (map name_of (map view m.entries)) (map name_of (map view rest)) (ap are_distinct names ∙ h.distinct)

    pub copied_next : (rows : List (List ℕ × E)) → rows ≡ insert_entry same_name m.entries key copy → IsCopied all rows rest
    copied_next rows is =
        record {
          distinct = h.distinct;
          so_far =
              ap (λ xs. map view xs ++ map view rest) is ∙ ap (λ xs. xs ++ map view rest) (view_with view name_of named m key copy free)
              ∙ append_assoc (map view m.entries) (view (key, copy) ∷ []) (map view rest)
              ∙ ap (λ x. map view m.entries ++ (x ∷ map view rest)) same ∙ h.so_far;
        }

  -- all are once none is left
  pub copied_all : (all : List X) (rows rest : List (List ℕ × E)) → IsCopied all rows rest → rest ≡ [] → map view rows ≡ all
  copied_all all rows rest h none = sym (append-nil (map view rows)) ∙ ap (λ xs. map view rows ++ map view xs) (sym none) ∙ h.so_far

-- ---- base relvars

-- what a row shows of a base relvar and of its body
pub record BaseParts : Type 0 where
  pub base : BaseRelvar
  pub heading : Heading
  pub body_keys : List (List (List ℕ))

module _ {B : Type 0} (relation : B → Relation) (keys : B → List (List (List ℕ))) where
  abbrev pub base_parts : List ℕ × BaseEntry B → BaseParts
  base_parts row = record { base = base_view relation row; heading = row.1.heading; body_keys = keys row.1.body }

  pub bases_of : (rows : List (List ℕ × BaseEntry B)) → map (base_view relation) rows ≡ map (λ (p : BaseParts). p.base) (map base_parts rows)
  bases_of [] = refl
  bases_of (row ∷ rows) = ap (λ bs. base_view relation row ∷ bs) (bases_of rows)

  pub names_of : (rows : List (List ℕ × BaseEntry B)) → map (λ (p : BaseParts). p.base.name) (map base_parts rows) ≡ map (λ (r : BaseRelvar). r.name) (map (base_view relation) rows)
  names_of [] = refl
  names_of (row ∷ rows) = ap (λ ns. row.0 ∷ ns) (names_of rows)

  abbrev IsOwn : BaseParts → Type 0
  IsOwn p = IsBodyOf p.heading p.base.keys p.base.relation p.body_keys

  own_parts : (rows : List (List ℕ × BaseEntry B)) → AreEntries relation keys rows → AllByRecursion IsOwn (map base_parts rows)
  own_parts [] h = tt
  own_parts (row ∷ rows) h = (h.0, own_parts rows h.1)

  own_entries : (rows : List (List ℕ × BaseEntry B)) → AllByRecursion IsOwn (map base_parts rows) → AreEntries relation keys rows
  own_entries [] h = tt
  own_entries (row ∷ rows) h = (h.0, own_entries rows h.1)

  pub entries_alike : (rows others : List (List ℕ × BaseEntry B)) → map base_parts rows ≡ map base_parts others → AreEntries relation keys others
      → AreEntries relation keys rows
  entries_alike rows others same h = own_entries rows (subst (AllByRecursion IsOwn) (sym same) (own_parts others h))

  -- a copy of a row shows the same
  pub parts_alike : (name key : List ℕ) (entry copy : BaseEntry B) → key ≡ name → copy.heading ≡ entry.heading → entry_keys copy ≡ entry_keys entry
      → relation copy.body ≡ relation entry.body → keys copy.body ≡ keys entry.body → base_parts (key, copy) ≡ base_parts (name, entry)
  parts_alike name key entry copy n h k r b =
      λ i. record { base = record { name = n i; keys = k i; relation = r i }; heading = h i; body_keys = b i }
