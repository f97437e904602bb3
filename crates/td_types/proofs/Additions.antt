-- A table with one more type.
use Rattle.std.proofs.Common.{◌≡◌, ◌∙◌, ◌∷◌, ◌++◌, ℕ, zero, suc, true, List, [], Option, Some, ap, map, refl, subst, sym}
use Rattle.std.specs.Prelude.{not}
use Rattle.std.specs.Global.{Global}
use Rattle.std.specs.declared.rc.Rc.{Rc}
use Rattle.std.specs.List.{Contains, slice_get}
use Rattle.std.proofs.lemmas.List.{map-append}
use Rattle.std.proofs.lemmas.Option.{slice_get-get_or}
use Rattle.indexmap.specs.IndexMap.{IndexMap, insert_entry}
use Rattle.indexmap.proofs.CallerLemmas.{insert_entry-new}
use Rattle.td_tree.specs.model.Names.{IsName}
use Rattle.td_tree.specs.model.Trees.{Tree}
use Rattle.td_types.specs.model.Headings.{are_distinct}
use Rattle.td_types.specs.code.Pairs.{ArePairs}
use Rattle.td_types.specs.code.Tables.{IsTable, kept_rank, rows_view}
use Rattle.td_types.specs.model.TypeLists.{AreKnown, DeclaredType, IsDeclarable, IsKnown, declared_type, is_declared, rank_of, user_ranks}
use Rattle.td_types.specs.model.Types.{Attribute, Heading, IsType, pack, same_name, tuple}
use Rattle.td_types.specs.code.Views.{pairs_view}
use Rattle.td_types.specs.declared.table.Row.{Row}
use Rattle.td_types.specs.declared.ty.Ty.{Ty}
use Rattle.td_types.proofs.Made.{names_of_pairs}
use Rattle.td_types.proofs.Ranks.{rank_of_last}
use Rattle.td_types.proofs.Tables.{IsTable-push, row_none}

pair_at : (xs : Heading) (i : ℕ) (a : Attribute) → ArePairs xs → slice_get xs i ≡ Some a → IsName a.0 × IsType a.1
pair_at [] zero a h e = absurd (cc)
pair_at [] (suc i) a h e = absurd (cc)
pair_at (x ∷ xs) zero a h e =
    let same : x ≡ a = cc in
    subst (λ b. IsName b.0 × IsType b.1) same h.0
pair_at (x ∷ xs) (suc i) a h e = pair_at xs i a h.1 e

pub known_at : (ds : List DeclaredType) (xs : Heading) (i : ℕ) (a : Attribute) → AreKnown ds (pack xs) → slice_get xs i ≡ Some a → IsKnown ds a.1
known_at ds [] zero a h e = absurd (cc)
known_at ds [] (suc i) a h e = absurd (cc)
known_at ds (x ∷ xs) zero a h e =
    let same : x ≡ a = cc in
    subst (λ b. IsKnown ds b.1) same h.0
known_at ds (x ∷ xs) (suc i) a h e = known_at ds xs i a h.1 e

at_place : (xs : Heading) (a : Attribute) (c : Contains xs a) → slice_get xs c.0 ≡ Some a
at_place xs a c = slice_get-get_or xs c.0 a c.1 ∙ ap Some c.2

some_pair : (ps : List (List ℕ × Ty)) → (ps ≡ [] → ⊥) → pairs_view ps ≡ [] → ⊥
some_pair [] h e = h refl
some_pair (p ∷ ps) h e = absurd (cc)

-- the type that is added, by its parts as the code has them, can be declared after those of the table
module _ (ds : List DeclaredType) (name : List ℕ) (components : List (List ℕ × Ty)) (constraint : Option Tree) where
  abbrev added : DeclaredType
  added = declared_type name (pairs_view components) constraint

  pub record IsAddition : Type 0 where
    pub named : IsName name
    pub new : not (is_declared name ds) ≡ true
    pub has_component : components ≡ [] → ⊥
    pub distinct : are_distinct (map (λ c. c.0) components) ≡ true
    pub known : AreKnown ds (pack (pairs_view components))
    pub pairs : ArePairs (pairs_view components)

  declarable : IsAddition → IsDeclarable ds added
  declarable h =
      record {
        named = h.named;
        new = h.new;
        has_component = some_pair components h.has_component;
        distinct = ap are_distinct (names_of_pairs components) ∙ h.distinct;
        names = λ a c. (pair_at (pairs_view components) c.0 a h.pairs (at_place (pairs_view components) a c)).0;
        types = λ a c. (pair_at (pairs_view components) c.0 a h.pairs (at_place (pairs_view components) a c)).1;
        known = λ a c. known_at ds (pairs_view components) c.0 a h.known (at_place (pairs_view components) a c);
      }

  module _ {S : Type 0} (m : IndexMap (List ℕ) Row S) (key : List ℕ) (entry : Rc DeclaredType Global) (rank : Option ℕ) where
    abbrev row : Row
    row = record { entry = entry; rank = rank }

    -- the rows with the new one
    rows_added : IsAddition → rows_view m.entries ≡ ds → IsTable m.entries → key ≡ name
        → insert_entry same_name m.entries key row ≡ m.entries ++ ((key, row) ∷ [])
    rows_added h view t k =
        insert_entry-new same_name m key row
        (row_none key m.entries t.named (ap (λ n. not (is_declared n (rows_view m.entries))) k ∙ ap (λ xs. not (is_declared name xs)) view ∙ h.new))

    pub IsTable-added : IsAddition → rows_view m.entries ≡ ds → IsTable m.entries → key ≡ name → entry.value ≡ added
        → rank ≡ kept_rank (rank_of ds (tuple (pack (pairs_view components)))) → IsTable (insert_entry same_name m.entries key row)
    IsTable-added h view t k is r =
        subst IsTable (sym (rows_added h view t k))
        (IsTable-push m.entries key row t (k ∙ ap (λ d. d.name) (sym is))
        (subst (IsDeclarable (rows_view m.entries)) (sym is) (subst (λ xs. IsDeclarable xs added) (sym view) (declarable h)))
        (r ∙ ap kept_rank (sym (rank_of_last ds added)) ∙ ap (λ xs. kept_rank (user_ranks (xs ++ (added ∷ [])) name)) (sym view)
        ∙ ap (λ d. kept_rank (user_ranks (rows_view m.entries ++ (d ∷ [])) d.name)) (sym is)))

    pub view_added : IsAddition → rows_view m.entries ≡ ds → IsTable m.entries → key ≡ name → entry.value ≡ added
        → rows_view (insert_entry same_name m.entries key row) ≡ ds ++ (added ∷ [])
    view_added h view t k is =
        ap rows_view (rows_added h view t k) ∙ map-append (λ (x : List ℕ × Row). x.1.entry.value) m.entries ((key, row) ∷ [])
        ∙ (λ i. view i ++ (is i ∷ []))
