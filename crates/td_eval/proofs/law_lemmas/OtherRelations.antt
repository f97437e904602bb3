-- The world in which a base relvar has another relation of its heading.
use Rattle.std.proofs.Common.{◌≡◌, ◌∙◌, ℕ, Bool, true, false, List, Some, ap, refl, subst, sym}
use Rattle.std.specs.Cmp.Lexicographic.{same_text}
use Rattle.td_catalog.specs.model.Database.{Database}
use Rattle.td_catalog.specs.model.TypedDatabases.{AreTyped}
use Rattle.td_check.specs.model.Scopes.{KnownRelvar, Scope, known_relvar}
use Rattle.td_eval.specs.model.DatabaseWorlds.{with_other, world_of}
use Rattle.td_eval.specs.laws.ValueTypes.{KeepsType, OtherRelationsKeepScopes}
use Rattle.td_tree.specs.model.Outcomes.{Outcome, Valued}
use Rattle.td_types.specs.model.TypeLists.{AreKnown, DeclaredType}
use Rattle.td_types.specs.model.Types.{pack, same_name}
use Rattle.td_types.specs.model.Types as types
use Rattle.td_value.specs.model.Values.{Val, relation_value}
use Rattle.td_eval.proofs.code_lemmas.WorldParts.{base_value, world_scope}

-- the types that its world knows
abbrev types_of : Database → List DeclaredType
types_of db = (world_of db).scope.types

pub other_relations_keep_scopes : OtherRelationsKeepScopes
other_relations_keep_scopes db n b r keeps is_base valid typed headed =
    record { scope_is = keeps.scope_is; types = keeps.types; known = keeps.known; relvars = others; selectors = keeps.selectors }
  where
    same_types : db.types ≡ types_of db
    same_types = ap (λ (scope : Scope). scope.types) (sym (world_scope db))

    -- the relation that the relvar holds tells the heading that is known of it
    known_heading : (m : List ℕ) (k : KnownRelvar) → known_relvar (world_of db).scope m ≡ Some k → same_name n m ≡ true
        → KeepsType (types_of db) (Valued (types.relation (pack k.heading))) (Valued (relation_value b.relation))
    known_heading m k e same =
        let there = keeps.relvars m k e in
        let held : Some there.0 ≡ Some (Valued (relation_value b.relation)) =
        sym there.1 ∙ ap (λ x. (world_of db).relvar x) (sym (same_text n m (sym same))) ∙ base_value db n b is_base in
        let outcome : there.0 ≡ Valued (relation_value b.relation) = cc in
        subst (KeepsType (types_of db) (Valued (types.relation (pack k.heading)))) outcome there.2

    others : (m : List ℕ) (k : KnownRelvar) → known_relvar (world_of db).scope m ≡ Some k
        → (o : Outcome Val) × ((with_other (Some (n, r)) (world_of db)).relvar m ≡ Some o) × KeepsType (types_of db) (Valued (types.relation (pack k.heading))) o
    others m k e = by_test (same_name n m) refl
      where
        by_test : (t : Bool) → same_name n m ≡ t
            → (o : Outcome Val) × ((with_other (Some (n, r)) (world_of db)).relvar m ≡ Some o) × KeepsType (types_of db) (Valued (types.relation (pack k.heading))) o
        by_test true same =
            let h = known_heading m k e same in (
              Valued (relation_value r),
              rw same refl,
              (
                valid,
                (h.1.0 ∙ ap (λ g. types.relation (pack g)) (sym headed), subst (λ g. AreKnown (types_of db) (pack g)) (sym headed) h.1.1, subst (λ xs. AreTyped xs r) same_types typed),
              ),
            )
        by_test false same = let there = keeps.relvars m k e in (there.0, rw same there.1, there.2)
