-- The statement that defines a type makes it again, behind the types before it.
use Rattle.std.proofs.Common.{◌≡◌, ◌∙◌, ◌∷◌, ◌++◌, List, [], ap, not, refl}
use Rattle.std.specs.Prelude.{⊤}
use Rattle.std.specs.List.{AllByRecursion}
use Rattle.td_catalog.specs.model.Database.{Database, database_scope, with_declared}
use Rattle.td_check.specs.model.StatementTypes.{both_hold, components_meant, constraint_fits, holds_or, rank_fits, statement_checked}
use Rattle.td_engine.proofs.law_lemmas.RebuiltEffects.{both_asked}
use Rattle.td_engine.proofs.law_lemmas.RebuiltParts.{database_of}
use Rattle.td_engine.specs.model.Legality.{IsLegal}
use Rattle.td_engine.specs.model.Machine.{by_outcome, carried_out, checked_effect}
use Rattle.td_engine.specs.laws.Rebuilding.{type_statement}
use Rattle.td_eval.proofs.code_lemmas.KeepsGathered.{all_from_members}
use Rattle.td_tree.specs.model.Outcomes.{Outcome, Valued, value_if, with_both, with_value}
use Rattle.td_tree.specs.declared.cause.Cause.TheVariants as causes
use Rattle.td_types.proofs.Meanings.{means_type}
use Rattle.td_types.specs.model.Headings.{are_distinct}
use Rattle.td_types.specs.model.TypeLists.{DeclaredType, IsDeclarable, IsKnown, attributes_meant, declared_type, is_declared}
use Rattle.td_types.specs.laws.TypeTrees.{attribute_trees}
use Rattle.td_types.specs.model.Types.{Attribute, IsType, attribute_names, pack}

-- ---- components

-- the type of an attribute is a type, and its user types are declared
abbrev IsKnownType : List DeclaredType → Attribute → Type 0
IsKnownType ds a = IsType a.1 × IsKnown ds a.1

-- the trees of attributes mean them, in whatever order they stand
attributes_mean : (ds : List DeclaredType) (xs : List Attribute) → AllByRecursion (IsKnownType ds) xs
    → attributes_meant ds (attribute_trees (pack xs)) ≡ Valued xs
attributes_mean ds [] h = refl
attributes_mean ds (x ∷ xs) h =
    ap (λ o. with_both o (attributes_meant ds (attribute_trees (pack xs))) (λ t attributes. Valued ((x.0, t) ∷ attributes))) (means_type ds x.1 h.0.0 h.0.1)
    ∙ ap (λ o. with_both (Valued x.1) o (λ t attributes. Valued ((x.0, t) ∷ attributes))) (attributes_mean ds xs h.1)

components_mean : (ds : List DeclaredType) (d : DeclaredType) → IsDeclarable ds d
    → components_meant ds (attribute_trees (pack d.components)) ≡ Valued d.components
components_mean ds d is =
    ap (λ o. with_value o (λ xs. value_if (are_distinct (attribute_names xs)) xs causes.Heading))
    (attributes_mean ds d.components (all_from_members (IsKnownType ds) d.components (λ a there. (is.types a there, is.known a there))))
    ∙ ap (λ b. value_if b d.components causes.Heading) is.distinct

-- ---- the statement

module _ (db : Database) (legal : IsLegal db) (front rest : List DeclaredType) (d : DeclaredType) (e : db.types ≡ front ++ (d ∷ rest)) where
  abbrev old : Database
  old = database_of front [] [] []

  declarable : IsDeclarable front d
  declarable = legal.typed.declared front rest d e

  pub type_checked : statement_checked (database_scope old) (type_statement d) ≡ Valued tt
  type_checked =
      let asked : List Attribute → Outcome ⊤ = λ xs. both_hold (constraint_fits (database_scope old) xs d.constraint) (rank_fits front xs) in
      both_asked (holds_or causes.NameTaken (not (is_declared d.name front)))
      (with_value (components_meant front (attribute_trees (pack d.components))) asked)
      (ap (holds_or causes.NameTaken) declarable.new)
      (ap (λ o. with_value o asked) (components_mean front d declarable)
      ∙ both_asked (constraint_fits (database_scope old) d.components d.constraint) (rank_fits front d.components) (legal.typed.constrained front rest d e)
      (legal.ranked front rest d e))

  pub type_made : carried_out old (type_statement d) ≡ checked_effect (database_of (front ++ (d ∷ [])) [] [] [])
  type_made =
      ap (λ o. by_outcome (with_value o (λ xs. Valued (with_declared (declared_type d.name xs d.constraint) old))) checked_effect) (components_mean front d declarable)
