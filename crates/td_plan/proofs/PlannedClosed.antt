-- A literal, or a tuple or a relation of such, has the same value in every world that keeps the types.
use Rattle.std.proofs.Common.{◌≡◌, ◌∙◌, ◌++◌, ◌∷◌, List, [], ap, refl, sym}
use Rattle.std.proofs.lemmas.List.{append-nil}
use Rattle.td_catalog.specs.model.Database.{Database}
use Rattle.td_check.specs.model.OperatorTypes.{headed_type, listed_type, tuple_type}
use Rattle.td_check.specs.model.Scopes.{Scope}
use Rattle.td_check.specs.model.StaticTypes.{named_types, type_of, types_of}
use Rattle.td_eval.proofs.code_lemmas.WorldParts.{world_scope}
use Rattle.td_eval.specs.model.DatabaseWorlds.{world_of}
use Rattle.td_eval.specs.model.OperatorValues.{headed_value, listed_value, tuple_from}
use Rattle.td_eval.specs.model.TreeValues.{argument_values, entry_values, value_of}
use Rattle.td_eval.specs.model.Worlds.{World}
use Rattle.td_plan.specs.code.Closed.{AreClosed, IsClosed, PartsAreClosed}
use Rattle.td_plan.specs.code.Plans as plans
use Rattle.td_plan.specs.code.PlansOf.{IsPlanOfTyped}
use Rattle.td_tree.specs.model.Outcomes.{Valued, with_both, with_value}
use Rattle.td_tree.specs.model.Trees as trees
use Rattle.td_tree.specs.model.Trees.{AttributeTrees, NamedTrees, Tree, Trees}
use Rattle.td_types.proofs.Meanings.{attributes_later}
use Rattle.td_types.proofs.OutcomeLaws.{value_of_with, values_of_both}
use Rattle.td_types.specs.model.Headings.{made_heading}
use Rattle.td_types.specs.model.TypeLists.{DeclaredType, attributes_meant, heading_meant}
use Rattle.td_types.specs.model.Types.{Attribute, Heading, Type'}
use Rattle.td_value.specs.model.Values.{Tuple, Val}

-- the world has these types, and may have more
abbrev KnowsTypes : List DeclaredType → World → Type 0
KnowsTypes ds w = (more : List DeclaredType) × (w.scope.types ≡ ds ++ more)

-- a heading that has a meaning has it there
heading_there : (ds : List DeclaredType) (w : World) → KnowsTypes ds w → (heading : AttributeTrees) (h : Heading) → heading_meant ds heading ≡ Valued h
    → heading_meant w.scope.types heading ≡ Valued h
heading_there ds w knows heading h means =
    let xs = value_of_with (attributes_meant ds heading) made_heading h means in
    ap (λ known. heading_meant known heading) knows.1
    ∙ ap (λ o. with_value o made_heading) (attributes_later ds knows.0 heading xs.0 xs.1) ∙ xs.2

module _ (scope : Scope) (w v : World) (s u : List Tuple) (knows : KnowsTypes scope.types w) (known : KnowsTypes scope.types v) where
  mutual
    closed_alike : (e : Tree) → IsClosed e → (t : Type') → type_of scope e ≡ Valued t → value_of w s e ≡ value_of v u e
    closed_alike (trees.literal value) c t is = refl
    closed_alike (trees.parentheses inner) c t is = closed_alike inner c t is
    closed_alike (trees.tuple parts) c t is =
        let y = value_of_with (named_types scope parts) tuple_type t is in
        ap (λ o. with_value o tuple_from) (entries_alike parts c y.0 y.1)
    closed_alike (trees.relation es) c t is =
        let y = value_of_with (types_of scope es) listed_type t is in
        ap (λ o. with_value o listed_value) (arguments_alike es c y.0 y.1)
    closed_alike (trees.headed_relation heading es) c t is =
        let y = values_of_both (heading_meant scope.types heading) (types_of scope es) headed_type t is in
        let same = heading_there scope.types w knows heading y.0 y.2 ∙ sym (heading_there scope.types v known heading y.0 y.2) in
        let parts = arguments_alike es c y.1 y.3 in
        λ i. with_both (same i) (parts i) headed_value
    closed_alike (trees.name n) c t is = absurd c
    closed_alike (trees.prefix op d) c t is = absurd c
    closed_alike (trees.extract a d) c t is = absurd c
    closed_alike (trees.restriction d e) c t is = absurd c
    closed_alike (trees.binary d op e) c t is = absurd c
    closed_alike (trees.compare d op e) c t is = absurd c
    closed_alike (trees.postfix d op) c t is = absurd c
    closed_alike (trees.select ty es) c t is = absurd c
    closed_alike (trees.component rest d) c t is = absurd c
    closed_alike (trees.measure op d) c t is = absurd c
    closed_alike (trees.aggregate op d e) c t is = absurd c
    closed_alike (trees.extend d parts) c t is = absurd c
    closed_alike (trees.extend_setting d parts) c t is = absurd c
    closed_alike (trees.summarize_per d q items) c t is = absurd c
    closed_alike (trees.summarize_by d by items) c t is = absurd c
    closed_alike (trees.choice b d e) c t is = absurd c
    closed_alike (trees.binding items d) c t is = absurd c

    arguments_alike : (es : Trees) → AreClosed es → (ts : List Type') → types_of scope es ≡ Valued ts → argument_values w s es ≡ argument_values v u es
    arguments_alike trees.none c ts is = refl
    arguments_alike (trees.more e es) c ts is =
        let y = values_of_both (type_of scope e) (types_of scope es) (λ t ts. Valued (t ∷ ts)) ts is in
        let one = closed_alike e c.0 y.0 y.2 in
        let others = arguments_alike es c.1 y.1 y.3 in
        λ i. with_both (one i) (others i) (λ v vs. Valued (v ∷ vs))

    entries_alike : (es : NamedTrees) → PartsAreClosed es → (xs : List Attribute) → named_types scope es ≡ Valued xs → entry_values w s es ≡ entry_values v u es
    entries_alike trees.none_named c xs is = refl
    entries_alike (trees.more_named n e es) c xs is =
        let y = values_of_both (type_of scope e) (named_types scope es) (λ t attributes. Valued ((n, t) ∷ attributes)) xs is in
        let one = closed_alike e c.0 y.0 y.2 in
        let others = entries_alike es c.1 y.1 y.3 in
        λ i. with_both (one i) (others i) (λ v entries. Valued ((n, v) ∷ entries))

-- the value that it has in the world of a database whose types these are, with no tuple in scope
pub closed_planned : (scope : Scope) (db : Database) (e : Tree) (x : Val) → scope.types ≡ db.types → IsClosed e → value_of (world_of db) [] e ≡ Valued x
    → IsPlanOfTyped scope (plans.constant x) e
closed_planned scope db e x types c is = λ written t typed w s slots k hand f.
    let known : KnowsTypes scope.types (world_of db) = ([], ap (λ s. s.types) (world_scope db) ∙ sym types ∙ sym (append-nil scope.types)) in
    sym (closed_alike scope w (world_of db) s [] (k.keeps.types.0, k.keeps.types.1) known e c t typed ∙ is)
