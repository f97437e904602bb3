-- What a legal database's definitions give to its dump: names that are names, and types and literals that are not too high.
use Rattle.std.proofs.Common.{◌≡◌, ◌∷◌, ◌*◌, ◌≤◌, ℕ, List, [], get_or, refl, true, arith}
use Rattle.std.specs.Prelude.{nat_le}
use Rattle.std.specs.List.{AllByRecursion}
use Rattle.std.proofs.lemmas.Bool.Decides.{nat_tests}
use Rattle.std.proofs.lemmas.List.Elements.{Contains-get_or, recursion_from_All}
use Rattle.td_check.specs.model.StatementTypes.{heading_rank_fits, rank_fits, type_rank_fits}
use Rattle.td_engine.specs.model.Legality.{IsSpelledExpression}
use Rattle.td_tree.specs.declared.cause.Cause.TheVariants as causes
use Rattle.td_tree.specs.model.Grammar.{height_limit}
use Rattle.td_tree.specs.model.Heights.{attributes_height, height, type_height}
use Rattle.td_tree.specs.model.Names.{IsName}
use Rattle.td_tree.specs.model.Outcomes.{Valued, value_if}
use Rattle.td_tree.specs.model.Statements.{tokens}
use Rattle.td_tree.specs.model.Trees.{relation_type}
use Rattle.td_types.specs.model.TypeLists.{AreDeclared, AreKnown, DeclaredType, IsDeclarable, limited_rank, rank_limit, rank_of, user_ranks}
use Rattle.td_types.specs.laws.TypeTrees.{attribute_trees}
use Rattle.td_types.specs.model.Types.{Attribute, Heading, IsHeading, IsType, attribute_names, pack, relation, tuple, Type'}
use Rattle.td_types.proofs.OutcomeLaws.{value_of_test, value_of_with}
use Rattle.td_types.proofs.RankBounds.{type_low, user_ranks_positive}
use Rattle.td_value.specs.model.KnownValues.{HaveHeading}
use Rattle.td_value.specs.model.Literal.{literal}
use Rattle.td_value.specs.laws.LiteralTrees.{literal_tree}
use Rattle.td_value.specs.model.Values.{IsRelation, Relation, pack_rows, relation_value}
use Rattle.td_value.proofs.LiteralHeights.{low}
use Rattle.td_value.proofs.LiteralSpellings.{literals_spell}
use Rattle.td_engine.proofs.law_lemmas.DumpLists.{AreTypedNames}

within : (a b : ℕ) → nat_le a b ≡ true → a ≤ b
within a b e = grind (arith, nat_tests)

-- ---- types

pub typed_names : (earlier : List DeclaredType) (d : DeclaredType) → IsDeclarable earlier d → AreTypedNames d.components
typed_names earlier d p =
    recursion_from_All (λ a. IsName a.0 × IsType a.1) d.components
    (λ i x inside. let c = Contains-get_or d.components i x inside in (p.names (get_or d.components i x) c, p.types (get_or d.components i x) c))

-- the rank of a type
record IsRankedType (ds : List DeclaredType) (t : Type') : Type 0 where
  rank : ℕ
  is : rank_of ds t ≡ Valued rank
  within_limit : rank ≤ 32

ranked_type : (ds : List DeclaredType) (t : Type') → type_rank_fits ds t ≡ Valued tt → IsRankedType ds t
ranked_type ds t e =
    let limited = value_of_with (limited_rank ds t) (λ n. Valued tt) tt e in
    let ranked = value_of_with (rank_of ds t) (λ n. value_if (nat_le n rank_limit) n causes.Rank) limited.0 limited.1 in
    let test = value_of_test (nat_le ranked.0 rank_limit) ranked.0 limited.0 causes.Rank ranked.2 in
    record { rank = ranked.0; is = ranked.1; within_limit = within ranked.0 rank_limit test.0 }

pub components_low : (earlier : List DeclaredType) (xs : List Attribute) → rank_fits earlier xs ≡ Valued tt
    → attributes_height (attribute_trees (pack xs)) ≤ height_limit
components_low earlier xs e =
    let ranked = ranked_type earlier (tuple (pack xs)) e in
    omega (arith, ranked.within_limit, type_low (user_ranks earlier) (tuple (pack xs)) ranked.rank (user_ranks_positive earlier) ranked.is)

-- ---- relvars

pub heading_names : (h : Heading) → IsHeading (pack h) → AllByRecursion IsName (attribute_names h)
heading_names [] p = tt
heading_names (a ∷ h) p = (p.0, heading_names h p.3)

pub heading_is_low : (ds : List DeclaredType) (h : Heading) → heading_rank_fits ds h ≡ Valued tt
    → type_height (relation_type (attribute_trees (pack h))) ≤ height_limit
heading_is_low ds h e =
    let ranked = ranked_type ds (relation (pack h)) e in
    omega (arith, ranked.within_limit, type_low (user_ranks ds) (relation (pack h)) ranked.rank (user_ranks_positive ds) ranked.is)

-- the literal of a relvar's relation has tokens that spell it
pub literal_spelled : (ds : List DeclaredType) (r : Relation) → AreDeclared ds → heading_rank_fits ds r.heading ≡ Valued tt → IsRelation r
    → AreKnown ds (pack r.heading) → HaveHeading ds (pack_rows r.body) (pack r.heading) → IsSpelledExpression (literal_tree (relation_value r))
literal_spelled ds r declared fits is known typed =
    let ranked = ranked_type ds (relation (pack r.heading)) fits in
    let v = relation_value r in
    let double : height (literal_tree v) ≤ 2 * ranked.rank = low ds v (relation (pack r.heading)) ranked.rank declared (refl, known, typed) ranked.is in
    (tokens 0 (literal v), literals_spell v is (omega (arith, ranked.within_limit, double)))
