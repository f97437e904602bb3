-- Ranks stay within the limit with one more type, and without a type that no entry mentions.
use Rattle.std.proofs.Common.{◌≡◌, ◌∙◌, ◌∷◌, ◌++◌, ℕ, false, List, [], ap, subst, sym}
use Rattle.std.specs.Prelude.{nat_le}
use Rattle.std.proofs.lemmas.List.Folds.{list_any-append}
use Rattle.std.specs.List.{AllByRecursion}
use Rattle.td_catalog.proofs.Lists.{each_removed, neither}
use Rattle.td_catalog.proofs.TypedTypeDrops.{headings_apart, made_of_none, others_all_alone, apart_bases}
use Rattle.td_catalog.specs.model.Database.{BaseRelvar, Database, VirtualRelvar, database_scope, with_virtuals}
use Rattle.td_catalog.specs.model.Mentioned.{base_mentions_type, is_type_in_use}
use Rattle.td_catalog.specs.model.TypedDatabases.{EachAfter, IsTyped, IsTypedBase, IsTypedVirtual}
use Rattle.td_check.specs.laws.StaticLaws.{UsersAllIn, is_other}
use Rattle.td_engine.proofs.law_lemmas.EachOf.{all_follow, all_from_each, all_given, none_passes}
use Rattle.td_engine.specs.model.Legality.{IsRuledBase, IsRuledVirtual, IsRanked, IsRankedHeading, IsLegal}
use Rattle.td_tree.specs.model.Outcomes.{Valued, value_if, with_value}
use Rattle.td_tree.specs.declared.cause.Cause.TheVariants as causes
use Rattle.td_types.proofs.Ranks.{rank_later}
use Rattle.td_types.proofs.RemovedTypes.{is_made_of-among, limited_rank-without}
use Rattle.td_types.specs.model.NamedTypes.{any_names_user, is_component, is_made_of, without_declared}
use Rattle.td_types.specs.model.TypeLists.{AreDeclared, AreKnown, DeclaredType, rank_limit}
use Rattle.td_types.specs.model.Types.{Heading, pack, relation, same_name, tuple}

-- the headings of typed virtual relvars are known
pub virtuals_known : (db : Database) → IsTyped db → AllByRecursion (λ (v : VirtualRelvar). AreKnown db.types (pack v.heading)) db.virtuals
virtuals_known db is_typed =
    all_from_each (λ earlier v. IsTypedVirtual (database_scope (with_virtuals earlier db)) v) (λ (v : VirtualRelvar). AreKnown db.types (pack v.heading)) (λ earlier v is. is.known)
    db.virtuals is_typed.virtuals

-- ---- one more type

module _ (db : Database) (d : DeclaredType) (legal : IsLegal db) (declared : AreDeclared (db.types ++ (d ∷ []))) where
  heading_later : (h : Heading) → AreKnown db.types (pack h) → IsRankedHeading db.types h → IsRankedHeading (db.types ++ (d ∷ [])) h
  heading_later h known ranked =
      ap (λ o. with_value (with_value o (λ rank. value_if (nat_le rank rank_limit) rank causes.Rank)) (λ _. Valued tt))
      (rank_later db.types (d ∷ []) (relation (pack h)) declared known)
      ∙ ranked

  pub bases_later : AllByRecursion (IsRuledBase (db.types ++ (d ∷ []))) db.bases
  bases_later =
      all_given (IsTypedBase db.types) (IsRuledBase db.types) (IsRuledBase (db.types ++ (d ∷ [])))
      (λ r is ruled. record { ranked = heading_later r.relation.heading is.known ruled.ranked; keys = ruled.keys; hold = ruled.hold }) db.bases legal.typed.bases legal.bases

  pub virtuals_later : AllByRecursion (IsRuledVirtual (db.types ++ (d ∷ []))) db.virtuals
  virtuals_later =
      all_given (λ (v : VirtualRelvar). AreKnown db.types (pack v.heading)) (IsRuledVirtual db.types) (IsRuledVirtual (db.types ++ (d ∷ [])))
      (λ v known ruled. record { ranked = heading_later v.heading known ruled.ranked; keys = ruled.keys }) db.virtuals (virtuals_known db legal.typed) legal.derived

-- ---- one type less

module _ (name : List ℕ) (db : Database) (legal : IsLegal db) (unused : is_type_in_use name db ≡ false) where
  none : is_component name db.types ≡ false
  none = made_of_none name db legal.typed unused

  heading_left : (h : Heading) → any_names_user name (pack h) ≡ false → IsRankedHeading db.types h → IsRankedHeading (without_declared name db.types) h
  heading_left h apart ranked = ap (λ o. with_value o (λ _. Valued tt)) (limited_rank-without name db.types (relation (pack h)) none apart) ∙ ranked

  type_left : (before after : List DeclaredType) (d : DeclaredType) → db.types ≡ before ++ (d ∷ after) → IsRanked before d → IsRanked (without_declared name before) d
  type_left before after d is ranked =
      let whole : is_component name (before ++ (d ∷ after)) ≡ false = subst (λ ds. is_component name ds ≡ false) is none in
      let front : is_component name before ≡ false =
      (neither (is_component name before) (is_component name (d ∷ after)) (sym (list_any-append (is_made_of name) before (d ∷ after)) ∙ whole)).0 in
      ap (λ o. with_value o (λ _. Valued tt))
      (limited_rank-without name before (tuple (pack d.components)) front (is_made_of-among name before d after whole))
      ∙ ranked

  pub types_left : EachAfter IsRanked (without_declared name db.types)
  types_left = each_removed (λ (d : DeclaredType). same_name d.name name) IsRanked IsRanked db.types type_left legal.ranked

  pub bases_left : AllByRecursion (IsRuledBase (without_declared name db.types)) db.bases
  bases_left =
      all_given (λ (r : BaseRelvar). base_mentions_type name r ≡ false) (IsRuledBase db.types) (IsRuledBase (without_declared name db.types))
      (λ r apart ruled. record { ranked = heading_left r.relation.heading apart ruled.ranked; keys = ruled.keys; hold = ruled.hold }) db.bases
      (none_passes (base_mentions_type name) db.bases (apart_bases name db legal.typed unused)) legal.bases

  pub virtuals_left : AllByRecursion (IsRuledVirtual (without_declared name db.types)) db.virtuals
  virtuals_left =
      all_given (λ (v : VirtualRelvar). any_names_user name (pack v.heading) ≡ false) (IsRuledVirtual db.types) (IsRuledVirtual (without_declared name db.types))
      (λ v apart ruled. record { ranked = heading_left v.heading apart ruled.ranked; keys = ruled.keys }) db.virtuals
      (all_follow (λ (v : VirtualRelvar). UsersAllIn (is_other name) (pack v.heading)) (λ (v : VirtualRelvar). any_names_user name (pack v.heading) ≡ false) (λ v apart. others_all_alone name (pack v.heading) apart) db.virtuals
      (headings_apart name db legal.typed unused))
      legal.derived
