-- The statements that define relvars and constraints make them again, behind the entries before them.
use Rattle.std.proofs.Common.{◌≡◌, ◌∙◌, ◌∷◌, ◌++◌, ℕ, List, [], Option, Some, ap, map, not, refl}
use Rattle.std.specs.Prelude.{is_some, ⊤}
use Rattle.td_catalog.specs.model.Database.{BaseRelvar, Database, NamedConstraint, VirtualRelvar, base_relvar, database_scope, virtual_relvar, with_base, with_virtual}
use Rattle.td_catalog.specs.model.TypedDatabases.{IsTyped, IsTypedBase, IsTypedVirtual}
use Rattle.td_check.specs.model.OperatorTypes.{if_type, over_relation}
use Rattle.td_check.specs.model.Scopes.{known_relvar, knows_constraint}
use Rattle.td_check.specs.model.StatementTypes.{both_hold, has_key, heading_rank_fits, holds_or, init_fits, keys_asked, statement_checked, type_if_given}
use Rattle.td_check.specs.model.StaticTypes.{type_of}
use Rattle.td_engine.proofs.law_lemmas.RebuiltEffects.{both_asked, is_asked, is_free, over_heading, unknown_name}
use Rattle.td_engine.proofs.law_lemmas.RebuiltLists.{all_at}
use Rattle.td_engine.proofs.law_lemmas.RebuiltParts.{base_is_new, constraint_is_new, constraint_there, database_of, typed_bases, virtual_is_new, virtual_there}
use Rattle.td_engine.specs.model.Assignments.{of_heading}
use Rattle.td_catalog.specs.model.Dumps.{ordered_names}
use Rattle.td_engine.specs.model.Machine.{by_outcome, carried_out, checked_effect, init_relation}
use Rattle.td_engine.specs.laws.Rebuilding.{base_statement, constraint_statement, virtual_statement}
use Rattle.td_engine.specs.model.Legality.{AreOrdered, IsRuledBase, IsRuledVirtual, IsLegal}
use Rattle.td_eval.proofs.law_lemmas.LiteralTypes.{heading_means, literals_have_their_types}
use Rattle.td_eval.proofs.law_lemmas.LiteralValues.{stored_literals_have_their_values}
use Rattle.td_eval.proofs.code_lemmas.TypedValues.{same_is}
use Rattle.td_eval.specs.model.MetConstraints.{MeetsConstraints}
use Rattle.td_eval.specs.model.OperatorValues.{on_relation}
use Rattle.td_tree.specs.model.Outcomes.{Outcome, Valued, value_if, with_both, with_value}
use Rattle.td_tree.specs.model.Trees.{Statement, Tree, define_base, define_virtual}
use Rattle.td_tree.specs.declared.cause.Cause.TheVariants as causes
use Rattle.td_types.specs.code.TypeCode.{unpack_pack}
use Rattle.td_types.specs.model.TypeLists.{heading_meant}
use Rattle.td_types.specs.laws.TypeTrees.{attribute_trees}
use Rattle.td_types.specs.model.Types.{Heading, Type', boolean, pack, relation}
use Rattle.td_value.specs.laws.LiteralTrees.{literal_tree}
use Rattle.td_value.specs.code.ValueCode.{unpack_pack_rows}
use Rattle.td_value.specs.model.Values.{Relation, relation_value, relation_view}

some_key : (keys : List (List (List ℕ))) → (keys ≡ [] → ⊥) → has_key keys ≡ Valued tt
some_key [] some = absurd (some refl)
some_key (key ∷ keys) some = refl

-- ---- a base relvar

-- its statement, with these keys
abbrev base_with_keys : BaseRelvar → List (List (List ℕ)) → Statement
base_with_keys r = define_base r.name (attribute_trees (pack r.relation.heading)) (Some (literal_tree (relation_value r.relation)))

-- the relation of a relation's value is of its own heading
own_heading : (r : Relation) (h : Heading) → r.heading ≡ h → on_relation (relation_value r) (of_heading (relation_view h [])) ≡ Valued r
own_heading r h e =
    (λ i. of_heading (relation_view h []) (relation_view (unpack_pack r.heading i) (unpack_pack_rows r.body i)))
    ∙ ap (λ b. value_if b r causes.Heading) (same_is r.heading h e)

module _ (db : Database) (legal : IsLegal db) (front rest : List BaseRelvar) (r : BaseRelvar) (e : db.bases ≡ front ++ (r ∷ rest)) where
  abbrev before_base : Database
  before_base = database_of db.types front [] []

  abbrev heading : Heading
  heading = r.relation.heading

  abbrev init : Tree
  init = literal_tree (relation_value r.relation)

  is_base : IsTypedBase db.types r
  is_base = all_at (IsTypedBase db.types) db.bases front rest r e legal.typed.bases

  is_legal : IsRuledBase db.types r
  is_legal = all_at (IsRuledBase db.types) db.bases front rest r e legal.bases

  keys_ordered : AreOrdered heading r.keys
  keys_ordered = all_at (λ (b : BaseRelvar). AreOrdered b.relation.heading b.keys) db.bases front rest r e legal.ordered.bases

  heading_is : heading_meant db.types (attribute_trees (pack heading)) ≡ Valued heading
  heading_is = heading_means db.types (pack heading) is_base.relation.2 is_base.known ∙ ap Valued (unpack_pack heading)

  init_typed : type_if_given (database_scope before_base) (Some init) ≡ Valued (Some (relation (pack heading)))
  init_typed =
      ap (λ o. with_value o (λ t. Valued (Some t)))
      (literals_have_their_types (database_scope before_base) (relation_value r.relation) (relation (pack heading)) is_base.relation
      (refl, is_base.known, is_base.typed))

  -- the keys as they are
  base_keyed : statement_checked (database_scope before_base) (base_with_keys r r.keys) ≡ Valued tt
  base_keyed =
      let scope = database_scope before_base in
      let asked : Heading → Option Type' → Outcome ⊤ =
      λ h t. both_hold (init_fits h t) (both_hold (both_hold (has_key r.keys) (keys_asked h r.keys)) (heading_rank_fits db.types h)) in
      both_asked (holds_or causes.NameTaken (not (is_some (known_relvar scope r.name))))
      (with_both (heading_meant db.types (attribute_trees (pack heading))) (type_if_given scope (Some init)) asked)
      (is_free _ (unknown_name before_base r.name (base_is_new db legal.typed front rest r e)))
      ((λ i. with_both (heading_is i) (init_typed i) asked)
      ∙ both_asked (init_fits heading (Some (relation (pack heading)))) _
      (is_asked causes.Heading _ (same_is _ heading (unpack_pack heading)))
      (both_asked _ (heading_rank_fits db.types heading)
      (both_asked (has_key r.keys) (keys_asked heading r.keys) (some_key r.keys is_legal.keys.some) (is_asked causes.KeyDeclaration _ is_legal.keys.allowed))
      is_legal.ranked))

  pub base_checked : statement_checked (database_scope before_base) (base_statement r) ≡ Valued tt
  base_checked = ap (λ keys. statement_checked (database_scope before_base) (base_with_keys r keys)) keys_ordered ∙ base_keyed

  -- the value of INIT
  init_valued : init_relation before_base (Some init) heading ≡ Valued r.relation
  init_valued =
      ap (λ o. with_value o (λ v. on_relation v (of_heading (relation_view heading []))))
      (stored_literals_have_their_values before_base [] (relation_value r.relation) (relation (pack heading))
      (typed_bases db legal.typed front (r ∷ rest, e)) is_base.relation (refl, is_base.known, is_base.typed)
      (all_at (λ (b : BaseRelvar). MeetsConstraints db.types (relation_value b.relation)) db.bases front rest r e legal.types))
      ∙ own_heading r.relation heading refl

  pub base_made : carried_out before_base (base_statement r) ≡ checked_effect (database_of db.types (front ++ (r ∷ [])) [] [])
  base_made =
      let made : Relation → Outcome Database = λ q. Valued (with_base (base_relvar r.name (map (ordered_names q.heading) r.keys) q) before_base) in
      ap (λ keys. carried_out before_base (base_with_keys r keys)) keys_ordered
      ∙ ap (λ o. by_outcome (with_value o made) checked_effect) (ap (λ o. with_value o (init_relation before_base (Some init))) heading_is ∙ init_valued)
      ∙ ap (λ keys. checked_effect (with_base (base_relvar r.name keys r.relation) before_base)) keys_ordered

-- ---- a virtual relvar

module _ (db : Database) (legal : IsLegal db) (front rest : List VirtualRelvar) (v : VirtualRelvar) (e : db.virtuals ≡ front ++ (v ∷ rest)) where
  abbrev before_virtual : Database
  before_virtual = database_of db.types db.bases front []

  is_virtual : IsTypedVirtual (database_scope before_virtual) v
  is_virtual = virtual_there db legal.typed front rest v e

  is_derived : IsRuledVirtual db.types v
  is_derived = all_at (IsRuledVirtual db.types) db.virtuals front rest v e legal.derived

  names_ordered : AreOrdered v.heading v.keys
  names_ordered = all_at (λ (u : VirtualRelvar). AreOrdered u.heading u.keys) db.virtuals front rest v e legal.ordered.virtuals

  -- the keys as they are
  virtual_keyed : statement_checked (database_scope before_virtual) (define_virtual v.name v.tree v.keys) ≡ Valued tt
  virtual_keyed =
      let scope = database_scope before_virtual in
      let asked : Heading → Outcome ⊤ = λ h. both_hold (keys_asked h v.keys) (heading_rank_fits db.types h) in
      both_asked (holds_or causes.NameTaken (not (is_some (known_relvar scope v.name))))
      (with_value (type_of scope v.tree) (λ t. over_relation t asked))
      (is_free _ (unknown_name before_virtual v.name (virtual_is_new db legal.typed front rest v e)))
      (over_heading (type_of scope v.tree) v.heading asked is_virtual.typed
      ∙ both_asked (keys_asked v.heading v.keys) (heading_rank_fits db.types v.heading) (is_asked causes.KeyDeclaration _ is_derived.keys)
      is_derived.ranked)

  pub virtual_checked : statement_checked (database_scope before_virtual) (virtual_statement v) ≡ Valued tt
  virtual_checked = ap (λ keys. statement_checked (database_scope before_virtual) (define_virtual v.name v.tree keys)) names_ordered ∙ virtual_keyed

  pub virtual_made : carried_out before_virtual (virtual_statement v) ≡ checked_effect (database_of db.types db.bases (front ++ (v ∷ [])) [])
  virtual_made =
      let made : Heading → Outcome Database = λ h. Valued (with_virtual (virtual_relvar v.name h v.tree (map (ordered_names h) v.keys)) before_virtual) in
      ap (λ keys. carried_out before_virtual (define_virtual v.name v.tree keys)) names_ordered
      ∙ ap (λ o. by_outcome o checked_effect) (over_heading (type_of (database_scope before_virtual) v.tree) v.heading made is_virtual.typed)
      ∙ ap (λ keys. checked_effect (with_virtual (virtual_relvar v.name v.heading v.tree keys) before_virtual)) names_ordered

-- ---- a constraint

module _ (db : Database) (is_typed : IsTyped db) (front rest : List NamedConstraint) (c : NamedConstraint) (e : db.constraints ≡ front ++ (c ∷ rest)) where
  abbrev before_constraint : Database
  before_constraint = database_of db.types db.bases db.virtuals front

  pub constraint_checked : statement_checked (database_scope before_constraint) (constraint_statement c) ≡ Valued tt
  constraint_checked =
      both_asked (holds_or causes.NameTaken (not (knows_constraint c.name (database_scope before_constraint))))
      (with_value (type_of (database_scope before_constraint) c.tree) (λ t. if_type boolean t tt))
      (is_free _ (constraint_is_new db is_typed front rest c e))
      (ap (λ o. with_value o (λ t. if_type boolean t tt)) (constraint_there db is_typed front rest c e))

  pub constraint_made : carried_out before_constraint (constraint_statement c) ≡ checked_effect (database_of db.types db.bases db.virtuals (front ++ (c ∷ [])))
  constraint_made = refl
