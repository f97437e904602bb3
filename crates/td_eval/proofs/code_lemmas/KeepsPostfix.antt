-- The operators behind their operands give values of their static types, or are refused by dynamic causes alone.
use Rattle.std.proofs.Common.{ℕ, List, [], ◌∷◌, map, refl, subst}
use Rattle.std.specs.Prelude.{IsTrue}
use Rattle.std.specs.List.{AllByRecursion}
use Rattle.std.proofs.lemmas.List.Elements.{All-from_recursion}
use Rattle.td_tree.specs.model.Names.{IsName}
use Rattle.td_tree.specs.declared.cause.Cause.TheVariants as causes
use Rattle.td_tree.specs.model.Trees.{Attributes, only, all_but, Renaming, Postfix, project, rename, group, ungroup, wrap, unwrap}
use Rattle.td_types.specs.model.Headings.{can_rename, has_projection, heading_union, new_name, outside, projection, renamed_attributes}
use Rattle.td_types.specs.model.TypeLists.{DeclaredType}
use Rattle.td_types.specs.model.Types.{Heading, Type', attribute_names, pack}
use Rattle.td_types.specs.model.Types as types
use Rattle.td_types.proofs.HeadingLaws.{ascending_from_heading}
use Rattle.td_check.specs.model.OperatorTypes.{named_part, postfix_type, relation_if, renaming_pairs}
use Rattle.td_check.proofs.KnownLaws.{known_closed}
use Rattle.td_check.proofs.OperatorLaws.{all_fit, renamed_fit, united}
use Rattle.td_value.specs.model.Values.{Val, Relation, Tuple}
use Rattle.td_algebra.specs.model.Operators.{projected_relation, renamed_relation, renamed_tuple}
use Rattle.td_algebra.specs.laws.Results.{NewNamesAreNames}
use Rattle.td_algebra.proofs.Lists.{contains_map}
use Rattle.td_algebra.proofs.Results.{IsRelation-renamed}
use Rattle.td_eval.specs.model.OperatorValues.{listed_names, postfix_value, projected_names, relation_where}
use Rattle.td_eval.specs.laws.ValueTypes.{IsOfType, KeepsType}
use Rattle.td_eval.proofs.code_lemmas.KeepsNesting.{grouped_made, nest_keeps, wrapped_made}
use Rattle.td_eval.proofs.code_lemmas.KeepsOperators.{typed_projected}
use Rattle.td_eval.proofs.code_lemmas.KeepsRelations.{AreOwn, IsOwn, IsTypedRelation, all_made, heading_if_keeps, made_if_keeps, over_relation_keeps, typed_heading, typed_set}
use Rattle.td_eval.proofs.code_lemmas.KeepsUnnesting.{ungroup_keeps, unwrap_keeps}
use Rattle.td_eval.proofs.code_lemmas.NestedNames.{rest_named}
use Rattle.td_group.specs.model.Nesting.{grouped_relation, wrapped_relation}
use Rattle.td_tree.specs.model.WrittenTrees.{OperatorGivesNames}

-- ---- projection

module _ (ds : List DeclaredType) where
  part_keeps : (attributes : Attributes) (r : Relation) → IsTypedRelation ds r
      → KeepsType ds (relation_if (named_part attributes r.heading))
      (relation_where (has_projection (listed_names attributes) r.heading) (projected_relation (projected_names attributes r.heading) r))
  part_keeps (only names) r m =
      heading_if_keeps ds (has_projection names r.heading) (projection names r.heading) causes.Heading (projected_relation names r) refl
      (λ _. typed_projected ds names r m)
  part_keeps (all_but names) r m =
      let others = attribute_names (outside (projection names r.heading) r.heading) in
      made_if_keeps ds (has_projection names r.heading) (projection names r.heading) causes.Heading (λ part. outside part r.heading) (projected_relation others r)
      (rest_named (projection names r.heading) r.heading (ascending_from_heading r.heading (typed_heading ds r m).0))
      (λ _. typed_projected ds others r m)

-- ---- RENAME

names_of_pairs : (rs : List Renaming) → AllByRecursion (λ (r : Renaming). IsName r.new) rs
    → AllByRecursion (λ (p : List ℕ × List ℕ). IsName p.1) (renaming_pairs rs)
names_of_pairs [] h = tt
names_of_pairs (r ∷ rs) h = (h.0, names_of_pairs rs h.1)

module _ (ds : List DeclaredType) where
  own_renamed : (rs : List (List ℕ × List ℕ)) (t : Tuple) → AreOwn ds t → AreOwn ds (map (λ e. (new_name rs e.0, e.1)) t)
  own_renamed rs [] h = tt
  own_renamed rs (e ∷ t) h = (h.0, own_renamed rs t h.1)

  pub typed_renamed : (rs : List Renaming) (r : Relation) → AllByRecursion (λ (q : Renaming). IsName q.new) rs → IsTrue (can_rename (renaming_pairs rs) r.heading)
      → IsTypedRelation ds r → IsTypedRelation ds (renamed_relation (renaming_pairs rs) r)
  typed_renamed rs r new fits m =
      let c = known_closed ds in
      let pairs = renaming_pairs rs in
      let names : NewNamesAreNames pairs = All-from_recursion (λ (p : List ℕ × List ℕ). IsName p.1) pairs (names_of_pairs rs new) in
      typed_set ds (heading_union [] (renamed_attributes pairs r.heading)) (map (renamed_tuple pairs) r.body)
      (IsRelation-renamed pairs r m.is_relation fits names)
      (united c [] (renamed_attributes pairs r.heading) c.nothing (renamed_fit c rs new r.heading (all_fit c r.heading (typed_heading ds r m)))).1
      (λ y d. let e = (contains_map (renamed_tuple pairs) r.body y).0 d in
      subst (AreOwn ds) e.2 (all_made (IsOwn ds) (map (λ f. (new_name pairs f.0, f.1)) e.0) (own_renamed pairs e.0 (m.rows e.0 e.1))))

-- ---- the operators

pub postfix_keeps : (ds : List DeclaredType) (op : Postfix) (v : Val) (s : Type') → OperatorGivesNames op → IsOfType ds v s
    → KeepsType ds (postfix_type op s) (postfix_value op v)
postfix_keeps ds (project attributes) v s names k =
    over_relation_keeps ds v s _ _ k (λ r m e. part_keeps ds attributes r m)
postfix_keeps ds (rename style renamings) v s names k =
    over_relation_keeps ds v s _ _ k
    (λ r m e. heading_if_keeps ds (can_rename (renaming_pairs renamings) r.heading) (heading_union [] (renamed_attributes (renaming_pairs renamings) r.heading)) causes.Heading
    (renamed_relation (renaming_pairs renamings) r) refl (λ fits. typed_renamed ds renamings r names fits m))
postfix_keeps ds (group style attributes name) v s names k =
    over_relation_keeps ds v s _ _ k
    (λ r m e. nest_keeps ds attributes r.heading name (λ part. types.relation (pack part)) (λ ns. grouped_relation ns name r) (typed_heading ds r m).0
    (grouped_made ds name names r m))
postfix_keeps ds (ungroup name) v s names k =
    over_relation_keeps ds v s _ _ k (λ r m e. ungroup_keeps ds name r m)
postfix_keeps ds (wrap style attributes name) v s names k =
    over_relation_keeps ds v s _ _ k
    (λ r m e. nest_keeps ds attributes r.heading name (λ part. types.tuple (pack part)) (λ ns. wrapped_relation ns name r) (typed_heading ds r m).0
    (wrapped_made ds name names r m))
postfix_keeps ds (unwrap name) v s names k =
    over_relation_keeps ds v s _ _ k (λ r m e. unwrap_keeps ds name r m)
