-- How the logic stores trees: by the code that a Model asks for.
use Rattle.std.specs.Prelude.{◌≡◌, ℕ, ◌==◌, if◌then◌else◌, refl}
use Rattle.std.proofs.Common.{ap}
use Rattle.std.specs.Coded.{Coded, code_by}
use base.Stored.{Gv, gnil, gnum, gcons}
use denote.Struct.Codes.{itself}
use Rattle.td_tree.specs.code.NodeCode.{aggregate_number, aggregate_numbered, aggregate_back, attributes_to, attributes_from, attributes_back, bytes_to, bytes_from, bytes_back, comparison_number, comparison_numbered, comparison_back, literal_to, literal_from, literal_back, measure_number, measure_numbered, measure_back, number_in, operator_number, operator_numbered, operator_back, postfix_to, postfix_from, postfix_back, prefix_number, prefix_numbered, prefix_back}
use Rattle.td_tree.specs.model.Trees.{TypeTree, AttributeTrees, no_attributes, Tree, literal, name, parentheses, prefix, extract, restriction, binary, compare, postfix, select, component, measure, aggregate, relation, headed_relation, tuple, extend, extend_setting, summarize_per, summarize_by, choice, binding, Trees, none, more, NamedTrees, none_named, more_named, Summaries, no_summaries, counted, summed}
use Rattle.td_tree.specs.model.Trees as t

-- a node: its number and its three parts
abbrev node : ℕ → Gv → Gv → Gv → Gv
node n a b c = gcons (gnum n) (gcons a (gcons b c))

-- ---- types

abbrev mutual
  type_to : TypeTree → Gv
  type_to t.integer = gnum 0
  type_to t.char = gnum 1
  type_to t.boolean = gnum 2
  type_to (t.user n) = gcons gnil (bytes_to n)
  type_to (t.tuple_type h) = gcons (gnum 0) (heading_to h)
  type_to (t.relation_type h) = gcons (gcons gnil gnil) (heading_to h)

  heading_to : AttributeTrees → Gv
  heading_to no_attributes = gnil
  heading_to (t.attribute n ty rest) = gcons (gcons (bytes_to n) (type_to ty)) (heading_to rest)

abbrev mutual
  type_from : Gv → TypeTree
  type_from gnil = t.integer
  type_from (gnum n) = if n == 0 then t.integer else if n == 1 then t.char else t.boolean
  type_from (gcons gnil g) = t.user (bytes_from g)
  type_from (gcons (gnum n) g) = t.tuple_type (heading_from g)
  type_from (gcons (gcons x y) g) = t.relation_type (heading_from g)

  heading_from : Gv → AttributeTrees
  heading_from (gcons (gcons n ty) rest) = t.attribute (bytes_from n) (type_from ty) (heading_from rest)
  heading_from _ = no_attributes

mutual
  type_back : (ty : TypeTree) → type_from (type_to ty) ≡ ty
  type_back t.integer = refl
  type_back t.char = refl
  type_back t.boolean = refl
  type_back (t.user n) = ap t.user (bytes_back n)
  type_back (t.tuple_type h) = ap t.tuple_type (heading_back h)
  type_back (t.relation_type h) = ap t.relation_type (heading_back h)

  heading_back : (h : AttributeTrees) → heading_from (heading_to h) ≡ h
  heading_back no_attributes = refl
  heading_back (t.attribute n ty rest) =
      λ i. t.attribute (bytes_back n i) (type_back ty i) (heading_back rest i)

-- ---- expressions

abbrev mutual
  tree_to : Tree → Gv
  tree_to (literal l) = node 0 (literal_to l) gnil gnil
  tree_to (name n) = node 1 (bytes_to n) gnil gnil
  tree_to (parentheses inner) = node 2 (tree_to inner) gnil gnil
  tree_to (prefix op operand) = node 3 (gnum (prefix_number op)) (tree_to operand) gnil
  tree_to (extract a operand) = node 4 (bytes_to a) (tree_to operand) gnil
  tree_to (restriction operand condition) = node 18 (tree_to operand) (tree_to condition) gnil
  tree_to (binary left op right) = node 5 (tree_to left) (gnum (operator_number op)) (tree_to right)
  tree_to (compare left op right) = node 6 (tree_to left) (gnum (comparison_number op)) (tree_to right)
  tree_to (postfix operand op) = node 7 (tree_to operand) (postfix_to op) gnil
  tree_to (select ty arguments) = node 8 (bytes_to ty) (trees_to arguments) gnil
  tree_to (component rest operand) = node 9 (bytes_to rest) (tree_to operand) gnil
  tree_to (measure op operand) = node 10 (gnum (measure_number op)) (tree_to operand) gnil
  tree_to (aggregate op operand value) =
      node 11 (gnum (aggregate_number op)) (tree_to operand) (tree_to value)
  tree_to (relation elements) = node 12 (trees_to elements) gnil gnil
  tree_to (headed_relation h elements) = node 13 (heading_to h) (trees_to elements) gnil
  tree_to (tuple parts) = node 14 (named_to parts) gnil gnil
  tree_to (extend operand parts) = node 15 (tree_to operand) (named_to parts) gnil
  tree_to (summarize_per operand per summaries) =
      node 16 (tree_to operand) (tree_to per) (summaries_to summaries)
  tree_to (summarize_by operand by summaries) =
      node 17 (tree_to operand) (attributes_to by) (summaries_to summaries)
  tree_to (extend_setting operand settings) = node 20 (tree_to operand) (named_to settings) gnil
  tree_to (choice condition consequent alternative) =
      node 19 (tree_to condition) (tree_to consequent) (tree_to alternative)
  tree_to (binding items result) = node 21 (named_to items) (tree_to result) gnil

  trees_to : Trees → Gv
  trees_to none = gnil
  trees_to (more first rest) = gcons (tree_to first) (trees_to rest)

  named_to : NamedTrees → Gv
  named_to none_named = gnil
  named_to (more_named n value rest) = gcons (gcons (bytes_to n) (tree_to value)) (named_to rest)

  summaries_to : Summaries → Gv
  summaries_to no_summaries = gnil
  summaries_to (counted n rest) = gcons (gcons (gnum 0) (bytes_to n)) (summaries_to rest)
  summaries_to (summed op value n rest) =
      gcons (gcons (gcons (gnum (aggregate_number op)) (tree_to value)) (bytes_to n)) (summaries_to rest)

abbrev mutual
  tree_from : Gv → Tree
  tree_from (gcons (gnum n) (gcons a (gcons b c))) =
      if n == 0 then literal (literal_from a)
      else if n == 1 then name (bytes_from a)
      else if n == 2 then parentheses (tree_from a)
      else if n == 3 then prefix (prefix_numbered (number_in a)) (tree_from b)
      else if n == 4 then extract (bytes_from a) (tree_from b)
      else if n == 5 then binary (tree_from a) (operator_numbered (number_in b)) (tree_from c)
      else if n == 6 then compare (tree_from a) (comparison_numbered (number_in b)) (tree_from c)
      else if n == 7 then postfix (tree_from a) (postfix_from b)
      else if n == 8 then select (bytes_from a) (trees_from b)
      else if n == 9 then component (bytes_from a) (tree_from b)
      else if n == 10 then measure (measure_numbered (number_in a)) (tree_from b)
      else if n == 11 then aggregate (aggregate_numbered (number_in a)) (tree_from b) (tree_from c)
      else if n == 12 then relation (trees_from a)
      else if n == 13 then headed_relation (heading_from a) (trees_from b)
      else if n == 14 then tuple (named_from a)
      else if n == 15 then extend (tree_from a) (named_from b)
      else if n == 20 then extend_setting (tree_from a) (named_from b)
      else if n == 16 then summarize_per (tree_from a) (tree_from b) (summaries_from c)
      else if n == 17 then summarize_by (tree_from a) (attributes_from b) (summaries_from c)
      else if n == 18 then restriction (tree_from a) (tree_from b)
      else if n == 21 then binding (named_from a) (tree_from b)
      else choice (tree_from a) (tree_from b) (tree_from c)
  tree_from _ = literal t.table_dee

  trees_from : Gv → Trees
  trees_from (gcons first rest) = more (tree_from first) (trees_from rest)
  trees_from _ = none

  named_from : Gv → NamedTrees
  named_from (gcons (gcons n value) rest) = more_named (bytes_from n) (tree_from value) (named_from rest)
  named_from _ = none_named

  summaries_from : Gv → Summaries
  summaries_from (gcons (gcons (gnum k) n) rest) = counted (bytes_from n) (summaries_from rest)
  summaries_from (gcons (gcons (gcons op value) n) rest) =
      summed (aggregate_numbered (number_in op)) (tree_from value) (bytes_from n) (summaries_from rest)
  summaries_from _ = no_summaries

mutual
  pub tree_back : (e : Tree) → tree_from (tree_to e) ≡ e
  tree_back (literal l) = ap literal (literal_back l)
  tree_back (name n) = ap name (bytes_back n)
  tree_back (parentheses inner) = ap parentheses (tree_back inner)
  tree_back (prefix op operand) = λ i. prefix (prefix_back op i) (tree_back operand i)
  tree_back (extract a operand) = λ i. extract (bytes_back a i) (tree_back operand i)
  tree_back (restriction operand condition) = λ i. restriction (tree_back operand i) (tree_back condition i)
  tree_back (binary left op right) = λ i. binary (tree_back left i) (operator_back op i) (tree_back right i)
  tree_back (compare left op right) =
      λ i. compare (tree_back left i) (comparison_back op i) (tree_back right i)
  tree_back (postfix operand op) = λ i. postfix (tree_back operand i) (postfix_back op i)
  tree_back (select ty arguments) = λ i. select (bytes_back ty i) (trees_back arguments i)
  tree_back (component rest operand) = λ i. component (bytes_back rest i) (tree_back operand i)
  tree_back (measure op operand) = λ i. measure (measure_back op i) (tree_back operand i)
  tree_back (aggregate op operand value) =
      λ i. aggregate (aggregate_back op i) (tree_back operand i) (tree_back value i)
  tree_back (relation elements) = ap relation (trees_back elements)
  tree_back (headed_relation h elements) = λ i. headed_relation (heading_back h i) (trees_back elements i)
  tree_back (tuple parts) = ap tuple (named_back parts)
  tree_back (extend operand parts) = λ i. extend (tree_back operand i) (named_back parts i)
  tree_back (extend_setting operand settings) =
      λ i. extend_setting (tree_back operand i) (named_back settings i)
  tree_back (summarize_per operand per summaries) =
      λ i. summarize_per (tree_back operand i) (tree_back per i) (summaries_back summaries i)
  tree_back (summarize_by operand by summaries) =
      λ i. summarize_by (tree_back operand i) (attributes_back by i) (summaries_back summaries i)
  tree_back (choice condition consequent alternative) =
      λ i. choice (tree_back condition i) (tree_back consequent i) (tree_back alternative i)
  tree_back (binding items result) = λ i. binding (named_back items i) (tree_back result i)

  trees_back : (es : Trees) → trees_from (trees_to es) ≡ es
  trees_back none = refl
  trees_back (more first rest) = λ i. more (tree_back first i) (trees_back rest i)

  named_back : (es : NamedTrees) → named_from (named_to es) ≡ es
  named_back none_named = refl
  named_back (more_named n value rest) =
      λ i. more_named (bytes_back n i) (tree_back value i) (named_back rest i)

  summaries_back : (ss : Summaries) → summaries_from (summaries_to ss) ≡ ss
  summaries_back no_summaries = refl
  summaries_back (counted n rest) = λ i. counted (bytes_back n i) (summaries_back rest i)
  summaries_back (summed op value n rest) =
      λ i. summed (aggregate_back op i) (tree_back value i) (bytes_back n i) (summaries_back rest i)

abbrev pub tree_code : Coded Tree
tree_code = code_by Gv itself tree_to tree_from tree_back
