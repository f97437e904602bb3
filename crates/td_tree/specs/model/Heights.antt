-- The height of a tree (this project's own): 1 for a node without parts, else one more than its
-- highest part.
use Rattle.std.specs.Prelude.{ℕ, zero, ◌+◌, max}
use Rattle.td_tree.specs.model.Trees.{TypeTree, integer, char, boolean, user, tuple_type, relation_type, AttributeTrees, no_attributes, attribute, Tree, literal, name, parentheses, prefix, extract, restriction, binary, compare, postfix, select, component, measure, aggregate, relation, headed_relation, tuple, extend, extend_setting, summarize_per, summarize_by, choice, binding, Trees, none, more, NamedTrees, none_named, more_named, Summaries, no_summaries, counted, summed}

abbrev mutual
  pub type_height : TypeTree → ℕ
  type_height integer = 1
  type_height char = 1
  type_height boolean = 1
  type_height (user n) = 1
  type_height (tuple_type heading) = attributes_height heading + 1
  type_height (relation_type heading) = attributes_height heading + 1

  -- the highest of the types
  pub attributes_height : AttributeTrees → ℕ
  attributes_height no_attributes = zero
  attributes_height (attribute n ty rest) = max (type_height ty) (attributes_height rest)

-- the parts of a relation literal are its relation type and its elements
abbrev mutual
  pub height : Tree → ℕ
  height (literal l) = 1
  height (name n) = 1
  height (parentheses inner) = height inner + 1
  height (prefix op operand) = height operand + 1
  height (extract a operand) = height operand + 1
  height (restriction operand condition) = max (height operand) (height condition) + 1
  height (binary left op right) = max (height left) (height right) + 1
  height (compare left op right) = max (height left) (height right) + 1
  height (postfix operand op) = height operand + 1
  height (select ty arguments) = highest arguments + 1
  height (component rest operand) = height operand + 1
  height (measure op operand) = height operand + 1
  height (aggregate op operand value) = max (height operand) (height value) + 1
  height (relation elements) = highest elements + 1
  height (headed_relation heading elements) =
      max (type_height (relation_type heading)) (highest elements) + 1
  height (tuple parts) = highest_named parts + 1
  height (extend operand parts) = max (height operand) (highest_named parts) + 1
  height (extend_setting operand settings) = max (height operand) (highest_named settings) + 1
  height (summarize_per operand per summaries) =
      max (max (height operand) (height per)) (highest_summary summaries) + 1
  height (summarize_by operand by summaries) = max (height operand) (highest_summary summaries) + 1
  height (choice condition a b) = max (max (height condition) (height a)) (height b) + 1
  height (binding items result) = max (highest_named items) (height result) + 1

  -- the highest of the expressions
  pub highest : Trees → ℕ
  highest none = zero
  highest (more first rest) = max (height first) (highest rest)

  pub highest_named : NamedTrees → ℕ
  highest_named none_named = zero
  highest_named (more_named n value rest) = max (height value) (highest_named rest)

  pub highest_summary : Summaries → ℕ
  highest_summary no_summaries = zero
  highest_summary (counted n rest) = highest_summary rest
  highest_summary (summed op value n rest) = max (height value) (highest_summary rest)
