-- The names that stand as expressions in an expression, whatever is known (this project's own).
use Rattle.std.specs.Prelude.{ℕ, List, [], ◌∷◌, ◌++◌}
use Rattle.td_tree.specs.model.Trees.{Tree, literal, name, parentheses, prefix, extract, restriction, binary, compare, postfix, select, component, measure, aggregate, relation, headed_relation, tuple, extend, extend_setting, summarize_per, summarize_by, choice, binding, Trees, none, more, NamedTrees, none_named, more_named, Summaries, no_summaries, counted, summed}

abbrev mutual
  -- in the order written
  pub names_in : Tree → List (List ℕ)
  names_in (literal l) = []
  names_in (name n) = n ∷ []
  names_in (parentheses inner) = names_in inner
  names_in (prefix op operand) = names_in operand
  names_in (extract a operand) = names_in operand
  names_in (restriction operand condition) = names_in operand ++ names_in condition
  names_in (binary left op right) = names_in left ++ names_in right
  names_in (compare left op right) = names_in left ++ names_in right
  names_in (postfix operand op) = names_in operand
  names_in (select ty arguments) = names_in_all arguments
  names_in (component rest operand) = names_in operand
  names_in (measure op operand) = names_in operand
  names_in (aggregate op operand value) = names_in operand ++ names_in value
  names_in (relation elements) = names_in_all elements
  names_in (headed_relation heading elements) = names_in_all elements
  names_in (tuple parts) = names_in_named parts
  names_in (extend operand parts) = names_in operand ++ names_in_named parts
  names_in (extend_setting operand settings) = names_in operand ++ names_in_named settings
  names_in (summarize_per operand per summaries) = names_in operand ++ (names_in per ++ names_in_items summaries)
  names_in (summarize_by operand by summaries) = names_in operand ++ names_in_items summaries
  names_in (choice condition consequent alternative) = names_in condition ++ (names_in consequent ++ names_in alternative)
  names_in (binding items result) = names_in_named items ++ names_in result

  pub names_in_all : Trees → List (List ℕ)
  names_in_all none = []
  names_in_all (more first rest) = names_in first ++ names_in_all rest

  pub names_in_named : NamedTrees → List (List ℕ)
  names_in_named none_named = []
  names_in_named (more_named n value rest) = names_in value ++ names_in_named rest

  pub names_in_items : Summaries → List (List ℕ)
  names_in_items no_summaries = []
  names_in_items (counted n rest) = names_in_items rest
  names_in_items (summed op value n rest) = names_in value ++ names_in_items rest
