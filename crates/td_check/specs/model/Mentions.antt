-- What an expression mentions: the relvars that its names are by the rule of names, and the types whose selectors it calls
-- or that it names in a type (this project's own).
use Rattle.std.specs.Prelude.{ℕ, List, [], ◌∷◌, ◌++◌, fold, is_some, if◌then◌else◌}
use Rattle.std.specs.Cmp.Lexicographic.{slice_cmp}
use Rattle.std.specs.Ordering.{nat_cmp}
use Rattle.std.specs.BTreeSet.{insert_key}
use Rattle.td_check.specs.model.Scopes.{Scope, bound_to, entered_with, innermost, known_relvar}
use Rattle.td_check.specs.model.StaticTypes.{type_of}
use Rattle.td_tree.specs.model.Outcomes.{Outcome, Refused, Valued, with_value}
use Rattle.td_tree.specs.model.Trees.{TypeTree, AttributeTrees, no_attributes, attribute, user, tuple_type, relation_type, Tree, literal, name, parentheses, prefix, extract, restriction, binary, compare, postfix, select, component, measure, aggregate, relation, headed_relation, tuple, extend, extend_setting, summarize_per, summarize_by, choice, binding, Trees, none, more, NamedTrees, none_named, more_named, Summaries, no_summaries, counted, summed}
use Rattle.td_tree.specs.model.Trees as trees
use Rattle.td_types.specs.model.Types as types

-- a name mentions a relvar where no attribute in scope has it
abbrev pub mentioned_by_name : Scope → List ℕ → List (List ℕ)
mentioned_by_name scope n =
    if is_some (innermost n scope.entered) then []
    else if is_some (known_relvar scope n) then n ∷ []
    else []

-- the scope in an operand's tuples: its attributes are in scope where the operand is a relation
abbrev pub in_tuples : Scope → Outcome types.Type' → Scope
in_tuples scope (Valued (types.relation h)) = entered_with (types.unpack h) scope
in_tuples scope _ = scope

-- the scope behind an item of WITH: its name is in scope where it has a type
abbrev pub behind_item : List ℕ → Outcome types.Type' → Scope → Scope
behind_item n (Valued t) scope = bound_to n t scope
behind_item n (Refused cs) scope = scope

abbrev mutual
  -- the relvars, in the order written, but for SUMMARIZE: those of what it adds come before those of PER
  pub relvars_in : Scope → Tree → List (List ℕ)
  relvars_in scope (literal l) = []
  relvars_in scope (name n) = mentioned_by_name scope n
  relvars_in scope (parentheses inner) = relvars_in scope inner
  relvars_in scope (prefix op operand) = relvars_in scope operand
  relvars_in scope (extract a operand) = relvars_in scope operand
  relvars_in scope (restriction operand condition) =
      relvars_in scope operand ++ relvars_in (in_tuples scope (type_of scope operand)) condition
  relvars_in scope (binary left op right) = relvars_in scope left ++ relvars_in scope right
  relvars_in scope (compare left op right) = relvars_in scope left ++ relvars_in scope right
  relvars_in scope (postfix operand op) = relvars_in scope operand
  relvars_in scope (select ty arguments) = relvars_in_all scope arguments
  relvars_in scope (component rest operand) = relvars_in scope operand
  relvars_in scope (measure op operand) = relvars_in scope operand
  relvars_in scope (aggregate op operand value) =
      relvars_in scope operand ++ relvars_in (in_tuples scope (type_of scope operand)) value
  relvars_in scope (relation elements) = relvars_in_all scope elements
  relvars_in scope (headed_relation heading elements) = relvars_in_all scope elements
  relvars_in scope (tuple parts) = relvars_in_named scope parts
  relvars_in scope (extend operand parts) =
      relvars_in scope operand ++ relvars_in_named (in_tuples scope (type_of scope operand)) parts
  relvars_in scope (extend_setting operand settings) =
      relvars_in scope operand ++ relvars_in_named (in_tuples scope (type_of scope operand)) settings
  relvars_in scope (summarize_per operand per summaries) =
      relvars_in scope operand ++ (relvars_in_items (in_tuples scope (type_of scope operand)) summaries
      ++ relvars_in scope per)
  relvars_in scope (summarize_by operand by summaries) =
      relvars_in scope operand ++ relvars_in_items (in_tuples scope (type_of scope operand)) summaries
  relvars_in scope (choice condition consequent alternative) =
      relvars_in scope condition ++ (relvars_in scope consequent ++ relvars_in scope alternative)
  relvars_in scope (binding items result) = relvars_where_bound scope items (λ inner. relvars_in inner result)

  pub relvars_in_all : Scope → Trees → List (List ℕ)
  relvars_in_all scope none = []
  relvars_in_all scope (more first rest) = relvars_in scope first ++ relvars_in_all scope rest

  pub relvars_in_named : Scope → NamedTrees → List (List ℕ)
  relvars_in_named scope none_named = []
  relvars_in_named scope (more_named n value rest) = relvars_in scope value ++ relvars_in_named scope rest

  -- those in WITH's items, and then those in what stands where their values are in scope
  pub relvars_where_bound : Scope → NamedTrees → (Scope → List (List ℕ)) → List (List ℕ)
  relvars_where_bound scope none_named inside = inside scope
  relvars_where_bound scope (more_named n value rest) inside =
      relvars_in scope value ++ relvars_where_bound (behind_item n (type_of scope value) scope) rest inside

  pub relvars_in_items : Scope → Summaries → List (List ℕ)
  relvars_in_items scope no_summaries = []
  relvars_in_items scope (counted n rest) = relvars_in_items scope rest
  relvars_in_items scope (summed op value n rest) = relvars_in scope value ++ relvars_in_items scope rest

-- ---- types

abbrev mutual
  -- the user types named in a type
  pub types_named : TypeTree → List (List ℕ)
  types_named (user n) = n ∷ []
  types_named (tuple_type heading) = types_named_in heading
  types_named (relation_type heading) = types_named_in heading
  types_named trees.integer = []
  types_named trees.char = []
  types_named trees.boolean = []

  pub types_named_in : AttributeTrees → List (List ℕ)
  types_named_in no_attributes = []
  types_named_in (attribute n ty rest) = types_named ty ++ types_named_in rest

abbrev mutual
  -- the types, in the same order
  pub types_in : Tree → List (List ℕ)
  types_in (literal l) = []
  types_in (name n) = []
  types_in (parentheses inner) = types_in inner
  types_in (prefix op operand) = types_in operand
  types_in (extract a operand) = types_in operand
  types_in (restriction operand condition) = types_in operand ++ types_in condition
  types_in (binary left op right) = types_in left ++ types_in right
  types_in (compare left op right) = types_in left ++ types_in right
  types_in (postfix operand op) = types_in operand
  types_in (select ty arguments) = ty ∷ types_in_all arguments
  types_in (component rest operand) = types_in operand
  types_in (measure op operand) = types_in operand
  types_in (aggregate op operand value) = types_in operand ++ types_in value
  types_in (relation elements) = types_in_all elements
  types_in (headed_relation heading elements) = types_named_in heading ++ types_in_all elements
  types_in (tuple parts) = types_in_named parts
  types_in (extend operand parts) = types_in operand ++ types_in_named parts
  types_in (extend_setting operand settings) = types_in operand ++ types_in_named settings
  types_in (summarize_per operand per summaries) =
      types_in operand ++ (types_in_items summaries ++ types_in per)
  types_in (summarize_by operand by summaries) = types_in operand ++ types_in_items summaries
  types_in (choice condition consequent alternative) =
      types_in condition ++ (types_in consequent ++ types_in alternative)
  types_in (binding items result) = types_in_named items ++ types_in result

  pub types_in_all : Trees → List (List ℕ)
  types_in_all none = []
  types_in_all (more first rest) = types_in first ++ types_in_all rest

  pub types_in_named : NamedTrees → List (List ℕ)
  types_in_named none_named = []
  types_in_named (more_named n value rest) = types_in value ++ types_in_named rest

  pub types_in_items : Summaries → List (List ℕ)
  types_in_items no_summaries = []
  types_in_items (counted n rest) = types_in_items rest
  types_in_items (summed op value n rest) = types_in value ++ types_in_items rest

-- ---- what is mentioned

-- the names, each once, ascending
abbrev pub name_set : List (List ℕ) → List (List ℕ)
name_set = fold (insert_key (slice_cmp nat_cmp)) []

-- the relvars and the types of an expression that has a type; another is refused as its type is
abbrev pub mentions_of : Scope → Tree → Outcome (List (List ℕ) × List (List ℕ))
mentions_of scope e = with_value (type_of scope e) (λ t. Valued (name_set (relvars_in scope e), name_set (types_in e)))
