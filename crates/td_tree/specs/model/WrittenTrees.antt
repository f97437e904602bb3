-- What holds of every expression: the names that it gives are names, and its texts are UTF-8, at every depth (this
-- project's own).
use Rattle.std.specs.Prelude.{IsUtf8, ⊤}
use Rattle.std.specs.List.{AllByRecursion}
use Rattle.td_tree.specs.model.Names.{IsName}
use Rattle.td_tree.specs.model.Trees.{TypeTree, integer, char, boolean, user, tuple_type, relation_type, AttributeTrees, no_attributes, attribute, Literal, number, text, truth, table_dee, table_dum, Postfix, project, rename, group, ungroup, wrap, unwrap, Tree, literal, name, parentheses, prefix, extract, restriction, binary, compare, postfix, select, component, measure, aggregate, relation, headed_relation, tuple, extend, extend_setting, summarize_per, summarize_by, choice, binding, Trees, none, more, NamedTrees, none_named, more_named, Summaries, no_summaries, counted, summed}

-- ---- names

abbrev mutual
  -- the names in a type tree are names, at every depth
  pub HasNames : TypeTree → Type 0
  HasNames integer = ⊤
  HasNames char = ⊤
  HasNames boolean = ⊤
  HasNames (user n) = IsName n
  HasNames (tuple_type heading) = HaveNames heading
  HasNames (relation_type heading) = HaveNames heading

  pub HaveNames : AttributeTrees → Type 0
  HaveNames no_attributes = ⊤
  HaveNames (attribute n ty rest) = IsName n × HasNames ty × HaveNames rest

-- the names that an operator gives to attributes are names
abbrev pub OperatorGivesNames : Postfix → Type 0
OperatorGivesNames (project attributes) = ⊤
OperatorGivesNames (rename style renamings) = AllByRecursion (λ r. IsName r.new) renamings
OperatorGivesNames (group style attributes n) = IsName n
OperatorGivesNames (ungroup n) = ⊤
OperatorGivesNames (wrap style attributes n) = IsName n
OperatorGivesNames (unwrap n) = ⊤

abbrev mutual
  -- the names that an expression gives to attributes are names, and so are those in its headings, at every depth
  pub GivesNames : Tree → Type 0
  GivesNames (literal l) = ⊤
  GivesNames (name n) = ⊤
  GivesNames (parentheses inner) = GivesNames inner
  GivesNames (prefix op operand) = GivesNames operand
  GivesNames (extract a operand) = GivesNames operand
  GivesNames (restriction operand condition) = GivesNames operand × GivesNames condition
  GivesNames (binary left op right) = GivesNames left × GivesNames right
  GivesNames (compare left op right) = GivesNames left × GivesNames right
  GivesNames (postfix operand op) = GivesNames operand × OperatorGivesNames op
  GivesNames (select ty arguments) = GiveNames arguments
  GivesNames (component rest operand) = GivesNames operand
  GivesNames (measure op operand) = GivesNames operand
  GivesNames (aggregate op operand value) = GivesNames operand × GivesNames value
  GivesNames (relation elements) = GiveNames elements
  GivesNames (headed_relation heading elements) = HaveNames heading × GiveNames elements
  GivesNames (tuple parts) = PartsGiveNames parts
  GivesNames (extend operand parts) = GivesNames operand × PartsGiveNames parts
  GivesNames (extend_setting operand settings) = GivesNames operand × PartsGiveNames settings
  GivesNames (summarize_per operand per summaries) = GivesNames operand × GivesNames per × ItemsGiveNames summaries
  GivesNames (summarize_by operand by summaries) = GivesNames operand × ItemsGiveNames summaries
  GivesNames (choice condition consequent alternative) = GivesNames condition × GivesNames consequent × GivesNames alternative
  GivesNames (binding items result) = PartsGiveNames items × GivesNames result

  pub GiveNames : Trees → Type 0
  GiveNames none = ⊤
  GiveNames (more first rest) = GivesNames first × GiveNames rest

  pub PartsGiveNames : NamedTrees → Type 0
  PartsGiveNames none_named = ⊤
  PartsGiveNames (more_named n value rest) = IsName n × GivesNames value × PartsGiveNames rest

  pub ItemsGiveNames : Summaries → Type 0
  ItemsGiveNames no_summaries = ⊤
  ItemsGiveNames (counted n rest) = IsName n × ItemsGiveNames rest
  ItemsGiveNames (summed op value n rest) = GivesNames value × IsName n × ItemsGiveNames rest

-- ---- texts

abbrev pub IsUtf8Literal : Literal → Type 0
IsUtf8Literal (number minus magnitude) = ⊤
IsUtf8Literal (text content) = IsUtf8 content
IsUtf8Literal (truth value) = ⊤
IsUtf8Literal table_dee = ⊤
IsUtf8Literal table_dum = ⊤

abbrev mutual
  pub HasTexts : Tree → Type 0
  HasTexts (literal l) = IsUtf8Literal l
  HasTexts (name n) = ⊤
  HasTexts (parentheses inner) = HasTexts inner
  HasTexts (prefix op operand) = HasTexts operand
  HasTexts (extract a operand) = HasTexts operand
  HasTexts (restriction operand condition) = HasTexts operand × HasTexts condition
  HasTexts (binary left op right) = HasTexts left × HasTexts right
  HasTexts (compare left op right) = HasTexts left × HasTexts right
  HasTexts (postfix operand op) = HasTexts operand
  HasTexts (select ty arguments) = HaveTexts arguments
  HasTexts (component rest operand) = HasTexts operand
  HasTexts (measure op operand) = HasTexts operand
  HasTexts (aggregate op operand value) = HasTexts operand × HasTexts value
  HasTexts (relation elements) = HaveTexts elements
  HasTexts (headed_relation heading elements) = HaveTexts elements
  HasTexts (tuple parts) = PartsHaveTexts parts
  HasTexts (extend operand parts) = HasTexts operand × PartsHaveTexts parts
  HasTexts (extend_setting operand settings) = HasTexts operand × PartsHaveTexts settings
  HasTexts (summarize_per operand per items) = HasTexts operand × HasTexts per × ItemsHaveTexts items
  HasTexts (summarize_by operand by items) = HasTexts operand × ItemsHaveTexts items
  HasTexts (choice condition consequent alternative) = HasTexts condition × HasTexts consequent × HasTexts alternative
  HasTexts (binding items result) = PartsHaveTexts items × HasTexts result

  pub HaveTexts : Trees → Type 0
  HaveTexts none = ⊤
  HaveTexts (more first rest) = HasTexts first × HaveTexts rest

  pub PartsHaveTexts : NamedTrees → Type 0
  PartsHaveTexts none_named = ⊤
  PartsHaveTexts (more_named n value rest) = HasTexts value × PartsHaveTexts rest

  pub ItemsHaveTexts : Summaries → Type 0
  ItemsHaveTexts no_summaries = ⊤
  ItemsHaveTexts (counted n rest) = ItemsHaveTexts rest
  ItemsHaveTexts (summed op value n rest) = HasTexts value × ItemsHaveTexts rest

-- the names that an expression gives are names, and its texts are UTF-8
abbrev pub IsWritten : Tree → Type 0
IsWritten e = GivesNames e × HasTexts e
