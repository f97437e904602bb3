-- The names that stand in the parts of an expression.
use Rattle.std.proofs.Common.{◌≡◌, ◌∙◌, ◌∷◌, ◌++◌, ◌+◌, ◌<◌, ◌≤◌, ◌⊎◌, inl, inr, ℕ, Bool, true, false, List, [], ap, arith, get_or, length, refl, subst, sym, take}
use Rattle.std.specs.Global.{Box, Vec}
use Rattle.std.specs.Prelude.{if◌then◌else◌, is_some}
use Rattle.std.specs.List.{Contains}
use Rattle.std.proofs.lemmas.List.{append-nil, append_assoc, take_all}
use Rattle.std.proofs.lemmas.List.Elements.{Contains-append_cases, Contains-append_left, Contains-append_right}
use Rattle.td_check.specs.model.Mentions.{behind_item, in_tuples, mentioned_by_name, relvars_in, relvars_in_all, relvars_in_items, relvars_in_named, relvars_where_bound}
use Rattle.td_check.specs.model.Scopes.{Scope, innermost, known_relvar}
use Rattle.td_check.specs.laws.StaticLaws.{RelvarsAreNamed}
use Rattle.td_check.specs.model.StaticTypes.{type_of}
use Rattle.td_check.specs.laws.WrittenNames.{names_in, names_in_all, names_in_items, names_in_named}
use Rattle.td_check.proofs.CheckedLists.{of_each, of_each_last, step_taken}
use Rattle.td_tree.specs.declared.expression.Expr.{Expr}
use Rattle.td_tree.specs.declared.expression.Expr.TheVariants as x
use Rattle.td_tree.specs.declared.expression.NamedExpr.{NamedExpr}
use Rattle.td_tree.specs.declared.expression.Summary.{Summary}
use Rattle.td_tree.specs.declared.expression.Summary.TheVariants as s
use Rattle.td_tree.specs.declared.type_tree.AttributeTree.{AttributeTree}
use Rattle.td_tree.specs.code.TreeViews.{named_view, summaries_view, tree_view, trees_view}
use Rattle.td_tree.specs.model.Trees.{Tree, literal, name, parentheses, prefix, extract, restriction, binary, compare, postfix, select, component, measure, aggregate, relation, headed_relation, tuple, extend, extend_setting, summarize_per, summarize_by, choice, binding, Trees, none, more, NamedTrees, none_named, more_named, Summaries, no_summaries, counted, summed}
use Rattle.td_tree.proofs.code_lemmas.Rows.{extend_is, extend_setting_is, headed_relation_is, relation_is, select_is}

-- ---- one part after another

abbrev pub names_of : Expr → List (List ℕ)
names_of e = names_in (tree_view e)

abbrev pub names_of_part : NamedExpr → List (List ℕ)
names_of_part part = names_in (tree_view part.value)

abbrev pub names_of_item : Summary → List (List ℕ)
names_of_item item = names_in_items (summaries_view (item ∷ []))

pub names_of_all : (xs : List Expr) → of_each names_of xs ≡ names_in_all (trees_view xs)
names_of_all [] = refl
names_of_all (x ∷ xs) = ap (λ ns. names_in (tree_view x) ++ ns) (names_of_all xs)

pub names_of_parts : (xs : List NamedExpr) → of_each names_of_part xs ≡ names_in_named (named_view xs)
names_of_parts [] = refl
names_of_parts (x ∷ xs) = ap (λ ns. names_in (tree_view x.value) ++ ns) (names_of_parts xs)

pub names_of_items : (xs : List Summary) → of_each names_of_item xs ≡ names_in_items (summaries_view xs)
names_of_items [] = refl
names_of_items (s.Count n ∷ xs) = names_of_items xs
names_of_items (s.Of op value n ∷ xs) =
    ap (λ ns. ns ++ of_each names_of_item xs) (append-nil (names_in (tree_view value)))
    ∙ ap (λ ns. names_in (tree_view value) ++ ns) (names_of_items xs)

-- those of an expression that is made of a list
pub names_of_list : (e : Expr) (v : Vec Expr) (es : List Expr)
    → ((n : List ℕ) × (e ≡ x.Select n v)) ⊎ ((e ≡ x.Relation v) ⊎ ((h : Vec AttributeTree) × (e ≡ x.HeadedRelation h v))) → es ≡ v.items
    → names_in_all (trees_view es) ≡ names_in (tree_view e)
names_of_list e v es is same = ap (λ ys. names_in_all (trees_view ys)) same ∙ sym (by_case is)
  where
    by_case : ((n : List ℕ) × (e ≡ x.Select n v)) ⊎ ((e ≡ x.Relation v) ⊎ ((h : Vec AttributeTree) × (e ≡ x.HeadedRelation h v)))
        → names_in (tree_view e) ≡ names_in_all (trees_view v.items)
    by_case (inl (n, f)) = ap (λ w. names_in (tree_view w)) f ∙ ap names_in (select_is n v)
    by_case (inr (inl f)) = ap (λ w. names_in (tree_view w)) f ∙ ap names_in (relation_is v)
    by_case (inr (inr (h, f))) = ap (λ w. names_in (tree_view w)) f ∙ ap names_in (headed_relation_is h v)

-- those of an operand with attributes added or set
pub names_of_extended : (e : Expr) (operand : Box Expr) (parts : Vec NamedExpr) → (e ≡ x.Extend operand parts) ⊎ (e ≡ x.ExtendSetting operand parts)
    → names_in (tree_view e) ≡ names_in (tree_view operand.value) ++ names_in_named (named_view parts.items)
names_of_extended e operand parts (inl f) = ap (λ w. names_in (tree_view w)) f ∙ ap names_in (extend_is operand parts)
names_of_extended e operand parts (inr f) = ap (λ w. names_in (tree_view w)) f ∙ ap names_in (extend_setting_is operand parts)

-- once past one more
pub names_more : {X : Type 0} (f : X → List (List ℕ)) (xs : List X) (i : ℕ) (x : X) → i < length xs → x ≡ get_or xs i x
    → (before now later : List (List ℕ)) → now ≡ before ++ of_each f (take i xs) → later ≡ now ++ f x
    → later ≡ before ++ of_each f (take (i + 1) xs)
names_more f xs i x inside is before now later so_far next =
    step_taken (λ ys. later ≡ before ++ of_each f ys) xs i x inside is
    (next ∙ ap (λ ns. ns ++ f x) so_far ∙ append_assoc before (of_each f (take i xs)) (f x)
    ∙ ap (λ ns. before ++ ns) (sym (of_each_last f (take i xs) x)))

-- once past them all
pub names_past : {X : Type 0} (f : X → List (List ℕ)) (xs : List X) (i : ℕ) → length xs ≤ i → (before now : List (List ℕ))
    → now ≡ before ++ of_each f (take i xs) → now ≡ before ++ of_each f xs
names_past f xs i past before now so_far = so_far ∙ ap (λ ys. before ++ of_each f ys) (take_all i xs past)

-- once past a second part
pub names_behind : (before now later ns ms : List (List ℕ)) → now ≡ before ++ ns → later ≡ now ++ ms → later ≡ before ++ (ns ++ ms)
names_behind before now later ns ms first second = second ∙ ap (λ xs. xs ++ ms) first ∙ append_assoc before ns ms

-- ---- the relvars that are mentioned are among the names

abbrev Within : List (List ℕ) → List (List ℕ) → Type 0
Within rs ns = (n : List ℕ) → Contains rs n → Contains ns n

nothing_within : (ns : List (List ℕ)) → Within [] ns
nothing_within ns n c = absurd (omega (arith, c.1))

all_within : (ns : List (List ℕ)) → Within ns ns
all_within ns n c = c

-- of two parts
both_within : (rs ss ns ms : List (List ℕ)) → Within rs ns → Within ss ms → Within (rs ++ ss) (ns ++ ms)
both_within rs ss ns ms p q n c = by_case (Contains-append_cases rs ss n c)
  where
    by_case : Contains rs n ⊎ Contains ss n → Contains (ns ++ ms) n
    by_case (inl d) = Contains-append_left ns ms n (p n d)
    by_case (inr d) = Contains-append_right ns ms n (q n d)

-- which may be named in another order
turned_within : (rs ss ns ms : List (List ℕ)) → Within rs ns → Within ss ms → Within (rs ++ ss) (ms ++ ns)
turned_within rs ss ns ms p q n c = by_case (Contains-append_cases rs ss n c)
  where
    by_case : Contains rs n ⊎ Contains ss n → Contains (ms ++ ns) n
    by_case (inl d) = Contains-append_right ms ns n (p n d)
    by_case (inr d) = Contains-append_left ms ns n (q n d)

name_within : (scope : Scope) (n : List ℕ) → Within (mentioned_by_name scope n) (n ∷ [])
name_within scope n = by_tests (is_some (innermost n scope.entered)) (is_some (known_relvar scope n))
  where
    by_tests : (b c : Bool) → Within (if b then [] else if c then n ∷ [] else []) (n ∷ [])
    by_tests true c = nothing_within (n ∷ [])
    by_tests false true = all_within (n ∷ [])
    by_tests false false = nothing_within (n ∷ [])

mutual
  named : (e : Tree) (scope : Scope) → Within (relvars_in scope e) (names_in e)
  named (literal l) scope = nothing_within []
  named (name n) scope = name_within scope n
  named (parentheses inner) scope = named inner scope
  named (prefix op operand) scope = named operand scope
  named (extract a operand) scope = named operand scope
  named (restriction operand condition) scope =
      both_within _ _ _ _ (named operand scope) (named condition (in_tuples scope (type_of scope operand)))
  named (binary left op right) scope = both_within _ _ _ _ (named left scope) (named right scope)
  named (compare left op right) scope = both_within _ _ _ _ (named left scope) (named right scope)
  named (postfix operand op) scope = named operand scope
  named (select ty arguments) scope = all_named arguments scope
  named (component rest operand) scope = named operand scope
  named (measure op operand) scope = named operand scope
  named (aggregate op operand value) scope =
      both_within _ _ _ _ (named operand scope) (named value (in_tuples scope (type_of scope operand)))
  named (relation elements) scope = all_named elements scope
  named (headed_relation heading elements) scope = all_named elements scope
  named (tuple parts) scope = parts_named parts scope
  named (extend operand parts) scope =
      both_within _ _ _ _ (named operand scope) (parts_named parts (in_tuples scope (type_of scope operand)))
  named (extend_setting operand settings) scope =
      both_within _ _ _ _ (named operand scope) (parts_named settings (in_tuples scope (type_of scope operand)))
  named (summarize_per operand per summaries) scope =
      both_within _ _ _ _ (named operand scope)
      (turned_within _ _ _ _ (items_named summaries (in_tuples scope (type_of scope operand))) (named per scope))
  named (summarize_by operand by summaries) scope =
      both_within _ _ _ _ (named operand scope) (items_named summaries (in_tuples scope (type_of scope operand)))
  named (choice condition consequent alternative) scope =
      both_within _ _ _ _ (named condition scope) (both_within _ _ _ _ (named consequent scope) (named alternative scope))
  named (binding items result) scope = bound_named items scope (names_in result) (λ t. relvars_in t result) (named result)

  -- in WITH's items, and behind them
  bound_named : (items : NamedTrees) (scope : Scope) (ns : List (List ℕ)) (inside : Scope → List (List ℕ)) → ((t : Scope) → Within (inside t) ns)
      → Within (relvars_where_bound scope items inside) (names_in_named items ++ ns)
  bound_named none_named scope ns inside w = w scope
  bound_named (more_named n e es) scope ns inside w =
      subst (Within (relvars_where_bound scope (more_named n e es) inside)) (sym (append_assoc (names_in e) (names_in_named es) ns))
      (both_within _ _ _ _ (named e scope) (bound_named es (behind_item n (type_of scope e) scope) ns inside w))

  all_named : (es : Trees) (scope : Scope) → Within (relvars_in_all scope es) (names_in_all es)
  all_named none scope = nothing_within []
  all_named (more e es) scope = both_within _ _ _ _ (named e scope) (all_named es scope)

  parts_named : (parts : NamedTrees) (scope : Scope) → Within (relvars_in_named scope parts) (names_in_named parts)
  parts_named none_named scope = nothing_within []
  parts_named (more_named n e es) scope = both_within _ _ _ _ (named e scope) (parts_named es scope)

  items_named : (items : Summaries) (scope : Scope) → Within (relvars_in_items scope items) (names_in_items items)
  items_named no_summaries scope = nothing_within []
  items_named (counted n rest) scope = items_named rest scope
  items_named (summed op e n rest) scope = both_within _ _ _ _ (named e scope) (items_named rest scope)

pub relvars_are_named : RelvarsAreNamed
relvars_are_named scope e = named e scope
