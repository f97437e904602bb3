-- The type of an expression depends on the types and relvars alone that it mentions.
use Rattle.std.proofs.Common.{◌≡◌, ◌∷◌, ◌++◌, ℕ, Bool, true, false, List, [], refl, subst}
use Rattle.std.specs.Prelude.{if◌then◌else◌, IsTrue, ⊤}
use Rattle.std.proofs.lemmas.List.{append_assoc}
use Rattle.std.specs.List.{AllByRecursion}
use Rattle.std.proofs.lemmas.List.Elements.{Contains-append_left, Contains-append_right}
use Rattle.td_check.specs.model.Mentions.{in_tuples, relvars_in, relvars_in_all, relvars_in_items, relvars_in_named, relvars_where_bound, types_in, types_in_all, types_in_items, types_in_named, types_named_in}
use Rattle.td_check.specs.model.OperatorTypes.{count_item, aggregate_item, aggregate_type, choice_type, comparison_type, component_type, extension_type, extracted_type, headed_type, listed_type, measure_type, misfit, named_part, operator_type, per_heading, postfix_type, prefix_type, selector_type, setting_type, summary_type, tuple_type, restriction_type}
use Rattle.td_check.specs.model.Scopes.{Scope, bound_to, entered_with}
use Rattle.td_check.specs.laws.StaticLaws.{AgreeAt, AgreeOn, UsersAllIn, UsersIn}
use Rattle.td_check.specs.model.StaticTypes.{items_of, literal_type, named_types, type_of, type_where_bound, types_of}
use Rattle.td_tree.specs.declared.operator.Operator.{Operator}
use Rattle.td_tree.specs.model.Outcomes.{Outcome, Valued, with_both}
use Rattle.td_tree.specs.model.Trees.{Literal, number, text, truth, table_dee, table_dum, Renaming, Postfix, project, rename, group, ungroup, wrap, unwrap, Tree, literal, name, parentheses, prefix, extract, restriction, binary, compare, postfix, select, component, measure, aggregate, relation, headed_relation, tuple, extend, extend_setting, summarize_per, summarize_by, choice, binding, Trees, none, more, NamedTrees, none_named, more_named, Summaries, no_summaries, counted, summed}
use Rattle.td_types.specs.model.Headings.{has_name}
use Rattle.td_types.specs.model.Types.{Attribute, Attrs, Heading, Type', pack, unpack}
use Rattle.td_types.specs.model.Types as types
use Rattle.td_types.proofs.OutcomeLaws.{valued_is}
use Rattle.td_check.proofs.AgreementLaws.{Mentioned, agree_entered, component_follows, heading_follows, name_carried, one_is, selector_follows}
use Rattle.td_check.proofs.CarriedLaws.{Carries, Each, carries_after, carries_behind, carries_both, carries_with, carries_within, follows_itself}
use Rattle.td_check.proofs.OperatorLaws.{Fits, IsClosed, ItemFits, NewNames, aggregate_gives, choice_gives, comparison_gives, extension_gives, extracted_gives, headed_gives, listed_gives, measure_gives, operator_gives, part_gives, per_gives, postfix_gives, prefix_gives, setting_gives, summary_gives, tuple_gives, restricted_gives}
use Rattle.td_check.proofs.SummaryLaws.{Both, Items, items_carried, summary_by, summary_per}
use Rattle.td_check.proofs.UserTypeLaws.{users_closed, users_unpacked}

first_of : (R : List ℕ → Type 0) (xs ys : List (List ℕ)) → Each R (xs ++ ys) → Each R xs
first_of R xs ys all n c = all n (Contains-append_left xs ys n c)

rest_of : (R : List ℕ → Type 0) (xs ys : List (List ℕ)) → Each R (xs ++ ys) → Each R ys
rest_of R xs ys all n c = all n (Contains-append_right xs ys n c)

module _ (among : List ℕ → Bool) where
  abbrev G : Type' → Type 0
  G = UsersIn among

  abbrev H : Heading → Type 0
  H h = UsersAllIn among (pack h)

  abbrev closed : IsClosed (λ _. ⊤) G H
  closed = users_closed among

  abbrev Attributes' : List Attribute → Type 0
  Attributes' = AllByRecursion (Fits closed)

  abbrev Items' : Items → Type 0
  Items' = AllByRecursion (ItemFits closed)

  abbrev Known : Scope → Scope → List (List ℕ) → Type 0
  Known first second = Each (AgreeAt among first second)

  abbrev CarriesType : Scope → Scope → Tree → Type 0
  CarriesType first second e = Carries G (type_of first e) (type_of second e) (relvars_in first e) (relvars_in second e)

  literal_users : (l : Literal) → G (literal_type l)
  literal_users (number minus magnitude) = tt
  literal_users (text content) = tt
  literal_users (truth value) = tt
  literal_users table_dee = tt
  literal_users table_dum = tt

  within : (first second : Scope) → AgreeOn among first second → (xs : Attrs) → UsersAllIn among xs
      → AgreeOn among (entered_with (unpack xs) first) (entered_with (unpack xs) second)
  within first second a xs u = agree_entered among first second a (unpack xs) (users_unpacked among xs u)

  first_known : (first second : Scope) (l m : List (List ℕ)) → Known first second (l ++ m) → Known first second l
  first_known first second = first_of (AgreeAt among first second)

  rest_known : (first second : Scope) (l m : List (List ℕ)) → Known first second (l ++ m) → Known first second m
  rest_known first second = rest_of (AgreeAt among first second)

  -- a test that the name of a type passes
  abbrev Passes : List ℕ → Type 0
  Passes n = IsTrue (among n)

  literal_is : (l : Literal) (t : Type') → Valued (literal_type l) ≡ Valued t → G t
  literal_is l t e = subst G (valued_is (literal_type l) t e) (literal_users l)

  nothing_is : (ts : List Type') → Valued [] ≡ Valued ts → AllByRecursion G ts
  nothing_is ts e = subst (AllByRecursion G) (valued_is [] ts e) tt

  no_parts_are : (xs : List Attribute) → Valued [] ≡ Valued xs → Attributes' xs
  no_parts_are xs e = subst Attributes' (valued_is [] xs e) tt

  no_items_are : (xs : Items) → Valued [] ≡ Valued xs → Items' xs
  no_items_are xs e = subst Items' (valued_is [] xs e) tt

  no_new : (rs : List Renaming) → AllByRecursion (λ _. ⊤) rs
  no_new [] = tt
  no_new (r ∷ rs) = (tt, no_new rs)

  any_names : (op : Postfix) → NewNames closed op
  any_names (project attributes) = tt
  any_names (rename style renamings) = no_new renamings
  any_names (group style attributes n) = tt
  any_names (ungroup n) = tt
  any_names (wrap style attributes n) = tt
  any_names (unwrap n) = tt

  module _ (first second : Scope) (a : AgreeOn among first second) where
    -- ---- operators between two operands

    -- what is asked of an operand
    abbrev Part : Tree → Type 0
    Part e = (s t : Scope) → AgreeOn among s t → Known s t (relvars_in s e) → CarriesType s t e

    plain_carried : (op : Operator) (left right : Tree) → Part left → Part right
        → Known first second (relvars_in first left ++ relvars_in first right)
        → Carries G (with_both (type_of first left) (type_of first right) (operator_type op))
        (with_both (type_of second left) (type_of second right) (operator_type op))
        (relvars_in first left ++ relvars_in first right) (relvars_in second left ++ relvars_in second right)
    plain_carried op left right l r k =
        carries_both G G G _ _ _ _ _ _ _ _ _ _
        (l first second a (first_known first second (relvars_in first left) (relvars_in first right) k))
        (r first second a (rest_known first second (relvars_in first left) (relvars_in first right) k))
        (λ s t u v. follows_itself G (operator_type op s t) (operator_gives closed op s t u v))

    restriction_carried : (operand condition : Tree) → Part operand → Part condition
        → Known first second (relvars_in first (restriction operand condition)) → CarriesType first second (restriction operand condition)
    restriction_carried operand condition l r k =
        carries_within first second G (AgreeAt among first second) (λ s. relvars_in s condition) G _ _
        (type_of first operand) (type_of second operand) (relvars_in first operand) (relvars_in second operand)
        (l first second a (first_known first second (relvars_in first operand) _ k))
        (rest_known first second (relvars_in first operand) _ k)
        (λ xs u inside. carries_with G G _ _ (restriction_type (types.relation xs)) (restriction_type (types.relation xs)) _ _
        (r _ _ (within first second a xs u) inside)
        (λ t v. follows_itself G (restriction_type (types.relation xs) t) (restricted_gives closed (types.relation xs) t u)))

  -- ---- behind WITH's items

  unless_twice : (twice : Bool) (o p : Outcome Type') (l m : List (List ℕ)) → Carries G o p l m
      → Carries G (if twice then misfit else o) (if twice then misfit else p) l m
  unless_twice true o p l m c = record { carried = λ t e. absurd (cc) }
  unless_twice false o p l m c = c

  -- what is asked of what stands there: its outcome and its relvars, in two scopes
  abbrev Inside : List (List ℕ) → (Scope → Outcome Type') → (Scope → List (List ℕ)) → Type 0
  Inside names inside relvars =
      (s t : Scope) → AgreeOn among s t → Mentioned among names → Known s t (relvars s) → Carries G (inside s) (inside t) (relvars s) (relvars t)

  bound_agree : (first second : Scope) → AgreeOn among first second → (n : List ℕ) (t : Type') → G t → AgreeOn among (bound_to n t first) (bound_to n t second)
  bound_agree first second a n t u = agree_entered among first second a ((n, t) ∷ []) (u, tt)

  -- ---- every expression

  mutual
    pub carried : (e : Tree) (first second : Scope) → AgreeOn among first second → Mentioned among (types_in e)
        → Known first second (relvars_in first e) → CarriesType first second e
    carried (literal l) first second a m k = record { carried = λ t e. (e, literal_is l t e, refl) }
    carried (name n) first second a m k = name_carried among first second a n k
    carried (parentheses inner) first second a m k = carried inner first second a m k
    carried (prefix op operand) first second a m k =
        carries_with G G _ _ (prefix_type op) (prefix_type op) _ _ (carried operand first second a m k)
        (λ t u. follows_itself G (prefix_type op t) (prefix_gives closed op t u))
    carried (extract n operand) first second a m k =
        carries_with G G _ _ (extracted_type n) (extracted_type n) _ _ (carried operand first second a m k)
        (λ t u. follows_itself G (extracted_type n t) (extracted_gives closed n t u))
    carried (restriction operand condition) first second a m k =
        restriction_carried first second a operand condition
        (λ s t b. carried operand s t b (first_of Passes (types_in operand) (types_in condition) m))
        (λ s t b. carried condition s t b (rest_of Passes (types_in operand) (types_in condition) m)) k
    carried (binary left op right) first second a m k =
        plain_carried first second a op left right
        (λ s t b. carried left s t b (first_of Passes (types_in left) (types_in right) m))
        (λ s t b. carried right s t b (rest_of Passes (types_in left) (types_in right) m)) k
    carried (compare left op right) first second a m k =
        carries_both G G G _ _ _ _ (comparison_type op) (comparison_type op) _ _ _ _
        (carried left first second a (first_of Passes (types_in left) (types_in right) m) (first_known first second (relvars_in first left) (relvars_in first right) k))
        (carried right first second a (rest_of Passes (types_in left) (types_in right) m) (rest_known first second (relvars_in first left) (relvars_in first right) k))
        (λ s t u v. follows_itself G (comparison_type op s t) (comparison_gives closed op s t))
    carried (postfix operand op) first second a m k =
        carries_with G G _ _ (postfix_type op) (postfix_type op) _ _ (carried operand first second a m k)
        (λ t u. follows_itself G (postfix_type op t) (postfix_gives closed op t (any_names op) u))
    carried (select ty arguments) first second a m k =
        carries_with (AllByRecursion G) G _ _ (selector_type first.types ty) (selector_type second.types ty) _ _
        (all_carried arguments first second a (rest_of Passes (ty ∷ []) (types_in_all arguments) m) k)
        (λ ts u. selector_follows among first second a ty (first_of Passes (ty ∷ []) (types_in_all arguments) m ty (one_is ty)) ts)
    carried (component rest operand) first second a m k =
        carries_with G G _ _ (component_type first.types rest) (component_type second.types rest) _ _ (carried operand first second a m k)
        (component_follows among first second a rest)
    carried (measure op operand) first second a m k =
        carries_with G G _ _ (measure_type op) (measure_type op) _ _ (carried operand first second a m k)
        (λ t u. follows_itself G (measure_type op t) (measure_gives closed op t u))
    carried (aggregate op operand value) first second a m k =
        carries_within first second G (AgreeAt among first second) (λ s. relvars_in s value) G _ _
        (type_of first operand) (type_of second operand) (relvars_in first operand) (relvars_in second operand)
        (carried operand first second a (first_of Passes (types_in operand) (types_in value) m) (first_known first second (relvars_in first operand) _ k))
        (rest_known first second (relvars_in first operand) _ k)
        (λ xs u inside. carries_with G G _ _ (aggregate_type op) (aggregate_type op) _ _
        (carried value _ _ (within first second a xs u) (rest_of Passes (types_in operand) (types_in value) m) inside)
        (λ t v. follows_itself G (aggregate_type op t) (aggregate_gives closed op t v)))
    carried (relation elements) first second a m k =
        carries_with (AllByRecursion G) G _ _ listed_type listed_type _ _ (all_carried elements first second a m k)
        (λ ts u. follows_itself G (listed_type ts) (listed_gives closed ts u))
    carried (headed_relation heading elements) first second a m k =
        carries_after H (AllByRecursion G) G _ _ _ _ headed_type headed_type _ _
        (heading_follows among first second a heading (first_of Passes (types_named_in heading) (types_in_all elements) m))
        (all_carried elements first second a (rest_of Passes (types_named_in heading) (types_in_all elements) m) k)
        (λ h ts u v. follows_itself G (headed_type h ts) (headed_gives closed h ts u))
    carried (tuple parts) first second a m k =
        carries_with Attributes' G _ _ tuple_type tuple_type _ _ (named_carried parts first second a m k)
        (λ xs u. follows_itself G (tuple_type xs) (tuple_gives closed xs u))
    carried (extend operand parts) first second a m k =
        carries_within first second G (AgreeAt among first second) (λ s. relvars_in_named s parts) G _ _
        (type_of first operand) (type_of second operand) (relvars_in first operand) (relvars_in second operand)
        (carried operand first second a (first_of Passes (types_in operand) (types_in_named parts) m) (first_known first second (relvars_in first operand) _ k))
        (rest_known first second (relvars_in first operand) _ k)
        (λ xs u inside. carries_with Attributes' G _ _ (extension_type (unpack xs)) (extension_type (unpack xs)) _ _
        (named_carried parts _ _ (within first second a xs u) (rest_of Passes (types_in operand) (types_in_named parts) m) inside)
        (λ ts v. follows_itself G (extension_type (unpack xs) ts) (extension_gives closed (unpack xs) ts (users_unpacked among xs u) v)))
    carried (extend_setting operand settings) first second a m k =
        carries_within first second G (AgreeAt among first second) (λ s. relvars_in_named s settings) G _ _
        (type_of first operand) (type_of second operand) (relvars_in first operand) (relvars_in second operand)
        (carried operand first second a (first_of Passes (types_in operand) (types_in_named settings) m) (first_known first second (relvars_in first operand) _ k))
        (rest_known first second (relvars_in first operand) _ k)
        (λ xs u inside. carries_with Attributes' G _ _ (setting_type (unpack xs)) (setting_type (unpack xs)) _ _
        (named_carried settings _ _ (within first second a xs u) (rest_of Passes (types_in operand) (types_in_named settings) m) inside)
        (λ ts v. follows_itself G (setting_type (unpack xs) ts) (setting_gives closed (unpack xs) ts (users_unpacked among xs u) v)))
    carried (summarize_per operand per summaries) first second a m k =
        let m_rest = rest_of Passes (types_in operand) (types_in_items summaries ++ types_in per) m in
        let k_rest = rest_known first second (relvars_in first operand) _ k in
        summary_per (Both H Items') G _ _ _ _ _ _
        (items_carried first second G (AgreeAt among first second) (λ s. relvars_in_items s summaries) H (users_unpacked among) Items' _ _
        (type_of first operand) (type_of second operand) (relvars_in first operand) (relvars_in second operand)
        (carried operand first second a (first_of Passes (types_in operand) (types_in_items summaries ++ types_in per) m) (first_known first second (relvars_in first operand) _ k))
        (first_known first second (relvars_in_items (in_tuples first (type_of first operand)) summaries) _ k_rest)
        (λ xs u inside. items_carried_in summaries _ _ (within first second a xs u) (first_of Passes (types_in_items summaries) (types_in per) m_rest) inside))
        (type_of first per) (type_of second per) (relvars_in first per) (relvars_in second per)
        (carried per first second a (rest_of Passes (types_in_items summaries) (types_in per) m_rest) (rest_known first second (relvars_in_items (in_tuples first (type_of first operand)) summaries) _ k_rest))
        (λ both t. summary_type (per_heading both.0 t) both.1)
        (λ both t u v. follows_itself G (summary_type (per_heading both.0 t) both.1) (summary_gives closed (per_heading both.0 t) both.1 (per_gives closed both.0 t v) u.1))
    carried (summarize_by operand by summaries) first second a m k =
        summary_by (Both H Items') G _ _ _ _ _ _
        (items_carried first second G (AgreeAt among first second) (λ s. relvars_in_items s summaries) H (users_unpacked among) Items' _ _
        (type_of first operand) (type_of second operand) (relvars_in first operand) (relvars_in second operand)
        (carried operand first second a (first_of Passes (types_in operand) (types_in_items summaries) m) (first_known first second (relvars_in first operand) _ k))
        (rest_known first second (relvars_in first operand) _ k)
        (λ xs u inside. items_carried_in summaries _ _ (within first second a xs u) (rest_of Passes (types_in operand) (types_in_items summaries) m) inside))
        (λ both. summary_type (named_part by both.0) both.1)
        (λ both u. follows_itself G (summary_type (named_part by both.0) both.1) (summary_gives closed (named_part by both.0) both.1 (part_gives closed by both.0 u.0) u.1))
    carried (choice condition consequent alternative) first second a m k =
        let m_rest = rest_of Passes (types_in condition) (types_in consequent ++ types_in alternative) m in
        let k_rest = rest_known first second (relvars_in first condition) (relvars_in first consequent ++ relvars_in first alternative) k in
        carries_both G (λ both. G both.0 × G both.1) G _ _ _ _ (λ c both. choice_type c both.0 both.1) (λ c both. choice_type c both.0 both.1) _ _ _ _
        (carried condition first second a (first_of Passes (types_in condition) (types_in consequent ++ types_in alternative) m)
        (first_known first second (relvars_in first condition) (relvars_in first consequent ++ relvars_in first alternative) k))
        (carries_both G G (λ both. G both.0 × G both.1) _ _ _ _ (λ s t. Valued (s, t)) (λ s t. Valued (s, t)) _ _ _ _
        (carried consequent first second a (first_of Passes (types_in consequent) (types_in alternative) m_rest)
        (first_known first second (relvars_in first consequent) (relvars_in first alternative) k_rest))
        (carried alternative first second a (rest_of Passes (types_in consequent) (types_in alternative) m_rest)
        (rest_known first second (relvars_in first consequent) (relvars_in first alternative) k_rest))
        (λ s t u v. follows_itself (λ both. G both.0 × G both.1) (Valued (s, t)) (u, v)))
        (λ c both u v. follows_itself G (choice_type c both.0 both.1) (choice_gives closed c both.0 both.1 v.0))
    carried (binding items result) first second a m k =
        bound_carried items [] first second a (types_in result) m (λ s. type_of s result) (λ s. relvars_in s result) k (carried result)

    bound_carried : (items : NamedTrees) (before : List (List ℕ)) (first second : Scope) → AgreeOn among first second
        → (names : List (List ℕ)) → Mentioned among (types_in_named items ++ names)
        → (inside : Scope → Outcome Type') (relvars : Scope → List (List ℕ)) → Known first second (relvars_where_bound first items relvars)
        → Inside names inside relvars
        → Carries G (type_where_bound before first items inside) (type_where_bound before second items inside)
        (relvars_where_bound first items relvars) (relvars_where_bound second items relvars)
    bound_carried none_named before first second a names m inside relvars k there = there first second a m k
    bound_carried (more_named n e es) before first second a names m inside relvars k there =
        let m_all = subst (Mentioned among) (append_assoc (types_in e) (types_in_named es) names) m in
        carries_behind first second G (AgreeAt among first second) (λ s. relvars_where_bound s es relvars) n G _ _
        (type_of first e) (type_of second e) (relvars_in first e) (relvars_in second e)
        (carried e first second a (first_of Passes (types_in e) (types_in_named es ++ names) m_all) (first_known first second (relvars_in first e) _ k))
        (rest_known first second (relvars_in first e) _ k)
        (λ t u known. unless_twice (has_name n before) _ _ _ _
        (bound_carried es (n ∷ before) (bound_to n t first) (bound_to n t second) (bound_agree first second a n t u) names
        (rest_of Passes (types_in e) (types_in_named es ++ names) m_all) inside relvars known there))

    pub all_carried : (es : Trees) (first second : Scope) → AgreeOn among first second → Mentioned among (types_in_all es)
        → Known first second (relvars_in_all first es)
        → Carries (AllByRecursion G) (types_of first es) (types_of second es) (relvars_in_all first es) (relvars_in_all second es)
    all_carried none first second a m k = record { carried = λ ts e. (e, nothing_is ts e, refl) }
    all_carried (more e es) first second a m k =
        carries_both G (AllByRecursion G) (AllByRecursion G) _ _ _ _ (λ t ts. Valued (t ∷ ts)) (λ t ts. Valued (t ∷ ts)) _ _ _ _
        (carried e first second a (first_of Passes (types_in e) (types_in_all es) m) (first_known first second (relvars_in first e) (relvars_in_all first es) k))
        (all_carried es first second a (rest_of Passes (types_in e) (types_in_all es) m) (rest_known first second (relvars_in first e) (relvars_in_all first es) k))
        (λ t ts u v. follows_itself (AllByRecursion G) (Valued (t ∷ ts)) (u, v))

    pub named_carried : (parts : NamedTrees) (first second : Scope) → AgreeOn among first second → Mentioned among (types_in_named parts)
        → Known first second (relvars_in_named first parts)
        → Carries Attributes' (named_types first parts) (named_types second parts) (relvars_in_named first parts) (relvars_in_named second parts)
    named_carried none_named first second a m k = record { carried = λ ts e. (e, no_parts_are ts e, refl) }
    named_carried (more_named n e es) first second a m k =
        carries_both G Attributes' Attributes' _ _ _ _ (λ t ts. Valued ((n, t) ∷ ts)) (λ t ts. Valued ((n, t) ∷ ts)) _ _ _ _
        (carried e first second a (first_of Passes (types_in e) (types_in_named es) m) (first_known first second (relvars_in first e) (relvars_in_named first es) k))
        (named_carried es first second a (rest_of Passes (types_in e) (types_in_named es) m) (rest_known first second (relvars_in first e) (relvars_in_named first es) k))
        (λ t ts u v. follows_itself Attributes' (Valued ((n, t) ∷ ts)) ((tt, u), v))

    pub items_carried_in : (items : Summaries) (first second : Scope) → AgreeOn among first second → Mentioned among (types_in_items items)
        → Known first second (relvars_in_items first items)
        → Carries Items' (items_of first items) (items_of second items) (relvars_in_items first items) (relvars_in_items second items)
    items_carried_in no_summaries first second a m k = record { carried = λ ts e. (e, no_items_are ts e, refl) }
    items_carried_in (counted n rest) first second a m k =
        carries_with Items' Items' _ _ (λ items. Valued ((n, count_item) ∷ items)) (λ items. Valued ((n, count_item) ∷ items)) _ _
        (items_carried_in rest first second a m k) (λ items u. follows_itself Items' (Valued ((n, count_item) ∷ items)) (tt, u))
    items_carried_in (summed op e n rest) first second a m k =
        carries_both G Items' Items' _ _ _ _ (λ t items. Valued ((n, aggregate_item op t) ∷ items)) (λ t items. Valued ((n, aggregate_item op t) ∷ items)) _ _ _ _
        (carried e first second a (first_of Passes (types_in e) (types_in_items rest) m) (first_known first second (relvars_in first e) (relvars_in_items first rest) k))
        (items_carried_in rest first second a (rest_of Passes (types_in e) (types_in_items rest) m) (rest_known first second (relvars_in first e) (relvars_in_items first rest) k))
        (λ t items u v. follows_itself Items' (Valued ((n, aggregate_item op t) ∷ items)) ((tt, u), v))
