-- Whether an expression cannot fail, by its nodes and by the relvars that it mentions.
use Rattle.std.proofs.Common.{◌≡◌, ◌∙◌, ◌∷◌, ◌++◌, ◌&&◌, ◌||◌, ℕ, Bool, true, false, List, [], Option, Some, None, ◌⊎◌, inl, inr, ap, length, refl, subst, sym}
use Rattle.std.proofs.lemmas.List.{append-nil}
use Rattle.std.proofs.lemmas.List.Folds.{list_all-append}
use Rattle.std.proofs.Math.Bool.{and_assoc}
use Rattle.std.proofs.Math.Dec.{eqb-suc-zero}
use Rattle.std.specs.Bool.{◌==◌}
use Rattle.std.specs.Global.{Box, Vec}
use Rattle.std.specs.Prelude.{if◌then◌else◌, is_some}
use Rattle.td_check.specs.laws.CannotFail.{all_cannot_fail, all_unfailing, cannot_fail, cannot_fail_of, is_no_virtual, items_cannot_fail, measure_cannot_fail, name_cannot_fail, none_fails_where_bound, unfailing, operator_cannot_fail, parts_unfailing, parts_cannot_fail, prefix_cannot_fail, relvar_cannot_fail, relvars_cannot_fail, selector_cannot_fail}
use Rattle.td_check.specs.code.CheckViews.{Names}
use Rattle.td_check.specs.model.Mentions.{behind_item, in_tuples, mentioned_by_name, relvars_in, relvars_in_all, relvars_in_named, relvars_where_bound, types_in}
use Rattle.td_check.specs.model.Scopes.{KnownRelvar, Scope, innermost, relvar_in}
use Rattle.td_check.specs.model.StaticTypes.{type_of}
use Rattle.td_tree.specs.declared.expression.Expr.{Expr}
use Rattle.td_tree.specs.declared.expression.Expr.TheVariants as x
use Rattle.td_tree.specs.declared.expression.NamedExpr.{NamedExpr}
use Rattle.td_tree.specs.declared.expression.Summary.{Summary}
use Rattle.td_tree.specs.declared.expression.Summary.TheVariants as s
use Rattle.td_tree.specs.declared.type_tree.AttributeTree.{AttributeTree}
use Rattle.td_tree.specs.model.Outcomes.{Outcome, Valued, Refused, with_value}
use Rattle.td_tree.specs.code.TreeViews.{named_view, summaries_view, tree_view, trees_view}
use Rattle.td_tree.specs.model.Trees.{Tree, literal, name, parentheses, prefix, extract, restriction, binary, compare, postfix, select, component, measure, aggregate, relation, headed_relation, tuple, extend, extend_setting, summarize_per, summarize_by, choice, binding, Trees, none, more, NamedTrees, none_named, more_named, no_summaries, counted, summed}
use Rattle.td_tree.proofs.code_lemmas.Rows.{extend_is, extend_setting_is, headed_relation_is, relation_is}
use Rattle.td_types.proofs.OutcomeLaws.{valued_is}
use Rattle.td_types.specs.model.TypeLists.{DeclaredType}
use Rattle.td_types.specs.model.Types.{Type'}
use Rattle.td_types.specs.model.Types as types

and_true : (b : Bool) → b ≡ (b && true)
and_true true = refl
and_true false = refl

turned : (n v m w : Bool) → ((n && v) && (m && w)) ≡ ((n && m) && (v && w))
turned true v true w = refl
turned true true false w = refl
turned true false false w = refl
turned false v m w = refl

-- ---- a test as the code asks it: of a part behind another

pub when_true : (a x b : Bool) → a ≡ true → a ≡ x → b ≡ (x && b)
when_true a x b t e = ap (λ y. y && b) (sym t ∙ e)

pub when_false : (a x b : Bool) → a ≡ false → a ≡ x → a ≡ (x && b)
when_false a x b f e = f ∙ ap (λ y. y && b) (sym f ∙ e)

-- ---- lists

pub nothing_added : (xs : List Summary) → (length xs == 0) ≡ items_cannot_fail (summaries_view xs)
nothing_added [] = refl
nothing_added (s.Count n ∷ xs) = eqb-suc-zero (length xs)
nothing_added (s.Of op value n ∷ xs) = eqb-suc-zero (length xs)

-- of a relation with a heading, or without one
pub elements_unfailing : (ds : List DeclaredType) (e : Expr) (v : Vec Expr) (es : List Expr)
    → (e ≡ x.Relation v) ⊎ ((h : Vec AttributeTree) × (e ≡ x.HeadedRelation h v)) → es ≡ v.items
    → all_unfailing ds (trees_view es) ≡ unfailing ds (tree_view e)
elements_unfailing ds e v es is same = ap (λ ys. all_unfailing ds (trees_view ys)) same ∙ sym (by_case is)
  where
    by_case : (e ≡ x.Relation v) ⊎ ((h : Vec AttributeTree) × (e ≡ x.HeadedRelation h v)) → unfailing ds (tree_view e) ≡ all_unfailing ds (trees_view v.items)
    by_case (inl f) = ap (λ w. unfailing ds (tree_view w)) f ∙ ap (unfailing ds) (relation_is v)
    by_case (inr (h, f)) = ap (λ w. unfailing ds (tree_view w)) f ∙ ap (unfailing ds) (headed_relation_is h v)

-- of an operand with attributes added or set
pub extended_unfailing : (ds : List DeclaredType) (e : Expr) (operand : Box Expr) (parts : Vec NamedExpr)
    → (e ≡ x.Extend operand parts) ⊎ (e ≡ x.ExtendSetting operand parts)
    → unfailing ds (tree_view e) ≡ (unfailing ds (tree_view operand.value) && parts_unfailing ds (named_view parts.items))
extended_unfailing ds e operand parts (inl f) = ap (λ w. unfailing ds (tree_view w)) f ∙ ap (unfailing ds) (extend_is operand parts)
extended_unfailing ds e operand parts (inr f) = ap (λ w. unfailing ds (tree_view w)) f ∙ ap (unfailing ds) (extend_setting_is operand parts)

-- ---- parts

-- a test is one of nodes and one of relvars
abbrev IsOfParts : List KnownRelvar → Bool → Bool → List (List ℕ) → Type 0
IsOfParts relvars whole nodes names = whole ≡ (nodes && relvars_cannot_fail relvars names)

-- with a test of the node itself
with_test : (relvars : List KnownRelvar) (test whole nodes : Bool) (names : List (List ℕ)) → IsOfParts relvars whole nodes names
    → IsOfParts relvars (test && whole) (test && nodes) names
with_test relvars test whole nodes names e =
    ap (λ b. test && b) e ∙ sym (and_assoc test nodes (relvars_cannot_fail relvars names))

-- of two operands
of_both : (relvars : List KnownRelvar) (a b n m : Bool) (ns ms : List (List ℕ)) → IsOfParts relvars a n ns → IsOfParts relvars b m ms
    → IsOfParts relvars (a && b) (n && m) (ns ++ ms)
of_both relvars a b n m ns ms p q =
    (λ i. p i && q i) ∙ turned n (relvars_cannot_fail relvars ns) m (relvars_cannot_fail relvars ms)
    ∙ ap (λ r. (n && m) && r) (sym (list_all-append (relvar_cannot_fail relvars) ns ms))

-- what is known in tuples beside attributes is what is known without
in_hand : (P : List DeclaredType → List KnownRelvar → Type 0) (s : Scope) (o : Outcome Type') → P (in_tuples s o).types (in_tuples s o).relvars
    → P s.types s.relvars
in_hand P s (Valued types.boolean) p = p
in_hand P s (Valued types.integer) p = p
in_hand P s (Valued types.char) p = p
in_hand P s (Valued (types.user n)) p = p
in_hand P s (Valued (types.tuple xs)) p = p
in_hand P s (Valued (types.relation xs)) p = p
in_hand P s (Refused cs) p = p

-- and so is what is known behind an item of WITH
behind : (P : List DeclaredType → List KnownRelvar → Type 0) (n : List ℕ) (s : Scope) (o : Outcome Type')
    → P (behind_item n o s).types (behind_item n o s).relvars → P s.types s.relvars
behind P n s (Valued t) p = p
behind P n s (Refused cs) p = p

of_name : (s : Scope) (n : List ℕ) → IsOfParts s.relvars (name_cannot_fail s n) true (mentioned_by_name s n)
of_name s n = by_attribute (innermost n s.entered)
  where
    by_relvar : (k : Option KnownRelvar) → relvar_in n s.relvars ≡ k
        → is_no_virtual k ≡ relvars_cannot_fail s.relvars (if is_some k then n ∷ [] else [])
    by_relvar None e = refl
    by_relvar (Some r) e = and_true (is_no_virtual (Some r)) ∙ ap (λ k. is_no_virtual k && true) (sym e)

    by_attribute : (i : Option Type') → (is_some i || is_no_virtual (relvar_in n s.relvars))
        ≡ relvars_cannot_fail s.relvars (if is_some i then [] else if is_some (relvar_in n s.relvars) then n ∷ [] else [])
    by_attribute (Some t) = refl
    by_attribute None = by_relvar (relvar_in n s.relvars) refl

mutual
  -- it cannot fail where none of its nodes may, and no relvar that it mentions is virtual
  pub of_parts : (e : Tree) (s : Scope) → IsOfParts s.relvars (cannot_fail s e) (unfailing s.types e) (relvars_in s e)
  of_parts (literal l) s = refl
  of_parts (name n) s = of_name s n
  of_parts (parentheses inner) s = of_parts inner s
  of_parts (prefix op operand) s = with_test s.relvars (prefix_cannot_fail op) _ _ _ (of_parts operand s)
  of_parts (extract a operand) s = of_parts operand s
  of_parts (restriction operand condition) s =
      of_both s.relvars _ _ _ _ _ _ (of_parts operand s)
      (in_hand (λ ts rs. IsOfParts rs (cannot_fail (in_tuples s (type_of s operand)) condition) (unfailing ts condition) (relvars_in (in_tuples s (type_of s operand)) condition))
      s (type_of s operand) (of_parts condition (in_tuples s (type_of s operand))))
  of_parts (binary left op right) s =
      with_test s.relvars (operator_cannot_fail op) _ _ _ (of_both s.relvars _ _ _ _ _ _ (of_parts left s) (of_parts right s))
  of_parts (compare left op right) s = of_both s.relvars _ _ _ _ _ _ (of_parts left s) (of_parts right s)
  of_parts (postfix operand op) s = of_parts operand s
  of_parts (select ty arguments) s = with_test s.relvars (selector_cannot_fail s.types ty) _ _ _ (all_of_parts arguments s)
  of_parts (component rest operand) s = of_parts operand s
  of_parts (measure op operand) s = with_test s.relvars (measure_cannot_fail op) _ _ _ (of_parts operand s)
  of_parts (aggregate op operand value) s = refl
  of_parts (relation elements) s = all_of_parts elements s
  of_parts (headed_relation heading elements) s = all_of_parts elements s
  of_parts (tuple parts) s = named_of_parts parts s
  of_parts (extend operand parts) s =
      of_both s.relvars _ _ _ _ _ _ (of_parts operand s)
      (in_hand (λ ts rs. IsOfParts rs (parts_cannot_fail (in_tuples s (type_of s operand)) parts) (parts_unfailing ts parts) (relvars_in_named (in_tuples s (type_of s operand)) parts))
      s (type_of s operand) (named_of_parts parts (in_tuples s (type_of s operand))))
  of_parts (extend_setting operand settings) s =
      of_both s.relvars _ _ _ _ _ _ (of_parts operand s)
      (in_hand (λ ts rs. IsOfParts rs (parts_cannot_fail (in_tuples s (type_of s operand)) settings) (parts_unfailing ts settings) (relvars_in_named (in_tuples s (type_of s operand)) settings))
      s (type_of s operand) (named_of_parts settings (in_tuples s (type_of s operand))))
  of_parts (summarize_per operand per no_summaries) s = of_both s.relvars _ _ _ _ _ _ (of_parts operand s) (of_parts per s)
  of_parts (summarize_per operand per (counted n rest)) s = refl
  of_parts (summarize_per operand per (summed op value n rest)) s = refl
  of_parts (summarize_by operand by no_summaries) s =
      of_parts operand s ∙ ap (λ ns. unfailing s.types operand && relvars_cannot_fail s.relvars ns) (sym (append-nil (relvars_in s operand)))
  of_parts (summarize_by operand by (counted n rest)) s = refl
  of_parts (summarize_by operand by (summed op value n rest)) s = refl
  of_parts (choice condition consequent alternative) s =
      of_both s.relvars _ _ _ _ _ _ (of_parts condition s)
      (of_both s.relvars _ _ _ _ _ _ (of_parts consequent s) (of_parts alternative s))
  of_parts (binding items result) s =
      bound_of_parts items s (λ t. cannot_fail t result) (λ ts. unfailing ts result) (λ t. relvars_in t result) (of_parts result)

  -- of WITH's items, and of what stands behind them
  bound_of_parts : (items : NamedTrees) (s : Scope) (whole : Scope → Bool) (nodes : List DeclaredType → Bool) (names : Scope → List (List ℕ))
      → ((t : Scope) → IsOfParts t.relvars (whole t) (nodes t.types) (names t))
      → IsOfParts s.relvars (none_fails_where_bound s items whole) (parts_unfailing s.types items && nodes s.types) (relvars_where_bound s items names)
  bound_of_parts none_named s whole nodes names p = p s
  bound_of_parts (more_named n e es) s whole nodes names p =
      let t = behind_item n (type_of s e) s in
      subst (λ b. IsOfParts s.relvars (none_fails_where_bound s (more_named n e es) whole) b (relvars_where_bound s (more_named n e es) names))
      (sym (and_assoc (unfailing s.types e) (parts_unfailing s.types es) (nodes s.types)))
      (of_both s.relvars _ _ _ _ _ _ (of_parts e s)
      (behind (λ ts rs. IsOfParts rs (none_fails_where_bound t es whole) (parts_unfailing ts es && nodes ts) (relvars_where_bound t es names))
      n s (type_of s e) (bound_of_parts es t whole nodes names p)))

  all_of_parts : (es : Trees) (s : Scope) → IsOfParts s.relvars (all_cannot_fail s es) (all_unfailing s.types es) (relvars_in_all s es)
  all_of_parts none s = refl
  all_of_parts (more e es) s = of_both s.relvars _ _ _ _ _ _ (of_parts e s) (all_of_parts es s)

  named_of_parts : (parts : NamedTrees) (s : Scope)
      → IsOfParts s.relvars (parts_cannot_fail s parts) (parts_unfailing s.types parts) (relvars_in_named s parts)
  named_of_parts none_named s = refl
  named_of_parts (more_named n e es) s = of_both s.relvars _ _ _ _ _ _ (of_parts e s) (named_of_parts es s)

-- ---- the answer

-- of an expression that mentions these relvars and types
pub answered : (s : Scope) (e : Tree) (n : Names) (whole : Bool) → with_value (type_of s e) (λ t. Valued (relvars_in s e, types_in e)) ≡ Valued n
    → whole ≡ (unfailing s.types e && relvars_cannot_fail s.relvars n.0) → cannot_fail_of s e ≡ Valued whole
answered s e n whole found is = by_type (type_of s e) found
  where
    by_type : (o : Outcome Type') → with_value o (λ t. Valued (relvars_in s e, types_in e)) ≡ Valued n
        → with_value o (λ t. Valued (cannot_fail s e)) ≡ Valued whole
    by_type (Valued t) found =
        let names : (relvars_in s e, types_in e) ≡ n = valued_is (relvars_in s e, types_in e) n found in
        ap (λ b. Valued b) (of_parts e s ∙ ap (λ m. unfailing s.types e && relvars_cannot_fail s.relvars m.0) names ∙ sym is)
    by_type (Refused cs) found = absurd (cc)
