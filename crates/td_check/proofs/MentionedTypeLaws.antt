-- Where an expression has a type, the types that it mentions are declared.
use Rattle.std.proofs.Common.{◌≡◌, ◌∷◌, ◌++◌, ℕ, Bool, true, false, List, [], Option, Some, None, refl, subst, sym}
use Rattle.std.proofs.lemmas.List.{append_assoc}
use Rattle.std.specs.Prelude.{is_some}
use Rattle.td_check.specs.model.Mentions.{types_in, types_in_all, types_in_named, types_in_items, types_named, types_named_in}
use Rattle.td_check.specs.model.OperatorTypes.{Item, are_types_of, comparison_type, component_type, count_item, aggregate_item, aggregate_type, choice_type, extension_type, extracted_type, headed_type, known_or, listed_type, measure_type, mismatch, named_part, operator_type, over_relation, per_heading, postfix_type, prefix_type, selector_type, setting_type, summary_type, tuple_type, restriction_type}
use Rattle.td_check.specs.model.Scopes.{Scope, bound_to, entered_with}
use Rattle.td_check.specs.model.StaticTypes.{items_of, named_types, both_types, type_of, type_where_bound, types_of, with_items}
use Rattle.td_tree.specs.declared.cause.Cause.TheVariants as causes
use Rattle.td_tree.specs.declared.operator.Operator.{Operator}
use Rattle.td_tree.specs.model.Outcomes.{Outcome, Valued, Refused, value_if, with_both, with_value}
use Rattle.td_tree.specs.model.Trees.{TypeTree, AttributeTrees, no_attributes, attribute, Tree, literal, name, parentheses, prefix, extract, restriction, binary, compare, postfix, select, component, measure, aggregate, relation, headed_relation, tuple, extend, extend_setting, summarize_per, summarize_by, choice, binding, Trees, none, more, NamedTrees, none_named, more_named, Summaries, no_summaries, counted, summed}
use Rattle.td_tree.specs.model.Trees as trees
use Rattle.td_types.specs.model.Headings.{has_name, made_heading}
use Rattle.td_types.specs.model.TypeLists.{DeclaredType, attributes_meant, declared_at, heading_meant, is_declared, type_meant}
use Rattle.td_types.specs.model.Types.{Heading, Type', unpack}
use Rattle.td_types.specs.model.Types as types
use Rattle.td_check.proofs.CarriedLaws.{Each}
use Rattle.td_check.proofs.MentionedRelvarLaws.{each_both, each_none, each_one}
use Rattle.td_check.proofs.OperatorLaws.{Gives, gives_both, gives_unless, gives_with}

-- D where there is a value
abbrev pub Shows : Type 0 → {A : Type 0} → Outcome A → Type 0
Shows D o = Gives (λ _. D) o

shows : (D : Type 0) {A : Type 0} (o : Outcome A) → D → Shows D o
shows D (Valued x) d = d
shows D (Refused cs) d = tt

shows_more : {D E : Type 0} {A : Type 0} (o : Outcome A) → Shows D o → (D → E) → Shows E o
shows_more (Valued x) d f = f d
shows_more (Refused cs) d f = tt

module _ (D : Type 0) where
  shows_with : {A B : Type 0} (o : Outcome A) (f : A → Outcome B) → Shows D o → Shows D (with_value o f)
  shows_with (Valued x) f d = shows D (f x) d
  shows_with (Refused cs) f d = tt

  over_relation_shows : {A : Type 0} (t : Type') (f : Heading → Outcome A) → ((h : Heading) → Shows D (f h)) → Shows D (over_relation t f)
  over_relation_shows types.boolean f d = tt
  over_relation_shows types.integer f d = tt
  over_relation_shows types.char f d = tt
  over_relation_shows (types.user n) f d = tt
  over_relation_shows (types.tuple xs) f d = tt
  over_relation_shows (types.relation xs) f d = d (unpack xs)

-- the types of these names are declared
abbrev pub AreThere : List DeclaredType → List (List ℕ) → Type 0
AreThere ds = Each (λ n. is_declared n ds ≡ true)

module _ (ds : List DeclaredType) where
  none_there : AreThere ds []
  none_there = each_none (λ n. is_declared n ds ≡ true)

  both_there : (xs ys : List (List ℕ)) → AreThere ds xs → AreThere ds ys → AreThere ds (xs ++ ys)
  both_there = each_both (λ n. is_declared n ds ≡ true)

  both_show : (xs ys : List (List ℕ)) {A B C : Type 0} (o : Outcome A) (p : Outcome B) (f : A → B → Outcome C)
      → Shows (AreThere ds xs) o → Shows (AreThere ds ys) p → Shows (AreThere ds (xs ++ ys)) (with_both o p f)
  both_show xs ys o p f d e =
      gives_both (λ _. AreThere ds xs) (λ _. AreThere ds ys) (λ _. AreThere ds (xs ++ ys)) o p f d e
      (λ x y h k. shows (AreThere ds (xs ++ ys)) (f x y) (both_there xs ys h k))

  then_show : (xs ys : List (List ℕ)) {A B : Type 0} (o : Outcome A) (f : A → Outcome B)
      → Shows (AreThere ds xs) o → ((x : A) → Shows (AreThere ds ys) (f x)) → Shows (AreThere ds (xs ++ ys)) (with_value o f)
  then_show xs ys (Valued x) f d e = added (f x) (e x)
    where
      added : {B : Type 0} (p : Outcome B) → Shows (AreThere ds ys) p → Shows (AreThere ds (xs ++ ys)) p
      added (Valued y) k = both_there xs ys d k
      added (Refused cs) k = tt
  then_show xs ys (Refused cs) f d e = tt

  -- ---- types as they are written

  named_there : (n : List ℕ) → Shows (AreThere ds (n ∷ [])) (value_if (is_declared n ds) (types.user n) causes.NameUnknown)
  named_there n = by_test (is_declared n ds) refl
    where
      by_test : (b : Bool) → is_declared n ds ≡ b → Shows (AreThere ds (n ∷ [])) (value_if b (types.user n) causes.NameUnknown)
      by_test true e = each_one (λ m. is_declared m ds ≡ true) n e
      by_test false e = tt

  mutual
    meant_shows : (tree : TypeTree) → Shows (AreThere ds (types_named tree)) (type_meant ds tree)
    meant_shows trees.integer = none_there
    meant_shows trees.char = none_there
    meant_shows trees.boolean = none_there
    meant_shows (trees.user n) = named_there n
    meant_shows (trees.tuple_type heading) = shows_with (AreThere ds (types_named_in heading)) (attributes_meant ds heading) _ (attributes_show heading)
    meant_shows (trees.relation_type heading) = shows_with (AreThere ds (types_named_in heading)) (attributes_meant ds heading) _ (attributes_show heading)

    attributes_show : (heading : AttributeTrees) → Shows (AreThere ds (types_named_in heading)) (attributes_meant ds heading)
    attributes_show no_attributes = none_there
    attributes_show (attribute n ty rest) =
        both_show (types_named ty) (types_named_in rest) (type_meant ds ty) (attributes_meant ds rest) _ (meant_shows ty) (attributes_show rest)

  heading_shows : (heading : AttributeTrees) → Shows (AreThere ds (types_named_in heading)) (heading_meant ds heading)
  heading_shows heading = shows_with (AreThere ds (types_named_in heading)) (attributes_meant ds heading) made_heading (attributes_show heading)

  selector_shows : (n : List ℕ) (ts : List Type') → Shows (AreThere ds (n ∷ [])) (selector_type ds n ts)
  selector_shows n ts = by_option (declared_at n ds) (λ e. each_one (λ m. is_declared m ds ≡ true) n e)
    where
      by_option : (o : Option DeclaredType) → (is_some o ≡ true → AreThere ds (n ∷ []))
          → Shows (AreThere ds (n ∷ [])) (with_value (known_or causes.NameUnknown o) (λ d. value_if (are_types_of ts d.components) (types.user n) causes.TypeMismatch))
      by_option None k = tt
      by_option (Some d) k = shows (AreThere ds (n ∷ [])) (value_if (are_types_of ts d.components) (types.user n) causes.TypeMismatch) (k refl)

-- ---- operators between two operands, and SUMMARIZE's operand

-- what is shown of an operand
abbrev Part : Tree → Type 0
Part e = (s : Scope) → Shows (AreThere s.types (types_in e)) (type_of s e)

plain_shows : (op : Operator) (left right : Tree) → Part left → Part right → (s : Scope)
    → Shows (AreThere s.types (types_in left ++ types_in right)) (with_both (type_of s left) (type_of s right) (operator_type op))
plain_shows op left right l r s =
    both_show s.types (types_in left) (types_in right) (type_of s left) (type_of s right) (operator_type op) (l s) (r s)

module _ (operand : Tree) (known : Part operand) (s : Scope) (names : List (List ℕ)) where
  -- in the operand, and in its tuples
  within_shows : (f : Type' → Heading → Outcome Type') → ((t : Type') (h : Heading) → Shows (AreThere s.types names) (f t h))
      → Shows (AreThere s.types (types_in operand ++ names)) (with_value (type_of s operand) (λ t. over_relation t (f t)))
  within_shows f inside =
      then_show s.types (types_in operand) names (type_of s operand) (λ t. over_relation t (f t)) (known s)
      (λ t. over_relation_shows (AreThere s.types names) t (f t) (inside t))

  -- of SUMMARIZE, where there are items
  abbrev SomeShow : Option (Heading × List (List ℕ × Item)) → Type 0
  SomeShow o = is_some o ≡ true → AreThere s.types (types_in operand) × AreThere s.types names

  items_show : (f : Heading → Outcome (List (List ℕ × Item))) → ((h : Heading) → Shows (AreThere s.types names) (f h))
      → Gives SomeShow (with_value (type_of s operand) (λ t. with_items t f))
  items_show f inside = gives_with (λ _. AreThere s.types (types_in operand)) SomeShow (type_of s operand) (λ t. with_items t f) (known s) by_type
    where
      by_type : (t : Type') → AreThere s.types (types_in operand) → Gives SomeShow (with_items t f)
      by_type types.boolean k = λ e. absurd (cc)
      by_type types.integer k = λ e. absurd (cc)
      by_type types.char k = λ e. absurd (cc)
      by_type (types.user n) k = λ e. absurd (cc)
      by_type (types.tuple xs) k = λ e. absurd (cc)
      by_type (types.relation xs) k =
          gives_with (λ _. AreThere s.types names) SomeShow (f (unpack xs)) (λ items. Valued (Some (unpack xs, items))) (inside (unpack xs))
          (λ items l _. (k, l))

or_mismatch_shows : {A : Type 0} (D : Type 0) (f : A → Outcome Type') (o : Option A) → (is_some o ≡ true → D)
    → Shows D (elim o as (λ _. Outcome Type') [ Some x ↦ f x | None ↦ mismatch ])
or_mismatch_shows D f None k = tt
or_mismatch_shows D f (Some x) k = shows D (f x) (k refl)

restriction_shows : (operand condition : Tree) → Part operand → Part condition → (s : Scope)
    → Shows (AreThere s.types (types_in operand ++ types_in condition)) (type_of s (restriction operand condition))
restriction_shows operand condition l r s =
    within_shows operand l s (types_in condition) _
    (λ t h. shows_with (AreThere s.types (types_in condition)) (type_of (entered_with h s) condition) (restriction_type t) (r (entered_with h s)))

-- ---- every expression

mutual
  pub types_show : (e : Tree) (s : Scope) → Shows (AreThere s.types (types_in e)) (type_of s e)
  types_show (literal l) s = none_there s.types
  types_show (name n) s = shows (AreThere s.types []) (type_of s (name n)) (none_there s.types)
  types_show (parentheses inner) s = types_show inner s
  types_show (prefix op operand) s = shows_with (AreThere s.types (types_in operand)) (type_of s operand) (prefix_type op) (types_show operand s)
  types_show (extract a operand) s = shows_with (AreThere s.types (types_in operand)) (type_of s operand) (extracted_type a) (types_show operand s)
  types_show (restriction operand condition) s = restriction_shows operand condition (types_show operand) (types_show condition) s
  types_show (binary left op right) s = plain_shows op left right (types_show left) (types_show right) s
  types_show (compare left op right) s =
      both_show s.types (types_in left) (types_in right) (type_of s left) (type_of s right) (comparison_type op) (types_show left s) (types_show right s)
  types_show (postfix operand op) s = shows_with (AreThere s.types (types_in operand)) (type_of s operand) (postfix_type op) (types_show operand s)
  types_show (select ty arguments) s =
      gives_with (λ _. AreThere s.types (types_in_all arguments)) (λ _. AreThere s.types (ty ∷ types_in_all arguments)) (types_of s arguments) (selector_type s.types ty) (all_show arguments s)
      (λ ts k. shows_more (selector_type s.types ty ts) (selector_shows s.types ty ts) (λ h. both_there s.types (ty ∷ []) (types_in_all arguments) h k))
  types_show (component rest operand) s =
      shows_with (AreThere s.types (types_in operand)) (type_of s operand) (component_type s.types rest) (types_show operand s)
  types_show (measure op operand) s = shows_with (AreThere s.types (types_in operand)) (type_of s operand) (measure_type op) (types_show operand s)
  types_show (aggregate op operand value) s =
      within_shows operand (types_show operand) s (types_in value) _
      (λ t h. shows_with (AreThere s.types (types_in value)) (type_of (entered_with h s) value) (aggregate_type op) (types_show value (entered_with h s)))
  types_show (relation elements) s = shows_with (AreThere s.types (types_in_all elements)) (types_of s elements) listed_type (all_show elements s)
  types_show (headed_relation heading elements) s =
      both_show s.types (types_named_in heading) (types_in_all elements) (heading_meant s.types heading) (types_of s elements) headed_type
      (heading_shows s.types heading) (all_show elements s)
  types_show (tuple parts) s = shows_with (AreThere s.types (types_in_named parts)) (named_types s parts) tuple_type (named_show parts s)
  types_show (extend operand parts) s =
      within_shows operand (types_show operand) s (types_in_named parts) _
      (λ t h. shows_with (AreThere s.types (types_in_named parts)) (named_types (entered_with h s) parts) (extension_type h) (named_show parts (entered_with h s)))
  types_show (extend_setting operand settings) s =
      within_shows operand (types_show operand) s (types_in_named settings) _
      (λ t h. shows_with (AreThere s.types (types_in_named settings)) (named_types (entered_with h s) settings) (setting_type h) (named_show settings (entered_with h s)))
  types_show (summarize_per operand per summaries) s =
      gives_both (SomeShow operand (types_show operand) s (types_in_items summaries)) (λ _. AreThere s.types (types_in per))
      (λ _. AreThere s.types (types_in operand ++ (types_in_items summaries ++ types_in per)))
      (with_value (type_of s operand) (λ t. with_items t (λ h. items_of (entered_with h s) summaries))) (type_of s per) _
      (items_show operand (types_show operand) s (types_in_items summaries) (λ h. items_of (entered_with h s) summaries) (λ h. added_show summaries (entered_with h s)))
      (types_show per s)
      (λ o t k d. or_mismatch_shows (AreThere s.types (types_in operand ++ (types_in_items summaries ++ types_in per))) (λ both. summary_type (per_heading both.0 t) both.1) o
      (λ e. both_there s.types (types_in operand) (types_in_items summaries ++ types_in per) (k e).0 (both_there s.types (types_in_items summaries) (types_in per) (k e).1 d)))
  types_show (summarize_by operand by summaries) s =
      gives_with (SomeShow operand (types_show operand) s (types_in_items summaries)) (λ _. AreThere s.types (types_in operand ++ types_in_items summaries))
      (with_value (type_of s operand) (λ t. with_items t (λ h. items_of (entered_with h s) summaries))) _
      (items_show operand (types_show operand) s (types_in_items summaries) (λ h. items_of (entered_with h s) summaries) (λ h. added_show summaries (entered_with h s)))
      (λ o k. or_mismatch_shows (AreThere s.types (types_in operand ++ types_in_items summaries)) (λ both. summary_type (named_part by both.0) both.1) o
      (λ e. both_there s.types (types_in operand) (types_in_items summaries) (k e).0 (k e).1))
  types_show (choice condition consequent alternative) s =
      both_show s.types (types_in condition) (types_in consequent ++ types_in alternative) (type_of s condition)
      (both_types (type_of s consequent) (type_of s alternative)) (λ t both. choice_type t both.0 both.1) (types_show condition s)
      (both_show s.types (types_in consequent) (types_in alternative) (type_of s consequent) (type_of s alternative) (λ t u. Valued (t, u))
      (types_show consequent s) (types_show alternative s))
  types_show (binding items result) s = bound_shows items [] s (types_in result) (λ t. type_of t result) (types_show result)

  -- in WITH's items, and behind them
  bound_shows : (items : NamedTrees) (before : List (List ℕ)) (s : Scope) (names : List (List ℕ)) (inside : Scope → Outcome Type')
      → ((t : Scope) → Shows (AreThere t.types names) (inside t)) → Shows (AreThere s.types (types_in_named items ++ names)) (type_where_bound before s items inside)
  bound_shows none_named before s names inside d = d s
  bound_shows (more_named n e es) before s names inside d =
      subst (λ ns. Shows (AreThere s.types ns) (type_where_bound before s (more_named n e es) inside)) (sym (append_assoc (types_in e) (types_in_named es) names))
      (then_show s.types (types_in e) (types_in_named es ++ names) (type_of s e) _ (types_show e s)
      (λ t. gives_unless (λ _. AreThere s.types (types_in_named es ++ names)) (has_name n before) _ (bound_shows es (n ∷ before) (bound_to n t s) names inside d)))

  pub all_show : (es : Trees) (s : Scope) → Shows (AreThere s.types (types_in_all es)) (types_of s es)
  all_show none s = none_there s.types
  all_show (more e es) s =
      both_show s.types (types_in e) (types_in_all es) (type_of s e) (types_of s es) (λ t ts. Valued (t ∷ ts)) (types_show e s) (all_show es s)

  pub named_show : (parts : NamedTrees) (s : Scope) → Shows (AreThere s.types (types_in_named parts)) (named_types s parts)
  named_show none_named s = none_there s.types
  named_show (more_named n e es) s =
      both_show s.types (types_in e) (types_in_named es) (type_of s e) (named_types s es) (λ t ts. Valued ((n, t) ∷ ts)) (types_show e s) (named_show es s)

  pub added_show : (items : Summaries) (s : Scope) → Shows (AreThere s.types (types_in_items items)) (items_of s items)
  added_show no_summaries s = none_there s.types
  added_show (counted n rest) s =
      shows_with (AreThere s.types (types_in_items rest)) (items_of s rest) (λ items. Valued ((n, count_item) ∷ items)) (added_show rest s)
  added_show (summed op e n rest) s =
      both_show s.types (types_in e) (types_in_items rest) (type_of s e) (items_of s rest) (λ t items. Valued ((n, aggregate_item op t) ∷ items))
      (types_show e s) (added_show rest s)
