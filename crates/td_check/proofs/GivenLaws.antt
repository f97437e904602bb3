-- What holds of all that a scope gives, and of what operators make of it, holds of the type of every expression there.
use Rattle.std.proofs.Common.{◌≡◌, ◌∷◌, ℕ, List, [], ◌⊎◌, inl, inr, Option, Some, None, refl, subst}
use Rattle.std.specs.List.{AllByRecursion, Contains}
use Rattle.std.proofs.lemmas.List.Elements.{Contains-append_cases, Contains-append_left, Contains-append_right}
use Rattle.td_check.specs.model.OperatorTypes.{Item, count_item, aggregate_item, aggregate_type, are_types_of, choice_type, comparison_type, component_type, extension_type, extracted_type, headed_type, known_or, listed_type, measure_type, mismatch, named_part, operator_type, per_heading, postfix_type, prefix_type, selector_type, setting_type, summary_type, tuple_type, restriction_type}
use Rattle.td_check.specs.model.Scopes.{KnownRelvar, Scope, bound_to, entered_with, innermost, known_relvar}
use Rattle.td_check.specs.model.StaticTypes.{items_of, literal_type, name_type, named_types, both_types, type_of, type_where_bound, types_of, with_items}
use Rattle.td_tree.specs.declared.cause.Cause.TheVariants as causes
use Rattle.td_tree.specs.declared.operator.Operator.{Operator}
use Rattle.td_tree.specs.model.Names.{IsName}
use Rattle.td_tree.specs.model.Outcomes.{Outcome, Valued, Refused, value_if, with_both, with_value}
use Rattle.td_tree.specs.model.Trees.{Literal, number, text, truth, table_dee, table_dum, Postfix, project, rename, group, ungroup, wrap, unwrap, Tree, literal, name, parentheses, prefix, extract, restriction, binary, compare, postfix, select, component, measure, aggregate, relation, headed_relation, tuple, extend, extend_setting, summarize_per, summarize_by, choice, binding, Trees, none, more, NamedTrees, none_named, more_named, Summaries, no_summaries, counted, summed}
use Rattle.td_types.specs.model.Headings.{has_name}
use Rattle.td_types.specs.model.TypeLists.{DeclaredType, declared_at, heading_meant}
use Rattle.td_types.specs.model.Types.{Attribute, Heading, Type', pack, type_at, unpack}
use Rattle.td_types.specs.model.Types as types
use Rattle.td_check.proofs.AgreementLaws.{one_is, only_one}
use Rattle.td_check.proofs.KnownLaws.{Supplies}
use Rattle.td_check.proofs.OperatorLaws.{Fits, Gives, IsClosed, ItemFits, NewNames, aggregate_gives, choice_gives, comparison_gives, extension_gives, extracted_gives, gives_both, gives_if, gives_known, gives_unless, gives_with, headed_gives, listed_gives, measure_gives, operator_gives, over_relation_gives, part_gives, per_gives, postfix_gives, prefix_gives, restricted_gives, setting_gives, summary_gives, tuple_gives, type_fits}
use Rattle.td_tree.specs.model.WrittenTrees.{GiveNames, GivesNames, ItemsGiveNames, OperatorGivesNames, PartsGiveNames}

gives_value : {A : Type 0} (P : A → Type 0) (o : Outcome A) → ((x : A) → o ≡ Valued x → P x) → Gives P o
gives_value P (Valued x) p = p x refl
gives_value P (Refused cs) p = tt

module _ {G : Type' → Type 0} {H : Heading → Type 0} (c : IsClosed IsName G H) where
  abbrev Attributes' : List Attribute → Type 0
  Attributes' = AllByRecursion (Fits c)

  abbrev Items' : List (List ℕ × Item) → Type 0
  Items' = AllByRecursion (ItemFits c)

  literal_gives : (l : Literal) → G (literal_type l)
  literal_gives (number minus magnitude) = c.number
  literal_gives (text content) = c.text
  literal_gives (truth value) = c.truth
  literal_gives table_dee = c.of_relation [] c.nothing
  literal_gives table_dum = c.of_relation [] c.nothing

  new_names : (op : Postfix) → OperatorGivesNames op → NewNames c op
  new_names (project attributes) n = n
  new_names (rename style renamings) n = n
  new_names (group style attributes m) n = n
  new_names (ungroup m) n = n
  new_names (wrap style attributes m) n = n
  new_names (unwrap m) n = n

  -- ---- the attributes in hand, and the relvars

  supplies_entered : (s : Scope) → Supplies G H s → (h : Heading) → H h → Supplies G H (entered_with h s)
  supplies_entered s a h k =
      record {
        entered = λ g d. by_case g (Contains-append_cases (h ∷ []) s.entered g d);
        relvars = a.relvars;
        users = a.users;
        components = a.components;
        headings = a.headings;
      }
    where
      by_case : (g : Heading) → Contains (h ∷ []) g ⊎ Contains s.entered g → H g
      by_case g (inl d) = subst H (only_one h g d) k
      by_case g (inr d) = a.entered g d

  innermost_fits : (n : List ℕ) (hs : List Heading) → ((h : Heading) → Contains hs h → H h) → (t : Type') → innermost n hs ≡ Some t → G t
  innermost_fits n [] u t e = absurd (cc)
  innermost_fits n (h ∷ hs) u t e =
      by_first (type_at n h) (λ s f. type_fits c n s h (u h (Contains-append_left (h ∷ []) hs h (one_is h))) f)
      (innermost_fits n hs (λ g d. u g (Contains-append_right (h ∷ []) hs g d)) t) e
    where
      by_first : (o : Option Type') → ((s : Type') → o ≡ Some s → G s) → (innermost n hs ≡ Some t → G t)
          → (elim o as (λ _. Option Type') [ Some s ↦ Some s | None ↦ innermost n hs ]) ≡ Some t → G t
      by_first None first rest e = rest e
      by_first (Some s) first rest e = first t e

  name_gives : (s : Scope) → Supplies G H s → (n : List ℕ) → Gives G (name_type s n)
  name_gives s a n = by_attribute (innermost n s.entered) (innermost_fits n s.entered a.entered)
    where
      by_relvar : (k : Option KnownRelvar) → ((r : KnownRelvar) → k ≡ Some r → H r.heading)
          → Gives G (with_value (known_or causes.NameUnknown k) (λ r. Valued (types.relation (pack r.heading))))
      by_relvar None h = tt
      by_relvar (Some r) h = c.of_relation r.heading (h r refl)

      by_attribute : (i : Option Type') → ((t : Type') → i ≡ Some t → G t)
          → Gives G (elim i as (λ _. Outcome Type') [
            | Some t ↦ Valued t
            | None ↦ with_value (known_or causes.NameUnknown (known_relvar s n)) (λ r. Valued (types.relation (pack r.heading)))
          ])
      by_attribute (Some t) h = h t refl
      by_attribute None h = by_relvar (known_relvar s n) (a.relvars n)

  -- ---- selectors and components

  selector_gives : (s : Scope) → Supplies G H s → (n : List ℕ) (ts : List Type') → Gives G (selector_type s.types n ts)
  selector_gives s a n ts = by_option (declared_at n s.types) (a.users n)
    where
      by_option : (o : Option DeclaredType) → ((d : DeclaredType) → o ≡ Some d → G (types.user n))
          → Gives G (with_value (known_or causes.NameUnknown o) (λ d. value_if (are_types_of ts d.components) (types.user n) causes.TypeMismatch))
      by_option None u = tt
      by_option (Some d) u = gives_if G (are_types_of ts d.components) (types.user n) causes.TypeMismatch (u d refl)

  component_gives : (s : Scope) → Supplies G H s → (m : List ℕ) (t : Type') → Gives G (component_type s.types m t)
  component_gives s a m types.boolean = tt
  component_gives s a m types.integer = tt
  component_gives s a m types.char = tt
  component_gives s a m (types.tuple xs) = tt
  component_gives s a m (types.relation xs) = tt
  component_gives s a m (types.user n) = by_option (declared_at n s.types) (λ d. a.components n d m)
    where
      by_option : (o : Option DeclaredType) → ((d : DeclaredType) (t : Type') → o ≡ Some d → type_at m d.components ≡ Some t → G t)
          → Gives G (with_value (known_or causes.NameUnknown o) (λ d. known_or causes.NameUnknown (type_at m d.components)))
      by_option None u = tt
      by_option (Some d) u = gives_known G causes.NameUnknown (type_at m d.components) (λ t e. u d t refl e)

  -- ---- operators between two operands, and SUMMARIZE's operand

  -- what is asked of an operand
  abbrev Part : Tree → Type 0
  Part e = (s : Scope) → Supplies G H s → Gives G (type_of s e)

  plain_gives : (op : Operator) (left right : Tree) → Part left → Part right → (s : Scope) → Supplies G H s
      → Gives G (with_both (type_of s left) (type_of s right) (operator_type op))
  plain_gives op left right l r s a =
      gives_both G G G (type_of s left) (type_of s right) (operator_type op) (l s a) (r s a) (operator_gives c op)

  restriction_gives : (operand condition : Tree) → Part operand → Part condition → (s : Scope) → Supplies G H s → Gives G (type_of s (restriction operand condition))
  restriction_gives operand condition l r s a =
      gives_with G G (type_of s operand) _ (l s a) (λ t g. over_relation_gives c G t _ g (λ h k.
      gives_with G G (type_of (entered_with h s) condition) (restriction_type t) (r (entered_with h s) (supplies_entered s a h k))
      (λ u v. restricted_gives c t u g)))

  -- the operand's heading and the items, where there are some
  abbrev SomeFit : Option (Heading × List (List ℕ × Item)) → Type 0
  SomeFit o = (both : Heading × List (List ℕ × Item)) → o ≡ Some both → H both.0 × Items' both.1

  with_items_gives : (t : Type') (f : Heading → Outcome (List (List ℕ × Item))) → G t → ((h : Heading) → H h → Gives Items' (f h)) → Gives SomeFit (with_items t f)
  with_items_gives types.boolean f g p = λ both e. absurd (cc)
  with_items_gives types.integer f g p = λ both e. absurd (cc)
  with_items_gives types.char f g p = λ both e. absurd (cc)
  with_items_gives (types.user n) f g p = λ both e. absurd (cc)
  with_items_gives (types.tuple xs) f g p = λ both e. absurd (cc)
  with_items_gives (types.relation xs) f g p =
      gives_with Items' SomeFit (f (unpack xs)) (λ items. Valued (Some (unpack xs, items))) (p (unpack xs) (c.in_relation xs g))
      (λ items all both e. subst (λ b. H b.0 × Items' b.1) (some_is (unpack xs, items) both e) (c.in_relation xs g, all))
    where
      some_is : (x y : Heading × List (List ℕ × Item)) → Some x ≡ Some y → x ≡ y
      some_is x y e = cc

  or_mismatch_gives : (f : Heading × List (List ℕ × Item) → Outcome Type') (o : Option (Heading × List (List ℕ × Item))) → SomeFit o
      → ((both : Heading × List (List ℕ × Item)) → H both.0 → Items' both.1 → Gives G (f both))
      → Gives G (elim o as (λ _. Outcome Type') [ Some both ↦ f both | None ↦ mismatch ])
  or_mismatch_gives f None s p = tt
  or_mismatch_gives f (Some both) s p = let k = s both refl in p both k.0 k.1

  -- ---- every expression

  mutual
    pub gives : (e : Tree) → GivesNames e → (s : Scope) → Supplies G H s → Gives G (type_of s e)
    gives (literal l) n s a = literal_gives l
    gives (name m) n s a = name_gives s a m
    gives (parentheses inner) n s a = gives inner n s a
    gives (prefix op operand) n s a = gives_with G G (type_of s operand) (prefix_type op) (gives operand n s a) (prefix_gives c op)
    gives (extract m operand) n s a = gives_with G G (type_of s operand) (extracted_type m) (gives operand n s a) (extracted_gives c m)
    gives (restriction operand condition) n s a = restriction_gives operand condition (gives operand n.0) (gives condition n.1) s a
    gives (binary left op right) n s a = plain_gives op left right (gives left n.0) (gives right n.1) s a
    gives (compare left op right) n s a =
        gives_both G G G (type_of s left) (type_of s right) (comparison_type op) (gives left n.0 s a) (gives right n.1 s a)
        (λ t u _ _. comparison_gives c op t u)
    gives (postfix operand op) n s a =
        gives_with G G (type_of s operand) (postfix_type op) (gives operand n.0 s a) (λ t g. postfix_gives c op t (new_names op n.1) g)
    gives (select ty arguments) n s a =
        gives_with (AllByRecursion G) G (types_of s arguments) (selector_type s.types ty) (all_give arguments n s a) (λ ts _. selector_gives s a ty ts)
    gives (component rest operand) n s a =
        gives_with G G (type_of s operand) (component_type s.types rest) (gives operand n s a) (λ t _. component_gives s a rest t)
    gives (measure op operand) n s a = gives_with G G (type_of s operand) (measure_type op) (gives operand n s a) (measure_gives c op)
    gives (aggregate op operand value) n s a =
        gives_with G G (type_of s operand) _ (gives operand n.0 s a) (λ t g. over_relation_gives c G t _ g (λ h k.
        gives_with G G (type_of (entered_with h s) value) (aggregate_type op) (gives value n.1 (entered_with h s) (supplies_entered s a h k)) (aggregate_gives c op)))
    gives (relation elements) n s a = gives_with (AllByRecursion G) G (types_of s elements) listed_type (all_give elements n s a) (listed_gives c)
    gives (headed_relation heading elements) n s a =
        gives_both H (AllByRecursion G) G (heading_meant s.types heading) (types_of s elements) headed_type
        (gives_value H (heading_meant s.types heading) (λ h e. a.headings heading h n.0 e)) (all_give elements n.1 s a) (λ h ts k _. headed_gives c h ts k)
    gives (tuple parts) n s a = gives_with Attributes' G (named_types s parts) tuple_type (parts_give parts n s a) (tuple_gives c)
    gives (extend operand parts) n s a =
        gives_with G G (type_of s operand) _ (gives operand n.0 s a) (λ t g. over_relation_gives c G t _ g (λ h k.
        gives_with Attributes' G (named_types (entered_with h s) parts) (extension_type h) (parts_give parts n.1 (entered_with h s) (supplies_entered s a h k))
        (λ xs all. extension_gives c h xs k all)))
    gives (extend_setting operand settings) n s a =
        gives_with G G (type_of s operand) _ (gives operand n.0 s a) (λ t g. over_relation_gives c G t _ g (λ h k.
        gives_with Attributes' G (named_types (entered_with h s) settings) (setting_type h) (parts_give settings n.1 (entered_with h s) (supplies_entered s a h k))
        (λ xs all. setting_gives c h xs k all)))
    gives (summarize_per operand per summaries) n s a =
        gives_both SomeFit G G _ (type_of s per) _
        (gives_with G SomeFit (type_of s operand) _ (gives operand n.0 s a) (λ t g. with_items_gives t _ g (λ h k. items_give summaries n.2 (entered_with h s) (supplies_entered s a h k))))
        (gives per n.1 s a)
        (λ o t f g. or_mismatch_gives (λ both. summary_type (per_heading both.0 t) both.1) o f
        (λ both k all. summary_gives c (per_heading both.0 t) both.1 (per_gives c both.0 t g) all))
    gives (summarize_by operand by summaries) n s a =
        gives_with SomeFit G _ _
        (gives_with G SomeFit (type_of s operand) _ (gives operand n.0 s a) (λ t g. with_items_gives t _ g (λ h k. items_give summaries n.1 (entered_with h s) (supplies_entered s a h k))))
        (λ o f. or_mismatch_gives (λ both. summary_type (named_part by both.0) both.1) o f
        (λ both k all. summary_gives c (named_part by both.0) both.1 (part_gives c by both.0 k) all))
    gives (choice condition consequent alternative) n s a =
        gives_both G (λ both. G both.0 × G both.1) G (type_of s condition) (both_types (type_of s consequent) (type_of s alternative)) (λ t both. choice_type t both.0 both.1)
        (gives condition n.0 s a)
        (gives_both G G (λ both. G both.0 × G both.1) (type_of s consequent) (type_of s alternative) (λ t u. Valued (t, u))
        (gives consequent n.1 s a) (gives alternative n.2 s a) (λ t u g k. (g, k)))
        (λ t both _ k. choice_gives c t both.0 both.1 k.0)
    gives (binding items result) n s a = bound_give items n.0 [] s a (λ t. type_of t result) (gives result n.1)

    -- behind WITH's items
    bound_give : (items : NamedTrees) → PartsGiveNames items → (before : List (List ℕ)) (s : Scope) → Supplies G H s → (inside : Scope → Outcome Type')
        → ((t : Scope) → Supplies G H t → Gives G (inside t)) → Gives G (type_where_bound before s items inside)
    bound_give none_named n before s a inside p = p s a
    bound_give (more_named m e es) n before s a inside p =
        gives_with G G (type_of s e) _ (gives e n.1 s a)
        (λ t g. gives_unless G (has_name m before) _
        (bound_give es n.2 (m ∷ before) (bound_to m t s) (supplies_entered s a ((m, t) ∷ []) (c.one_more [] (m, t) n.0 g c.nothing)) inside p))

    pub all_give : (es : Trees) → GiveNames es → (s : Scope) → Supplies G H s → Gives (AllByRecursion G) (types_of s es)
    all_give none n s a = tt
    all_give (more e es) n s a =
        gives_both G (AllByRecursion G) (AllByRecursion G) (type_of s e) (types_of s es) (λ t ts. Valued (t ∷ ts))
        (gives e n.0 s a) (all_give es n.1 s a) (λ t ts g all. (g, all))

    pub parts_give : (parts : NamedTrees) → PartsGiveNames parts → (s : Scope) → Supplies G H s → Gives Attributes' (named_types s parts)
    parts_give none_named n s a = tt
    parts_give (more_named m e es) n s a =
        gives_both G Attributes' Attributes' (type_of s e) (named_types s es) (λ t xs. Valued ((m, t) ∷ xs))
        (gives e n.1 s a) (parts_give es n.2 s a) (λ t xs g all. ((n.0, g), all))

    pub items_give : (items : Summaries) → ItemsGiveNames items → (s : Scope) → Supplies G H s → Gives Items' (items_of s items)
    items_give no_summaries n s a = tt
    items_give (counted m rest) n s a =
        gives_with Items' Items' (items_of s rest) (λ items. Valued ((m, count_item) ∷ items)) (items_give rest n.1 s a) (λ items all. (n.0, all))
    items_give (summed op e m rest) n s a =
        gives_both G Items' Items' (type_of s e) (items_of s rest) (λ t items. Valued ((m, aggregate_item op t) ∷ items))
        (gives e n.0 s a) (items_give rest n.2 s a) (λ t items g all. ((n.1, g), all))
