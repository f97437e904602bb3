-- The value of an expression that has a type depends only on what it mentions.
use Rattle.std.proofs.Common.{◌≡◌, ◌∙◌, ◌++◌, ℕ, Bool, true, List, [], ◌∷◌, Option, Some, None, map, option_map, ap, append-nil, refl, subst, sym}
use Rattle.std.proofs.lemmas.List.{append_assoc}
use Rattle.std.specs.List.{AllByRecursion}
use Rattle.std.specs.Prelude.{if◌then◌else◌, is_some, IsTrue}
use Rattle.std.proofs.lemmas.List.Elements.{Contains-append_left, Contains-append_right}
use Rattle.td_check.specs.model.Mentions.{behind_item, in_tuples, mentioned_by_name, relvars_in, relvars_in_all, relvars_in_items, relvars_in_named, relvars_where_bound, types_in, types_in_all, types_in_items, types_in_named, types_named_in}
use Rattle.td_check.specs.model.OperatorTypes.{count_item, aggregate_item, aggregate_type, are_types_of, choice_type, comparison_type, component_type, extension_type, extracted_type, headed_type, known_or, listed_type, measure_type, misfit, operator_type, over_relation, postfix_type, prefix_type, selector_type, setting_type, tuple_type, restriction_type}
use Rattle.td_check.specs.model.Scopes.{KnownRelvar, Scope, bound_to, entered_with, innermost, known_relvar}
use Rattle.td_check.specs.laws.StaticLaws.{AgreeOn, HasMore, UsersAllIn, UsersIn}
use Rattle.td_check.specs.model.StaticTypes.{items_of, named_types, both_types, type_of, type_where_bound, types_of, with_items}
use Rattle.td_check.proofs.AgreementLaws.{agree_entered, heading_follows, one_is}
use Rattle.td_check.proofs.CarriedLaws.{Each}
use Rattle.td_check.proofs.MentionLaws.{carried, items_carried_in, named_carried}
use Rattle.td_check.proofs.StaticLaws.{more_changes_no_parts}
use Rattle.td_check.proofs.SummaryLaws.{HeadingItems, Items}
use Rattle.td_tree.specs.declared.cause.Cause.TheVariants as causes
use Rattle.td_tree.specs.model.Outcomes.{Outcome, Valued, Refused, value_if, with_both, with_value}
use Rattle.td_tree.specs.model.Trees.{AttributeTrees, Tree, literal, name, parentheses, prefix, extract, restriction, binary, compare, postfix, select, component, measure, aggregate, relation, headed_relation, tuple, extend, extend_setting, summarize_per, summarize_by, choice, binding, Trees, none, more, NamedTrees, none_named, more_named, Summaries, no_summaries, counted, summed, project}
use Rattle.td_types.specs.model.Headings.{has_name, made_heading}
use Rattle.td_types.specs.model.TypeLists.{DeclaredType, attributes_meant, declared_at, heading_meant}
use Rattle.td_types.specs.model.Types.{Type', Attribute, Attrs, Heading, pack, unpack}
use Rattle.td_types.specs.model.Types as types
use Rattle.td_types.proofs.KnownTypes.{declared_more}
use Rattle.td_types.proofs.Meanings.{attributes_later, pack_unpack}
use Rattle.td_types.proofs.OutcomeLaws.{value_of_test, value_of_with, values_of_both}
use Rattle.td_value.specs.model.Values.{Val, boolean, integer, char, relation_value, user, Relation, Tuple, heading_of}
use Rattle.td_value.specs.model.Values as values
use Rattle.td_eval.specs.model.AggregateValues.{aggregated_value, asked_of, summarized_value, summary_attributes, summary_value}
use Rattle.td_eval.specs.model.OperatorValues.{comparison_value, component_value, extended_by_settings, extended_value, extracted_value, headed_value, listed_value, measure_value, on_relation, on_truth, operator_value, postfix_value, prefix_value, restricted_value, tuple_from}
use Rattle.td_eval.specs.model.TreeValues.{argument_values, entry_values, items_in_tuples, value_of, value_where_bound, values_in_tuples}
use Rattle.td_eval.specs.laws.ValueLaws.{HasTheSame, SelectsTheSame, ValuesDependOnMentions}
use Rattle.td_eval.specs.laws.ValueTypes.{AreComponentsOf, IsOfType, IsTypedTuple, KeepsScope, KeepsType}
use Rattle.td_eval.specs.model.Worlds.{World, innermost_value, known_outcome, name_value, selector_outcome, with_tuples}
use Rattle.td_eval.proofs.law_lemmas.AlikeOutcomes.{both_alike, over_same, with_alike}
use Rattle.td_eval.proofs.law_lemmas.AlikeRows.{AreAlikeIn, aggregated_alike, extended_alike, restricted_alike, settings_alike}
use Rattle.td_eval.proofs.law_lemmas.AlikeSummaries.{SummandsAlikeIn, summarized_alike}
use Rattle.td_eval.proofs.code_lemmas.SummaryParts.{attributes_of_items, by_type, more_changes_no_items, per_type}
use Rattle.td_eval.proofs.law_lemmas.TypedArguments.{arguments_typed, known_is}
use Rattle.td_eval.proofs.code_lemmas.TypedRows.{one_typed, rows_typed}
use Rattle.td_value.proofs.KnownValues.{has_its_type}
use Rattle.td_eval.proofs.code_lemmas.TypedTrees.{innermost_typed, keeps, typed_behind}
use Rattle.td_tree.specs.model.WrittenTrees.{GiveNames, GivesNames, HasTexts, HaveTexts, ItemsGiveNames, ItemsHaveTexts, PartsGiveNames, PartsHaveTexts}

-- a scope where attributes of these headings are in hand
abbrev among_headings : Scope → List Heading → Scope
among_headings scope hs = record { types = scope.types; relvars = scope.relvars; constraints = scope.constraints; entered = hs }

module _ (among : List ℕ → Bool) (scope : Scope) (w v : World) (k : KeepsScope w scope) where
  abbrev ds : List DeclaredType
  ds = scope.types

  abbrev AreTyped : List Tuple → Type 0
  AreTyped s = AllByRecursion (IsTypedTuple ds) s

  abbrev here : List Heading → Scope
  here hs = among_headings scope hs

  abbrev there : List Heading → Scope
  there hs = among_headings v.scope hs

  -- both worlds agree on these types and on these relvars, and on the attributes in hand
  record Agreed (hs : List Heading) (types relvars : List (List ℕ)) : Type 0 where
    pub known : AgreeOn among (here hs) (there hs)
    pub types_agree : Each (λ n. IsTrue (among n) × SelectsTheSame scope w v n) types
    pub relvars_agree : Each (HasTheSame among scope w v) relvars

  -- ---- parts

  first_types : (hs : List Heading) (xs ys ls : List (List ℕ)) → Agreed hs (xs ++ ys) ls → Agreed hs xs ls
  first_types hs xs ys ls a =
      record { known = a.known; types_agree = λ n c. a.types_agree n (Contains-append_left xs ys n c); relvars_agree = a.relvars_agree }

  rest_types : (hs : List Heading) (xs ys ls : List (List ℕ)) → Agreed hs (xs ++ ys) ls → Agreed hs ys ls
  rest_types hs xs ys ls a =
      record { known = a.known; types_agree = λ n c. a.types_agree n (Contains-append_right xs ys n c); relvars_agree = a.relvars_agree }

  first_relvars : (hs : List Heading) (xs ls ms : List (List ℕ)) → Agreed hs xs (ls ++ ms) → Agreed hs xs ls
  first_relvars hs xs ls ms a =
      record { known = a.known; types_agree = a.types_agree; relvars_agree = λ n c. a.relvars_agree n (Contains-append_left ls ms n c) }

  rest_relvars : (hs : List Heading) (xs ls ms : List (List ℕ)) → Agreed hs xs (ls ++ ms) → Agreed hs xs ms
  rest_relvars hs xs ls ms a =
      record { known = a.known; types_agree = a.types_agree; relvars_agree = λ n c. a.relvars_agree n (Contains-append_right ls ms n c) }

  first_part : (hs : List Heading) (xs ys ls ms : List (List ℕ)) → Agreed hs (xs ++ ys) (ls ++ ms) → Agreed hs xs ls
  first_part hs xs ys ls ms a = first_relvars hs xs ls ms (first_types hs xs ys (ls ++ ms) a)

  rest_part : (hs : List Heading) (xs ys ls ms : List (List ℕ)) → Agreed hs (xs ++ ys) (ls ++ ms) → Agreed hs ys ms
  rest_part hs xs ys ls ms a = rest_relvars hs ys ls ms (rest_types hs xs ys (ls ++ ms) a)

  -- the user types in the type of an operand are among those that are agreed on
  users_agreed : (hs : List Heading) (e : Tree) (t : Type') → Agreed hs (types_in e) (relvars_in (here hs) e) → type_of (here hs) e ≡ Valued t
      → UsersIn among t
  users_agreed hs e t a is =
      ((carried among e (here hs) (there hs) a.known (λ n c. (a.types_agree n c).0) (λ n c. (a.relvars_agree n c).0)).carried t is).1

  -- in the tuples of an operand that is a relation
  inside : (hs : List Heading) (o : Outcome Type') (g : Attrs) (xs : List (List ℕ)) (mentioned : Scope → List (List ℕ)) → o ≡ Valued (types.relation g)
      → UsersAllIn among g → Agreed hs xs (mentioned (in_tuples (here hs) o)) → Agreed (unpack g ∷ hs) xs (mentioned (here (unpack g ∷ hs)))
  inside hs o g xs mentioned is users a =
      record {
        known = agree_entered among (here hs) (there hs) a.known (unpack g) (subst (UsersAllIn among) (sym (pack_unpack g)) users);
        types_agree = a.types_agree;
        relvars_agree = subst (λ p. Each (HasTheSame among scope w v) (mentioned (in_tuples (here hs) p))) is a.relvars_agree;
      }

  -- behind an item of WITH
  behind_is : (hs : List Heading) (n : List ℕ) (o : Outcome Type') (t : Type') (xs : List (List ℕ)) (mentioned : Scope → List (List ℕ)) → o ≡ Valued t
      → UsersIn among t → Agreed hs xs (mentioned (behind_item n o (here hs))) → Agreed (((n, t) ∷ []) ∷ hs) xs (mentioned (here (((n, t) ∷ []) ∷ hs)))
  behind_is hs n o t xs mentioned is users a =
      record {
        known = agree_entered among (here hs) (there hs) a.known ((n, t) ∷ []) (users, tt);
        types_agree = a.types_agree;
        relvars_agree = subst (λ p. Each (HasTheSame among scope w v) (mentioned (behind_item n p (here hs)))) is a.relvars_agree;
      }

  -- ---- names

  relvar_same : (n : List ℕ) (i : Option Type') (q : Option KnownRelvar) (t : Type') → i ≡ None
      → elim i as (λ _. Outcome Type') [ Some u ↦ Valued u | None ↦ with_value (known_or causes.NameUnknown q) (λ r. Valued (types.relation (pack r.heading))) ] ≡ Valued t
      → Each (HasTheSame among scope w v) (if is_some i then [] else if is_some q then n ∷ [] else []) → v.relvar n ≡ w.relvar n
  relvar_same n (Some u) q t e is all = absurd (cc)
  relvar_same n None None t e is all = absurd (cc)
  relvar_same n None (Some r) t e is all = (all n (one_is n)).1

  name_same : (s : List Tuple) (n : List ℕ) (t : Type') → Agreed (map heading_of s) [] (mentioned_by_name (here (map heading_of s)) n)
      → type_of (here (map heading_of s)) (name n) ≡ Valued t → name_value v s n ≡ name_value w s n
  name_same s n t a is = by_option (innermost_value n s) refl
    where
      by_option : (o : Option Val) → innermost_value n s ≡ o
          → elim o as (λ _. Outcome Val) [ Some x ↦ Valued x | None ↦ known_outcome (v.relvar n) ]
          ≡ elim o as (λ _. Outcome Val) [ Some x ↦ Valued x | None ↦ known_outcome (w.relvar n) ]
      by_option (Some x) e = refl
      by_option None e =
          ap known_outcome (relvar_same n (innermost n (map heading_of s)) (known_relvar scope n) t (innermost_typed n s ∙ ap (option_map values.type_of) e) is a.relvars_agree)

  -- ---- names of types

  -- a heading that is meant in the scope is meant in both worlds
  meant_same : (hs : List Heading) (ls : List (List ℕ)) (heading : AttributeTrees) (h : Heading) → Agreed hs (types_named_in heading) ls → heading_meant ds heading ≡ Valued h
      → heading_meant v.scope.types heading ≡ heading_meant w.scope.types heading
  meant_same hs ls heading h a is =
      let xs = value_of_with (attributes_meant ds heading) made_heading h is in
      let more : heading_meant (ds ++ k.types.0) heading ≡ Valued h =
      ap (λ o. with_value o made_heading) (attributes_later ds k.types.0 heading xs.0 xs.1) ∙ xs.2 in
      ((heading_follows among (here hs) (there hs) a.known heading (λ n c. (a.types_agree n c).0)).followed h is).0
      ∙ sym (subst (λ known. heading_meant known heading ≡ Valued h) (sym k.types.1) more)

  -- components by their names
  component_same : (hs : List Heading) (rest : List ℕ) (s t : Type') (o : Outcome Val) → AgreeOn among (here hs) (there hs) → UsersIn among s
      → component_type ds rest s ≡ Valued t → KeepsType ds (Valued s) o
      → with_value o (component_value v.scope.types rest) ≡ with_value o (component_value w.scope.types rest)
  component_same hs rest s t (Valued (user n ps)) a u is h =
      let d = h.1.1 in
      let among_these : IsTrue (among n) = subst (UsersIn among) h.1.0 u in
      let first : declared_at n w.scope.types ≡ Some d =
      subst (λ known. declared_at n known ≡ Some d) (sym k.types.1) (declared_more n ds k.types.0 d h.1.2) in
      let second : declared_at n v.scope.types ≡ Some d = a.types n d among_these h.1.2 in
      rw (first, second) refl
  component_same hs rest s t (Valued (boolean b)) a u is h = refl
  component_same hs rest s t (Valued (integer z)) a u is h = refl
  component_same hs rest s t (Valued (char c)) a u is h = refl
  component_same hs rest s t (Valued (values.tuple fs)) a u is h = refl
  component_same hs rest s t (Valued (values.relation g rs)) a u is h = refl
  component_same hs rest s t (Refused cs) a u is h = refl

  -- ---- selectors

  select_same : (n : List ℕ) (ts : List Type') (t : Type') (o : Outcome (List Val)) → SelectsTheSame scope w v n → selector_type ds n ts ≡ Valued t
      → ((d : DeclaredType) (vs : List Val) → are_types_of ts d.components ≡ true → o ≡ Valued vs → AreComponentsOf ds d vs)
      → with_value o (selector_outcome v n) ≡ with_value o (selector_outcome w n)
  select_same n ts t (Refused cs) same is h = refl
  select_same n ts t (Valued vs) same is h =
      let d = value_of_with (known_or causes.NameUnknown (declared_at n ds)) (λ d. value_if (are_types_of ts d.components) (types.user n) causes.TypeMismatch) t is in
      let fit = value_of_test (are_types_of ts d.0.components) (types.user n) t causes.TypeMismatch d.2 in
      same d.0 vs (known_is causes.NameUnknown (declared_at n ds) d.0 d.1) (h d.0 vs fit.0 refl)

  -- ---- what is applied to tuples

  -- where more is known, the parts of EXTEND have the same types
  more_there : (s : List Tuple) (h : Heading) → HasMore (here (h ∷ map heading_of s)) (entered_with h (with_tuples w.scope s))
  more_there s h = record { types = k.types; relvars = ([], k.known ∙ sym (append-nil scope.relvars)); entered = refl }

  parts_typed_same : (s : List Tuple) (h : Heading) (parts : NamedTrees) (xs : List Attribute)
      → Agreed (h ∷ map heading_of s) (types_in_named parts) (relvars_in_named (here (h ∷ map heading_of s)) parts)
      → named_types (here (h ∷ map heading_of s)) parts ≡ Valued xs
      → named_types (entered_with h (with_tuples v.scope s)) parts ≡ named_types (entered_with h (with_tuples w.scope s)) parts
  parts_typed_same s h parts xs a is =
      ((named_carried among parts (here (h ∷ map heading_of s)) (there (h ∷ map heading_of s)) a.known (λ n c. (a.types_agree n c).0) (λ n c. (a.relvars_agree n c).0)).carried xs is).0
      ∙ sym (more_changes_no_parts (here (h ∷ map heading_of s)) (entered_with h (with_tuples w.scope s)) parts xs (more_there s h) is)

  -- and so have the new attributes of SUMMARIZE
  attributes_same : (s : List Tuple) (h : Heading) (items : Summaries) (xs : Items)
      → Agreed (h ∷ map heading_of s) (types_in_items items) (relvars_in_items (here (h ∷ map heading_of s)) items)
      → items_of (here (h ∷ map heading_of s)) items ≡ Valued xs
      → summary_attributes (entered_with h (with_tuples v.scope s)) items ≡ summary_attributes (entered_with h (with_tuples w.scope s)) items
  attributes_same s h items xs a is =
      let hs = h ∷ map heading_of s in
      let second = (items_carried_in among items (here hs) (there hs) a.known (λ n c. (a.types_agree n c).0) (λ n c. (a.relvars_agree n c).0)).carried xs is in
      attributes_of_items (entered_with h (with_tuples v.scope s)) items xs second.0
      ∙ sym (attributes_of_items (entered_with h (with_tuples w.scope s)) items xs
      (more_changes_no_items (here hs) (entered_with h (with_tuples w.scope s)) items xs (more_there s h) is))

  -- SUMMARIZE of an operand that has a type, by the same tuples
  summary_same : (s : List Tuple) (items : Summaries) (q : Type') (o : Option HeadingItems) (z u : Val) → KeepsType ds (Valued q) (Valued z)
      → with_items q (λ g. items_of (here (g ∷ map heading_of s)) items) ≡ Valued o
      → ((g : Attrs) → q ≡ types.relation g
      → Agreed (unpack g ∷ map heading_of s) (types_in_items items) (relvars_in_items (here (unpack g ∷ map heading_of s)) items))
      → ((r : Relation) (xs : Items) → IsOfType ds (relation_value r) (types.relation (pack r.heading))
      → Agreed (r.heading ∷ map heading_of s) (types_in_items items) (relvars_in_items (here (r.heading ∷ map heading_of s)) items)
      → items_of (here (r.heading ∷ map heading_of s)) items ≡ Valued xs → SummandsAlikeIn r (items_in_tuples v s items) (items_in_tuples w s items))
      → summary_value (λ g. summary_attributes (entered_with g (with_tuples v.scope s)) items) (items_in_tuples v s items) z u
      ≡ summary_value (λ g. summary_attributes (entered_with g (with_tuples w.scope s)) items) (items_in_tuples w s items) z u
  summary_same s items q o z u kept is agreed alike =
      over_same ds q (Valued z)
      (λ r. on_relation u (λ p. summarized_value (summary_attributes (entered_with r.heading (with_tuples v.scope s)) items) (items_in_tuples v s items) r p))
      (λ r. on_relation u (λ p. summarized_value (summary_attributes (entered_with r.heading (with_tuples w.scope s)) items) (items_in_tuples w s items) r p)) kept
      (λ g r e head typed.
      let hs = map heading_of s in
      let y = value_of_with (items_of (here (unpack g ∷ hs)) items) (λ xs. Valued (Some (unpack g, xs))) o
      (subst (λ t. with_items t (λ i. items_of (here (i ∷ hs)) items) ≡ Valued o) e is) in
      let within = subst (λ i. Agreed (i ∷ hs) (types_in_items items) (relvars_in_items (here (i ∷ hs)) items)) (sym head) (agreed g e) in
      let known = subst (λ i. items_of (here (i ∷ hs)) items ≡ Valued y.0) (sym head) y.1 in
      ap (λ x. on_relation u (λ p. summarized_value x (items_in_tuples v s items) r p)) (attributes_same s r.heading items y.0 within known)
      ∙ (λ i. on_relation u (λ p. summarized_alike r p (summary_attributes (entered_with r.heading (with_tuples w.scope s)) items)
      (items_in_tuples v s items) (items_in_tuples w s items) (alike r y.0 typed within known) i)))

  -- attributes that are added or set in the tuples of an operand that has a type
  over_tuples_same : (operand : Tree) (parts : NamedTrees) (s : List Tuple) (t : Type') (rule : Heading → List Attribute → Outcome Type')
      (given : Outcome (List Attribute) → List (Tuple → Outcome Val) → Relation → Outcome Val)
      → KeepsType ds (type_of (here (map heading_of s)) operand) (value_of w s operand)
      → Agreed (map heading_of s) (types_in operand ++ types_in_named parts)
      (relvars_in (here (map heading_of s)) operand ++ relvars_in_named (in_tuples (here (map heading_of s)) (type_of (here (map heading_of s)) operand)) parts)
      → with_value (type_of (here (map heading_of s)) operand)
      (λ q. over_relation q (λ g. with_value (named_types (entered_with g (here (map heading_of s))) parts) (rule g))) ≡ Valued t
      → ((r : Relation) (types : Outcome (List Attribute)) (fs gs : List (Tuple → Outcome Val)) → AreAlikeIn r fs gs → given types fs r ≡ given types gs r)
      → ((u : Type') → Agreed (map heading_of s) (types_in operand) (relvars_in (here (map heading_of s)) operand)
      → type_of (here (map heading_of s)) operand ≡ Valued u → value_of v s operand ≡ value_of w s operand)
      → ((r : Relation) (xs : List Attribute) → IsOfType ds (relation_value r) (types.relation (pack r.heading))
      → Agreed (r.heading ∷ map heading_of s) (types_in_named parts) (relvars_in_named (here (r.heading ∷ map heading_of s)) parts)
      → named_types (here (r.heading ∷ map heading_of s)) parts ≡ Valued xs → AreAlikeIn r (values_in_tuples v s parts) (values_in_tuples w s parts))
      → with_value (value_of v s operand) (λ z. on_relation z (λ r. given (named_types (entered_with r.heading (with_tuples v.scope s)) parts) (values_in_tuples v s parts) r))
      ≡ with_value (value_of w s operand) (λ z. on_relation z (λ r. given (named_types (entered_with r.heading (with_tuples w.scope s)) parts) (values_in_tuples w s parts) r))
  over_tuples_same operand parts s t rule given keeps a is alike operands each =
      let hs = map heading_of s in
      let inner = relvars_in_named (in_tuples (here hs) (type_of (here hs) operand)) parts in
      let y = value_of_with (type_of (here hs) operand) (λ q. over_relation q (λ g. with_value (named_types (entered_with g (here hs)) parts) (rule g))) t is in
      let first = first_part hs (types_in operand) (types_in_named parts) (relvars_in (here hs) operand) inner a in
      let rest = rest_part hs (types_in operand) (types_in_named parts) (relvars_in (here hs) operand) inner a in
      let kept = subst (λ o. KeepsType ds o (value_of w s operand)) y.1 keeps in
      ap (λ o. with_value o (λ z. on_relation z (λ r. given (named_types (entered_with r.heading (with_tuples v.scope s)) parts) (values_in_tuples v s parts) r)))
      (operands y.0 first y.1)
      ∙ over_same ds y.0 (value_of w s operand)
      (λ r. given (named_types (entered_with r.heading (with_tuples v.scope s)) parts) (values_in_tuples v s parts) r)
      (λ r. given (named_types (entered_with r.heading (with_tuples w.scope s)) parts) (values_in_tuples w s parts) r) kept
      (λ g r e head typed.
      let into = inside hs (type_of (here hs) operand) g (types_in_named parts) (λ m. relvars_in_named m parts) (y.1 ∙ ap Valued e)
      (subst (UsersIn among) e (users_agreed hs operand y.0 first y.1)) rest in
      let z = value_of_with (named_types (here (unpack g ∷ hs)) parts) (rule (unpack g)) t
      (subst (λ q. over_relation q (λ i. with_value (named_types (entered_with i (here hs)) parts) (rule i)) ≡ Valued t) e y.2) in
      let agreed = subst (λ i. Agreed (i ∷ hs) (types_in_named parts) (relvars_in_named (here (i ∷ hs)) parts)) (sym head) into in
      let known = subst (λ i. named_types (here (i ∷ hs)) parts ≡ Valued z.0) (sym head) z.1 in
      ap (λ o. given o (values_in_tuples v s parts) r) (parts_typed_same s r.heading parts z.0 agreed known)
      ∙ alike r (named_types (entered_with r.heading (with_tuples w.scope s)) parts) (values_in_tuples v s parts) (values_in_tuples w s parts)
      (each r z.0 typed agreed known))

  -- ---- trees

  mutual
    same : (e : Tree) (s : List Tuple) (t : Type') → AreTyped s → GivesNames e → HasTexts e
        → Agreed (map heading_of s) (types_in e) (relvars_in (here (map heading_of s)) e) → type_of (here (map heading_of s)) e ≡ Valued t
        → value_of v s e ≡ value_of w s e
    same (literal l) s t h n x a is = refl
    same (name m) s t h n x a is = name_same s m t a is
    same (parentheses inner) s t h n x a is = same inner s t h n x a is
    same (prefix op operand) s t h n x a is =
        let y = value_of_with (type_of (here (map heading_of s)) operand) (prefix_type op) t is in
        ap (λ o. with_value o (prefix_value op)) (same operand s y.0 h n x a y.1)
    same (extract m operand) s t h n x a is =
        let y = value_of_with (type_of (here (map heading_of s)) operand) (extracted_type m) t is in
        ap (λ o. with_value o (extracted_value m)) (same operand s y.0 h n x a y.1)
    same (restriction operand condition) s t h n x a is =
        let hs = map heading_of s in
        let y = value_of_with (type_of (here hs) operand)
        (λ q. over_relation q (λ g. with_value (type_of (entered_with g (here hs)) condition) (restriction_type q))) t is in
        let first = first_part hs (types_in operand) (types_in condition) (relvars_in (here hs) operand) (relvars_in (in_tuples (here hs) (type_of (here hs) operand)) condition) a in
        let rest = rest_part hs (types_in operand) (types_in condition) (relvars_in (here hs) operand) (relvars_in (in_tuples (here hs) (type_of (here hs) operand)) condition) a in
        let kept = subst (λ o. KeepsType ds o (value_of w s operand)) y.1 (keeps w scope k operand s h n.0 x.0) in
        ap (λ o. with_value o (λ z. on_relation z (restricted_value (λ u. value_of v (u ∷ s) condition)))) (same operand s y.0 h n.0 x.0 first y.1)
        ∙ over_same ds y.0 (value_of w s operand) (restricted_value (λ u. value_of v (u ∷ s) condition)) (restricted_value (λ u. value_of w (u ∷ s) condition)) kept
        (λ g r e head typed. restricted_alike r (λ u. value_of v (u ∷ s) condition) (λ u. value_of w (u ∷ s) condition)
        (λ u b.
        let at = rows_typed ds r typed u b in
        let place : heading_of u ≡ unpack g = at.1 ∙ head in
        let into = inside hs (type_of (here hs) operand) g (types_in condition) (λ m. relvars_in m condition) (y.1 ∙ ap Valued e)
        (subst (UsersIn among) e (users_agreed hs operand y.0 first y.1)) rest in
        let z = value_of_with (type_of (here (unpack g ∷ hs)) condition) (restriction_type (types.relation g)) t
        (subst (λ q. over_relation q (λ i. with_value (type_of (entered_with i (here hs)) condition) (restriction_type q)) ≡ Valued t) e y.2) in
        same condition (u ∷ s) z.0 (at.0, h) n.1 x.1
        (subst (λ i. Agreed (i ∷ hs) (types_in condition) (relvars_in (here (i ∷ hs)) condition)) (sym place) into)
        (subst (λ i. type_of (here (i ∷ hs)) condition ≡ Valued z.0) (sym place) z.1)))
    same (binary left op right) s t h n x a is =
        let hs = map heading_of s in
        let y = values_of_both (type_of (here hs) left) (type_of (here hs) right) (operator_type op) t is in
        let one = same left s y.0 h n.0 x.0
        (first_part hs (types_in left) (types_in right) (relvars_in (here hs) left) (relvars_in (here hs) right) a) y.2 in
        let two = same right s y.1 h n.1 x.1
        (rest_part hs (types_in left) (types_in right) (relvars_in (here hs) left) (relvars_in (here hs) right) a) y.3 in
        λ i. with_both (one i) (two i) (operator_value op)
    same (compare left op right) s t h n x a is =
        let hs = map heading_of s in
        let y = values_of_both (type_of (here hs) left) (type_of (here hs) right) (comparison_type op) t is in
        let one = same left s y.0 h n.0 x.0
        (first_part hs (types_in left) (types_in right) (relvars_in (here hs) left) (relvars_in (here hs) right) a) y.2 in
        let two = same right s y.1 h n.1 x.1
        (rest_part hs (types_in left) (types_in right) (relvars_in (here hs) left) (relvars_in (here hs) right) a) y.3 in
        λ i. with_both (one i) (two i) (comparison_value op)
    same (postfix operand op) s t h n x a is =
        let y = value_of_with (type_of (here (map heading_of s)) operand) (postfix_type op) t is in
        ap (λ o. with_value o (postfix_value op)) (same operand s y.0 h n.0 x a y.1)
    same (select ty arguments) s t h n x a is =
        let hs = map heading_of s in
        let y = value_of_with (types_of (here hs) arguments) (selector_type ds ty) t is in
        ap (λ o. with_value o (selector_outcome v ty))
        (same_arguments arguments s y.0 h n x (rest_types hs (ty ∷ []) (types_in_all arguments) (relvars_in_all (here hs) arguments) a) y.1)
        ∙ select_same ty y.0 t (argument_values w s arguments)
        (a.types_agree ty (Contains-append_left (ty ∷ []) (types_in_all arguments) ty (one_is ty))).1 y.2
        (λ d vs fit at. arguments_typed w scope k s h arguments y.0 vs d.components n x y.1 at fit)
    same (component rest operand) s t h n x a is =
        let hs = map heading_of s in
        let y = value_of_with (type_of (here hs) operand) (component_type ds rest) t is in
        let kept = subst (λ o. KeepsType ds o (value_of w s operand)) y.1 (keeps w scope k operand s h n x) in
        ap (λ o. with_value o (component_value v.scope.types rest)) (same operand s y.0 h n x a y.1)
        ∙ component_same hs rest y.0 t (value_of w s operand) a.known (users_agreed hs operand y.0 a y.1) y.2 kept
    same (measure op operand) s t h n x a is =
        let y = value_of_with (type_of (here (map heading_of s)) operand) (measure_type op) t is in
        ap (λ o. with_value o (measure_value op)) (same operand s y.0 h n x a y.1)
    same (aggregate op operand value) s t h n x a is =
        let hs = map heading_of s in
        let y = value_of_with (type_of (here hs) operand)
        (λ q. over_relation q (λ g. with_value (type_of (entered_with g (here hs)) value) (aggregate_type op))) t is in
        let first = first_part hs (types_in operand) (types_in value) (relvars_in (here hs) operand) (relvars_in (in_tuples (here hs) (type_of (here hs) operand)) value) a in
        let rest = rest_part hs (types_in operand) (types_in value) (relvars_in (here hs) operand) (relvars_in (in_tuples (here hs) (type_of (here hs) operand)) value) a in
        let kept = subst (λ o. KeepsType ds o (value_of w s operand)) y.1 (keeps w scope k operand s h n.0 x.0) in
        ap (λ o. with_value o (λ z. on_relation z (aggregated_value (asked_of op) (λ u. value_of v (u ∷ s) value)))) (same operand s y.0 h n.0 x.0 first y.1)
        ∙ over_same ds y.0 (value_of w s operand) (aggregated_value (asked_of op) (λ u. value_of v (u ∷ s) value))
        (aggregated_value (asked_of op) (λ u. value_of w (u ∷ s) value)) kept
        (λ g r e head typed. aggregated_alike r (asked_of op) (λ u. value_of v (u ∷ s) value) (λ u. value_of w (u ∷ s) value)
        (λ u b.
        let at = rows_typed ds r typed u b in
        let place : heading_of u ≡ unpack g = at.1 ∙ head in
        let into = inside hs (type_of (here hs) operand) g (types_in value) (λ m. relvars_in m value) (y.1 ∙ ap Valued e)
        (subst (UsersIn among) e (users_agreed hs operand y.0 first y.1)) rest in
        let z = value_of_with (type_of (here (unpack g ∷ hs)) value) (aggregate_type op) t
        (subst (λ q. over_relation q (λ i. with_value (type_of (entered_with i (here hs)) value) (aggregate_type op)) ≡ Valued t) e y.2) in
        same value (u ∷ s) z.0 (at.0, h) n.1 x.1
        (subst (λ i. Agreed (i ∷ hs) (types_in value) (relvars_in (here (i ∷ hs)) value)) (sym place) into)
        (subst (λ i. type_of (here (i ∷ hs)) value ≡ Valued z.0) (sym place) z.1)))
    same (relation elements) s t h n x a is =
        let y = value_of_with (types_of (here (map heading_of s)) elements) listed_type t is in
        ap (λ o. with_value o listed_value) (same_arguments elements s y.0 h n x a y.1)
    same (headed_relation heading elements) s t h n x a is =
        let hs = map heading_of s in
        let y = values_of_both (heading_meant ds heading) (types_of (here hs) elements) headed_type t is in
        let one = meant_same hs (relvars_in_all (here hs) elements) heading y.0
        (first_types hs (types_named_in heading) (types_in_all elements) (relvars_in_all (here hs) elements) a) y.2 in
        let two = same_arguments elements s y.1 h n.1 x
        (rest_types hs (types_named_in heading) (types_in_all elements) (relvars_in_all (here hs) elements) a) y.3 in
        λ i. with_both (one i) (two i) headed_value
    same (tuple parts) s t h n x a is =
        let y = value_of_with (named_types (here (map heading_of s)) parts) tuple_type t is in
        ap (λ o. with_value o tuple_from) (same_entries parts s y.0 h n x a y.1)
    same (extend operand parts) s t h n x a is =
        over_tuples_same operand parts s t extension_type extended_value (keeps w scope k operand s h n.0 x.0) a is (λ r. extended_alike r)
        (λ u b e. same operand s u h n.0 x.0 b e) (λ r xs typed b e. same_parts parts s r xs typed h n.1 x.1 b e)
    same (extend_setting operand settings) s t h n x a is =
        over_tuples_same operand settings s t setting_type extended_by_settings (keeps w scope k operand s h n.0 x.0) a is (λ r. settings_alike r)
        (λ u b e. same operand s u h n.0 x.0 b e) (λ r xs typed b e. same_parts settings s r xs typed h n.1 x.1 b e)
    same (summarize_per operand per items) s t h n x a is =
        let hs = map heading_of s in
        let y = values_of_both (with_value (type_of (here hs) operand) (λ q. with_items q (λ g. items_of (entered_with g (here hs)) items))) (type_of (here hs) per)
        per_type t is in
        let q = value_of_with (type_of (here hs) operand) (λ q. with_items q (λ g. items_of (entered_with g (here hs)) items)) y.0 y.2 in
        let inner = relvars_in_items (in_tuples (here hs) (type_of (here hs) operand)) items in
        let first = first_part hs (types_in operand) (types_in_items items ++ types_in per) (relvars_in (here hs) operand) (inner ++ relvars_in (here hs) per) a in
        let rest = rest_part hs (types_in operand) (types_in_items items ++ types_in per) (relvars_in (here hs) operand) (inner ++ relvars_in (here hs) per) a in
        let within = first_part hs (types_in_items items) (types_in per) inner (relvars_in (here hs) per) rest in
        let kept = subst (λ o. KeepsType ds o (value_of w s operand)) q.1 (keeps w scope k operand s h n.0 x.0) in
        let one = same operand s q.0 h n.0 x.0 first q.1 in
        let two = same per s y.1 h n.1 x.1
        (rest_part hs (types_in_items items) (types_in per) inner (relvars_in (here hs) per) rest) y.3 in
        (λ i. with_both (one i) (two i) (summary_value (λ g. summary_attributes (entered_with g (with_tuples v.scope s)) items) (items_in_tuples v s items)))
        ∙ both_alike (value_of w s operand) (value_of w s per)
        (summary_value (λ g. summary_attributes (entered_with g (with_tuples v.scope s)) items) (items_in_tuples v s items))
        (summary_value (λ g. summary_attributes (entered_with g (with_tuples w.scope s)) items) (items_in_tuples w s items))
        (λ z u e. summary_same s items q.0 y.0 z u (subst (KeepsType ds (Valued q.0)) e kept) q.2
        (λ g f. inside hs (type_of (here hs) operand) g (types_in_items items) (λ m. relvars_in_items m items) (q.1 ∙ ap Valued f)
        (subst (UsersIn among) f (users_agreed hs operand q.0 first q.1)) within)
        (λ r xs typed agreed known. same_items items s r xs typed h n.2 x.2 agreed known))
    same (summarize_by operand by items) s t h n x a is =
        let hs = map heading_of s in
        let y = value_of_with (with_value (type_of (here hs) operand) (λ q. with_items q (λ g. items_of (entered_with g (here hs)) items)))
        (by_type by) t is in
        let q = value_of_with (type_of (here hs) operand) (λ q. with_items q (λ g. items_of (entered_with g (here hs)) items)) y.0 y.1 in
        let inner = relvars_in_items (in_tuples (here hs) (type_of (here hs) operand)) items in
        let first = first_part hs (types_in operand) (types_in_items items) (relvars_in (here hs) operand) inner a in
        let within = rest_part hs (types_in operand) (types_in_items items) (relvars_in (here hs) operand) inner a in
        let kept = subst (λ o. KeepsType ds o (value_of w s operand)) q.1 (keeps w scope k operand s h n.0 x.0) in
        ap (λ o. with_value o (λ z. with_value (postfix_value (project by) z)
        (summary_value (λ g. summary_attributes (entered_with g (with_tuples v.scope s)) items) (items_in_tuples v s items) z))) (same operand s q.0 h n.0 x.0 first q.1)
        ∙ with_alike (value_of w s operand)
        (λ z. with_value (postfix_value (project by) z) (summary_value (λ g. summary_attributes (entered_with g (with_tuples v.scope s)) items) (items_in_tuples v s items) z))
        (λ z. with_value (postfix_value (project by) z) (summary_value (λ g. summary_attributes (entered_with g (with_tuples w.scope s)) items) (items_in_tuples w s items) z))
        (λ z e. with_alike (postfix_value (project by) z)
        (summary_value (λ g. summary_attributes (entered_with g (with_tuples v.scope s)) items) (items_in_tuples v s items) z)
        (summary_value (λ g. summary_attributes (entered_with g (with_tuples w.scope s)) items) (items_in_tuples w s items) z)
        (λ u _. summary_same s items q.0 y.0 z u (subst (KeepsType ds (Valued q.0)) e kept) q.2
        (λ g f. inside hs (type_of (here hs) operand) g (types_in_items items) (λ m. relvars_in_items m items) (q.1 ∙ ap Valued f)
        (subst (UsersIn among) f (users_agreed hs operand q.0 first q.1)) within)
        (λ r xs typed agreed known. same_items items s r xs typed h n.1 x.1 agreed known)))
    same (choice condition consequent alternative) s t h n x a is =
        let hs = map heading_of s in
        let y = values_of_both (type_of (here hs) condition) (both_types (type_of (here hs) consequent) (type_of (here hs) alternative))
        (λ t both. choice_type t both.0 both.1) t is in
        let z = values_of_both (type_of (here hs) consequent) (type_of (here hs) alternative) (λ s t. Valued (s, t)) y.1 y.3 in
        let others = rest_part hs (types_in condition) (types_in consequent ++ types_in alternative) (relvars_in (here hs) condition)
        (relvars_in (here hs) consequent ++ relvars_in (here hs) alternative) a in
        let one = same condition s y.0 h n.0 x.0
        (first_part hs (types_in condition) (types_in consequent ++ types_in alternative) (relvars_in (here hs) condition)
        (relvars_in (here hs) consequent ++ relvars_in (here hs) alternative) a) y.2 in
        let two = same consequent s z.0 h n.1 x.1
        (first_part hs (types_in consequent) (types_in alternative) (relvars_in (here hs) consequent) (relvars_in (here hs) alternative) others) z.2 in
        let three = same alternative s z.1 h n.2 x.2
        (rest_part hs (types_in consequent) (types_in alternative) (relvars_in (here hs) consequent) (relvars_in (here hs) alternative) others) z.3 in
        λ i. with_value (one i) (λ z. on_truth z (λ b. if b then two i else three i))
    same (binding items result) s t h n x a is =
        same_bound items [] (types_in result) s t (λ i. type_of i result) (λ i. relvars_in i result) (λ u. value_of v u result) (λ u. value_of w u result)
        h n.0 x.0 a is (λ u p b e. same result u t p n.1 x.1 b e)

    -- what stands where WITH's items are in scope, which mentions these further types
    same_bound : (items : NamedTrees) (before further : List (List ℕ)) (s : List Tuple) (t : Type') (kind : Scope → Outcome Type')
        (mentioned : Scope → List (List ℕ)) (other given : List Tuple → Outcome Val) → AreTyped s → PartsGiveNames items → PartsHaveTexts items
        → Agreed (map heading_of s) (types_in_named items ++ further) (relvars_where_bound (here (map heading_of s)) items mentioned)
        → type_where_bound before (here (map heading_of s)) items kind ≡ Valued t
        → ((u : List Tuple) → AreTyped u → Agreed (map heading_of u) further (mentioned (here (map heading_of u)))
        → kind (here (map heading_of u)) ≡ Valued t → other u ≡ given u)
        → value_where_bound v s items other ≡ value_where_bound w s items given
    same_bound none_named before further s t kind mentioned other given h n x a is each = each s h a is
    same_bound (more_named m value rest) before further s t kind mentioned other given h n x a is each =
        let hs = map heading_of s in
        let y = value_of_with (type_of (here hs) value) (λ u. if has_name m before then misfit else type_where_bound (m ∷ before) (bound_to m u (here hs)) rest kind) t is in
        let behind = typed_behind (has_name m before) (type_where_bound (m ∷ before) (bound_to m y.0 (here hs)) rest kind) t y.2 in
        let later = relvars_where_bound (behind_item m (type_of (here hs) value) (here hs)) rest mentioned in
        let all = subst (λ ns. Agreed hs ns (relvars_in (here hs) value ++ later)) (append_assoc (types_in value) (types_in_named rest) further) a in
        let first = first_part hs (types_in value) (types_in_named rest ++ further) (relvars_in (here hs) value) later all in
        let others = rest_part hs (types_in value) (types_in_named rest ++ further) (relvars_in (here hs) value) later all in
        let kept = subst (λ o. KeepsType ds o (value_of w s value)) y.1 (keeps w scope k value s h n.1 x.0) in
        ap (λ o. with_value o (λ z. value_where_bound v (((m, z) ∷ []) ∷ s) rest other)) (same value s y.0 h n.1 x.0 first y.1)
        ∙ with_alike (value_of w s value) (λ z. value_where_bound v (((m, z) ∷ []) ∷ s) rest other) (λ z. value_where_bound w (((m, z) ∷ []) ∷ s) rest given)
        (λ z e.
        let q = subst (KeepsType ds (Valued y.0)) e kept in
        let own : y.0 ≡ values.type_of z = sym (has_its_type ds z y.0 q.1) in
        let into = behind_is hs m (type_of (here hs) value) y.0 (types_in_named rest ++ further) (λ i. relvars_where_bound i rest mentioned) y.1
        (users_agreed hs value y.0 first y.1) others in
        same_bound rest (m ∷ before) further (((m, z) ∷ []) ∷ s) t kind mentioned other given (one_typed ds m z y.0 n.0 q, h) n.2 x.1
        (subst (λ u. Agreed (((m, u) ∷ []) ∷ hs) (types_in_named rest ++ further) (relvars_where_bound (here (((m, u) ∷ []) ∷ hs)) rest mentioned)) own into)
        (subst (λ u. type_where_bound (m ∷ before) (here (((m, u) ∷ []) ∷ hs)) rest kind ≡ Valued t) own behind) each)

    same_arguments : (es : Trees) (s : List Tuple) (ts : List Type') → AreTyped s → GiveNames es → HaveTexts es
        → Agreed (map heading_of s) (types_in_all es) (relvars_in_all (here (map heading_of s)) es) → types_of (here (map heading_of s)) es ≡ Valued ts
        → argument_values v s es ≡ argument_values w s es
    same_arguments none s ts h n x a is = refl
    same_arguments (more first rest) s ts h n x a is =
        let hs = map heading_of s in
        let y = values_of_both (type_of (here hs) first) (types_of (here hs) rest) (λ t ts. Valued (t ∷ ts)) ts is in
        let one = same first s y.0 h n.0 x.0
        (first_part hs (types_in first) (types_in_all rest) (relvars_in (here hs) first) (relvars_in_all (here hs) rest) a) y.2 in
        let others = same_arguments rest s y.1 h n.1 x.1
        (rest_part hs (types_in first) (types_in_all rest) (relvars_in (here hs) first) (relvars_in_all (here hs) rest) a) y.3 in
        λ i. with_both (one i) (others i) (λ v vs. Valued (v ∷ vs))

    same_entries : (parts : NamedTrees) (s : List Tuple) (xs : List Attribute) → AreTyped s → PartsGiveNames parts → PartsHaveTexts parts
        → Agreed (map heading_of s) (types_in_named parts) (relvars_in_named (here (map heading_of s)) parts) → named_types (here (map heading_of s)) parts ≡ Valued xs
        → entry_values v s parts ≡ entry_values w s parts
    same_entries none_named s xs h n x a is = refl
    same_entries (more_named m value rest) s xs h n x a is =
        let hs = map heading_of s in
        let y = values_of_both (type_of (here hs) value) (named_types (here hs) rest) (λ t attributes. Valued ((m, t) ∷ attributes)) xs is in
        let one = same value s y.0 h n.1 x.0
        (first_part hs (types_in value) (types_in_named rest) (relvars_in (here hs) value) (relvars_in_named (here hs) rest) a) y.2 in
        let others = same_entries rest s y.1 h n.2 x.1
        (rest_part hs (types_in value) (types_in_named rest) (relvars_in (here hs) value) (relvars_in_named (here hs) rest) a) y.3 in
        λ i. with_both (one i) (others i) (λ v entries. Valued ((m, v) ∷ entries))

    same_parts : (parts : NamedTrees) (s : List Tuple) (r : Relation) (xs : List Attribute) → IsOfType ds (relation_value r) (types.relation (pack r.heading)) → AreTyped s
        → PartsGiveNames parts → PartsHaveTexts parts
        → Agreed (r.heading ∷ map heading_of s) (types_in_named parts) (relvars_in_named (here (r.heading ∷ map heading_of s)) parts)
        → named_types (here (r.heading ∷ map heading_of s)) parts ≡ Valued xs → AreAlikeIn r (values_in_tuples v s parts) (values_in_tuples w s parts)
    same_parts none_named s r xs typed h n x a is = tt
    same_parts (more_named m value rest) s r xs typed h n x a is =
        let hs = map heading_of s in
        let in_r = here (r.heading ∷ hs) in
        let y = values_of_both (type_of in_r value) (named_types in_r rest) (λ t attributes. Valued ((m, t) ∷ attributes)) xs is in
        let first = first_part (r.heading ∷ hs) (types_in value) (types_in_named rest) (relvars_in in_r value) (relvars_in_named in_r rest) a in
        let others = rest_part (r.heading ∷ hs) (types_in value) (types_in_named rest) (relvars_in in_r value) (relvars_in_named in_r rest) a in (
          λ u b.
              let at = rows_typed ds r typed u b in
              same value (u ∷ s) y.0 (at.0, h) n.1 x.0
              (subst (λ i. Agreed (i ∷ hs) (types_in value) (relvars_in (here (i ∷ hs)) value)) (sym at.1) first)
              (subst (λ i. type_of (here (i ∷ hs)) value ≡ Valued y.0) (sym at.1) y.2),
          same_parts rest s r y.1 typed h n.2 x.1 others y.3,
        )

    same_items : (items : Summaries) (s : List Tuple) (r : Relation) (xs : Items) → IsOfType ds (relation_value r) (types.relation (pack r.heading)) → AreTyped s
        → ItemsGiveNames items → ItemsHaveTexts items
        → Agreed (r.heading ∷ map heading_of s) (types_in_items items) (relvars_in_items (here (r.heading ∷ map heading_of s)) items)
        → items_of (here (r.heading ∷ map heading_of s)) items ≡ Valued xs → SummandsAlikeIn r (items_in_tuples v s items) (items_in_tuples w s items)
    same_items no_summaries s r xs typed h n x a is = tt
    same_items (counted m rest) s r xs typed h n x a is =
        let y = value_of_with (items_of (here (r.heading ∷ map heading_of s)) rest) (λ items. Valued ((m, count_item) ∷ items)) xs is in
        (refl, (λ u b. refl), same_items rest s r y.0 typed h n.1 x a y.1)
    same_items (summed op value m rest) s r xs typed h n x a is =
        let hs = map heading_of s in
        let in_r = here (r.heading ∷ hs) in
        let y = values_of_both (type_of in_r value) (items_of in_r rest) (λ t items. Valued ((m, aggregate_item op t) ∷ items)) xs is in
        let first = first_part (r.heading ∷ hs) (types_in value) (types_in_items rest) (relvars_in in_r value) (relvars_in_items in_r rest) a in
        let others = rest_part (r.heading ∷ hs) (types_in value) (types_in_items rest) (relvars_in in_r value) (relvars_in_items in_r rest) a in (
          refl,
          (λ u b.
              let at = rows_typed ds r typed u b in
              same value (u ∷ s) y.0 (at.0, h) n.0 x.0
              (subst (λ i. Agreed (i ∷ hs) (types_in value) (relvars_in (here (i ∷ hs)) value)) (sym at.1) first)
              (subst (λ i. type_of (here (i ∷ hs)) value ≡ Valued y.0) (sym at.1) y.2)),
          same_items rest s r y.1 typed h n.2 x.1 others y.3,
        )

pub values_depend_on_mentions : ValuesDependOnMentions
values_depend_on_mentions among scope w v s e k c a =
    same among scope w v k e s c.typed.0 c.tuples c.written.0 c.written.1
    (record { known = a.known; types_agree = a.types; relvars_agree = a.relvars }) c.typed.1
