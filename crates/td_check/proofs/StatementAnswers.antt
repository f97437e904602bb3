-- What is answered where several parts of a statement are asked.
use Rattle.std.proofs.Common.{◌≡◌, ◌∙◌, ◌∷◌, ◌++◌, ◌+◌, ◌<◌, ◌≤◌, ℕ, List, [], Option, Some, None}
use Rattle.std.proofs.Common.{Result, Ok, Err, Bor, ap, get_or, length, map, option_map, refl, subst, sym, take}
use Rattle.std.proofs.lemmas.List.{map-append, take_all, take_more}
use Rattle.std.specs.Option.{option_copied}
use Rattle.std.specs.Prelude.{Bool, true, false, ⊤}
use Rattle.td_check.proofs.Scopes.{of_references}
use Rattle.td_check.specs.model.Scopes.{Scope}
use Rattle.td_check.specs.model.StatementTypes.{both_hold, components_meant, condition_fits, constraint_fits, has_key, heading_rank_fits, init_fits, keys_asked, rank_fits, settings_fit, type_if_given}
use Rattle.td_tree.specs.declared.cause.Cause.{Cause}
use Rattle.td_tree.specs.declared.cause.Cause.TheVariants as causes
use Rattle.td_tree.specs.declared.fault.Fault.{Fault}
use Rattle.td_tree.specs.declared.fault.Fault.TheVariants as faults
use Rattle.td_tree.specs.code.Gatherings.{IsGathered, IsRest, answer_of, both_answers, cause_of, lesser_cause, lesser_fault}
use Rattle.td_tree.specs.model.Outcomes.{Answers, Outcome, Valued, Refused, gathered, lesser, named_cause, value_if, with_both, with_value}
use Rattle.td_tree.specs.model.Outcomes as outcomes
use Rattle.td_tree.specs.model.Trees.{AttributeTrees, Tree}
use Rattle.td_tree.specs.code.TreeViews.{tree_view}
use Rattle.td_tree.specs.declared.expression.Expr.{Expr}
use Rattle.td_types.specs.model.Headings.{are_distinct, heading_from, made_heading}
use Rattle.td_types.specs.model.TypeLists.{DeclaredType, attributes_meant}
use Rattle.td_types.specs.model.Types.{Attribute, Heading, Type', attribute_names}
use Rattle.td_types.specs.code.Views.{type_view}
use Rattle.td_types.specs.declared.ty.Ty.{Ty}
use Rattle.td_types.proofs.OutcomeLaws.{value_of_test}
use Rattle.td_types.proofs.Resolutions.{answers_still}
use Rattle.td_tree.proofs.code_lemmas.Gatherings.{gathered_more}

-- ---- two parts

module _ {X Y Z A B C : Type 0} (first : X → A) (second : Y → B) (next : Z → C) (k : A → B → Outcome C) where
  second_refuses : (x : A) (p : Outcome B) (e : Fault) → Answers second (Err e) p → Answers next (Err e) (with_both (Valued x) p k)
  second_refuses x (Valued y) (faults.Refused c) h = absurd (cc)
  second_refuses x (Refused ds) (faults.Refused c) h = h
  second_refuses x p faults.Memory h = tt

  first_refuses : (o : Outcome A) (y : B) (e : Fault) → Answers first (Err e) o → Answers next (Err e) (with_both o (Valued y) k)
  first_refuses (Valued x) y (faults.Refused c) h = absurd (cc)
  first_refuses (Refused cs) y (faults.Refused c) h = h
  first_refuses o y faults.Memory h = tt

  least_of_both : (o : Outcome A) (p : Outcome B) (c d : Cause) → named_cause o ≡ Some c → named_cause p ≡ Some d
      → named_cause (with_both o p k) ≡ Some (lesser c d)
  least_of_both (Valued x) p c d h i = absurd (cc)
  least_of_both (Refused cs) (Valued y) c d h i = absurd (cc)
  least_of_both (Refused cs) (Refused ds) c d h i =
      let one : outcomes.least cs ≡ c = cc in
      let other : outcomes.least ds ≡ d = cc in
      rw (one, other) refl

  both_refuse : (o : Outcome A) (p : Outcome B) (d e : Fault) → Answers first (Err d) o → Answers second (Err e) p
      → Answers next (Err (lesser_fault d e)) (with_both o p k)
  both_refuse o p (faults.Refused c) (faults.Refused d) h i = least_of_both o p c d h i
  both_refuse o p (faults.Refused c) faults.Memory h i = tt
  both_refuse o p faults.Memory (faults.Refused d) h i = tt
  both_refuse o p faults.Memory faults.Memory h i = tt

  -- what both parts give together, where it is what follows of their values, or the refusal
  pub parts_answer : (r : Result X Fault) (s : Result Y Fault) (o : Outcome A) (p : Outcome B) (e : Fault) → both_answers r s ≡ Err e
      → Answers first r o → Answers second s p → Answers next (Err e) (with_both o p k)
  parts_answer (Ok x) (Ok y) o p e is h i = absurd (cc)
  parts_answer (Ok x) (Err d) o p e is h i =
      let same : d ≡ e = cc in
      subst (λ f. Answers next (Err f) (with_both o p k)) same (rw h (second_refuses (first x) p d i))
  parts_answer (Err d) (Ok y) o p e is h i =
      let same : d ≡ e = cc in
      subst (λ f. Answers next (Err f) (with_both o p k)) same (rw i (first_refuses o (second y) d h))
  parts_answer (Err d) (Err f) o p e is h i =
      let same : lesser_fault d f ≡ e = cc in
      subst (λ g. Answers next (Err g) (with_both o p k)) same (both_refuse o p d f h i)

module _ {X Y A B C : Type 0} (first : X → A) (second : Y → B) (k : A → B → Outcome C) where
  -- where both have values, what follows of them
  pub parts_have : (r : Result X Fault) (s : Result Y Fault) (o : Outcome A) (p : Outcome B) (both : X × Y) → both_answers r s ≡ Ok both
      → Answers first r o → Answers second s p → with_both o p k ≡ k (first both.0) (second both.1)
  parts_have (Ok x) (Ok y) o p both is h i =
      let same : both ≡ (x, y) = cc in
      rw (h, i, same) refl
  parts_have (Ok x) (Err d) o p both is h i = absurd (cc)
  parts_have (Err d) (Ok y) o p both is h i = absurd (cc)
  parts_have (Err d) (Err e) o p both is h i = absurd (cc)

-- ---- parts that may be left out

-- what is kept of a reference to what may be left out
pub given_is : {T U : Type 0} (f : T → U) (o : Option (Bor T)) (given : Option T) → option_copied o ≡ given
    → option_map (λ t. f t.now) o ≡ option_map f given
given_is f o given is = of_references f o ∙ ap (option_map f) is

-- what is answered of INIT
pub init_answers : (scope place : Scope) (r : Result (Option Ty) Fault) (o : Option (Bor Expr)) (given : Option Expr) → place ≡ scope → option_copied o ≡ given
    → Answers (option_map type_view) r (type_if_given place (option_map (λ e. tree_view e.now) o))
    → Answers (option_map type_view) r (type_if_given scope (option_map tree_view given))
init_answers scope place r o given at is h =
    subst (Answers (option_map type_view) r)
    (ap (λ s. type_if_given s (option_map (λ e. tree_view e.now) o)) at ∙ ap (type_if_given scope) (given_is tree_view o given is)) h

-- what is asked of a base relvar by its heading and INIT's type
abbrev pub base_asked : List DeclaredType → List (List (List ℕ)) → Heading → Option Type' → Outcome ⊤
base_asked ds keys h t = both_hold (init_fits h t) (both_hold (both_hold (has_key keys) (keys_asked h keys)) (heading_rank_fits ds h))

-- what is asked in a target's tuples by the type of UPDATE's condition and of what its settings set
abbrev pub update_asked : Heading → Option Type' → List Attribute → Outcome ⊤
update_asked h condition values = both_hold (condition_fits condition) (settings_fit h values)

-- ---- the components of a type

-- what is asked of a type's constraint and of its rank
abbrev pub parts_asked : Scope → Option Tree → List Attribute → Outcome ⊤
parts_asked scope constraint attributes = both_hold (constraint_fits scope attributes constraint) (rank_fits scope.types attributes)

module _ (ds : List DeclaredType) (components : AttributeTrees) (k : List Attribute → Outcome ⊤) where
  -- they have no meaning
  pub components_refused : {X : Type 0} (view : X → List Attribute) (e : Fault) → Answers view (Err e) (attributes_meant ds components)
      → Answers {X = ⊤} (λ u. u) (Err e) (with_value (components_meant ds components) k)
  components_refused view e h =
      answers_still (λ (xs : List Attribute). xs) (λ (u : ⊤). u) e (components_meant ds components) k
      (answers_still view (λ (xs : List Attribute). xs) e (attributes_meant ds components)
      (λ attributes. value_if (are_distinct (attribute_names attributes)) attributes causes.Heading) h)

  -- one of them comes twice
  pub component_twice : (xs : List Attribute) (e : Fault) → attributes_meant ds components ≡ Valued xs → Answers (λ h. h) (Err e) (made_heading xs)
      → Answers {X = ⊤} (λ u. u) (Err e) (with_value (components_meant ds components) k)
  component_twice xs e meant h = rw meant (by_test (are_distinct (attribute_names xs)) e h)
    where
      by_test : (test : Bool) (f : Fault) → Answers (λ h. h) (Err f) (value_if test (heading_from xs) causes.Heading)
          → Answers {X = ⊤} (λ u. u) (Err f) (with_value (value_if test xs causes.Heading) k)
      by_test true (faults.Refused c) r = absurd (cc)
      by_test false (faults.Refused c) r = r
      by_test test faults.Memory r = tt

  -- what follows of their heading
  pub components_had : (xs : List Attribute) (h : Heading) → attributes_meant ds components ≡ Valued xs → made_heading xs ≡ Valued h
      → (with_value (components_meant ds components) k ≡ k xs) × (h ≡ heading_from xs)
  components_had xs h meant made =
      let given = value_of_test (are_distinct (attribute_names xs)) (heading_from xs) h causes.Heading made in (
        ap (λ o. with_value (with_value o (λ attributes. value_if (are_distinct (attribute_names attributes)) attributes causes.Heading)) k) meant
            ∙ ap (λ test. with_value (value_if test xs causes.Heading) k) given.0,
        sym given.1,
      )

-- ---- parts of which only a cause is asked

-- nothing beside the causes is asked of these outcomes
abbrev pub asked_of : {X : Type 0} → List X → List ⊤
asked_of = map (λ _. tt {0})

module _ {X : Type 0} (f : X → Outcome ⊤) (xs : List X) where
  more_of : {A : Type 0} (g : X → A) (i : ℕ) (x : X) → i < length xs → x ≡ get_or xs i x
      → map g (take i xs) ++ (g x ∷ []) ≡ map g (take (i + 1) xs)
  more_of g i x inside is =
      sym (ap (map g) (take_more xs i x inside) ∙ map-append g (take i xs) (get_or xs i x ∷ [])
      ∙ ap (λ z. map g (take i xs) ++ (g z ∷ [])) (sym is))

  -- one more of them
  pub asked_more : (E : Type 0) (i : ℕ) (x : X) → i < length xs → x ≡ get_or xs i x
      → (least : Option Cause) (r : Result ⊤ Fault) (given : Option ⊤) (new : Option Cause)
      → IsGathered least (asked_of (take i xs)) (map f (take i xs)) → Answers (λ u. u) r (f x)
      → IsRest {E = E} r (Ok given) → new ≡ lesser_cause least (cause_of r)
      → IsGathered new (asked_of (take (i + 1) xs)) (map f (take (i + 1) xs))
  asked_more E i x inside is least (Ok u) (Some v) new so_far answers rest cause =
      rw (cause, ← more_of (λ _. tt {0}) i x inside is, ← more_of f i x inside is)
      (gathered_more {E = E} (λ (w : ⊤). w) least (asked_of (take i xs)) (map f (take i xs)) (Ok u) (Ok (Some v)) (f x) so_far answers rest)
  asked_more E i x inside is least (Ok u) None new so_far answers rest cause = absurd (cc)
  asked_more E i x inside is least (Err (faults.Refused d)) (Some v) new so_far answers rest cause = absurd (cc)
  asked_more E i x inside is least (Err (faults.Refused d)) None new so_far answers rest cause =
      rw (cause, ← more_of f i x inside is)
      (of_least least (gathered_more {E = E} (λ (w : ⊤). w) least (asked_of (take i xs)) (map f (take i xs)) (Err (faults.Refused d)) (Ok None) (f x) so_far answers rest))
    where
      of_least : (l : Option Cause) → IsGathered (lesser_cause l (Some d)) (asked_of (take i xs) ++ []) (map f (take i xs) ++ f x ∷ [])
          → IsGathered (lesser_cause l (Some d)) (asked_of (take (i + 1) xs)) (map f (take i xs) ++ f x ∷ [])
      of_least None g = g
      of_least (Some c) g = g
  asked_more E i x inside is least (Err faults.Memory) given new so_far answers rest cause = absurd rest

  -- all of them
  pub asked_all : (i : ℕ) → length xs ≤ i → (least : Option Cause) (r : Result ⊤ Fault) → r ≡ answer_of least tt
      → IsGathered least (asked_of (take i xs)) (map f (take i xs)) → Answers (λ u. u) r (with_value (gathered (map f xs)) (λ _. Valued tt))
  asked_all i past least r is g =
      rw is (of_least least (subst (λ ys. IsGathered least (asked_of ys) (map f ys)) (take_all i xs past) g))
    where
      by_outcome : (c : Cause) (o : Outcome (List ⊤)) → named_cause o ≡ Some c → named_cause (with_value o (λ _. Valued (tt {0}))) ≡ Some c
      by_outcome c (Valued ys) h = absurd (cc)
      by_outcome c (Refused cs) h = h

      of_least : (l : Option Cause) → IsGathered l (asked_of xs) (map f xs) → Answers (λ u. u) (answer_of l (tt {0})) (with_value (gathered (map f xs)) (λ _. Valued (tt {0})))
      of_least None h = rw h refl
      of_least (Some c) h = by_outcome c (gathered (map f xs)) h

-- all of those that are asked of what elements stand for
pub viewed_all : {X Y : Type 0} (f : Y → Outcome ⊤) (view : X → Y) (xs : List X) (i : ℕ) → length xs ≤ i → (least : Option Cause) (r : Result ⊤ Fault) → r ≡ answer_of least tt
    → IsGathered least (asked_of (take i xs)) (map (λ x. f (view x)) (take i xs)) → Answers (λ u. u) r (with_value (gathered (map f (map view xs))) (λ _. Valued tt))
viewed_all {X = X} f view xs i past least r is g =
    subst (λ os. Answers (λ u. u) r (with_value (gathered os) (λ _. Valued (tt {0})))) (sym (viewed xs)) (asked_all (λ x. f (view x)) xs i past least r is g)
  where
    viewed : (ys : List X) → map f (map view ys) ≡ map (λ x. f (view x)) ys
    viewed [] = refl
    viewed (y ∷ ys) = ap (λ os. f (view y) ∷ os) (viewed ys)
