-- What is answered of type trees: attribute by attribute, and of their headings.
use Rattle.std.proofs.Common.{◌≡◌, ◌∙◌, ◌∷◌, ◌≤◌, ℕ, List, [], Option, Result, Err, ap, length, map, refl, subst, sym, take}
use Rattle.std.proofs.lemmas.List.{take_all}
use Rattle.td_tree.specs.declared.cause.Cause.{Cause}
use Rattle.td_tree.specs.declared.fault.Fault.{Fault}
use Rattle.td_tree.specs.declared.fault.Fault.TheVariants as faults
use Rattle.td_tree.specs.declared.type_tree.AttributeTree.{AttributeTree}
use Rattle.td_tree.specs.code.Gatherings.{IsGathered, answer_of}
use Rattle.td_tree.specs.model.Outcomes.{Answers, Outcome, Valued, Refused, gathered, with_both, with_value}
use Rattle.td_tree.specs.code.TreeViews.{heading_tree_view, type_tree_view}
use Rattle.td_tree.proofs.code_lemmas.Gatherings.{answers_gathered}
use Rattle.td_tree.proofs.code_lemmas.Rows.{relation_type_is, tuple_type_is}
use Rattle.td_tree.specs.declared.type_tree.TypeTree.{TypeTree}
use Rattle.td_tree.specs.declared.type_tree.TypeTree.TheVariants as t
use Rattle.std.specs.Global.{Vec}
use Rattle.td_types.specs.model.Headings.{made_heading}
use Rattle.td_types.specs.model.TypeLists.{DeclaredType, attributes_meant, heading_meant, type_meant}
use Rattle.td_types.specs.model.Types.{Attribute, Heading, Type', pack, relation, tuple}

-- what an attribute of a tree means
abbrev pub outcome_of : List DeclaredType → AttributeTree → Outcome Attribute
outcome_of ds a = with_value (type_meant ds (type_tree_view a.ty)) (λ ty. Valued (a.name, ty))

-- what attributes mean is gathered from what each means
pub attributes_gathered : (ds : List DeclaredType) (xs : List AttributeTree) → attributes_meant ds (heading_tree_view xs) ≡ gathered (map (outcome_of ds) xs)
attributes_gathered ds [] = refl
attributes_gathered ds (x ∷ xs) =
    ap (λ o. with_both (type_meant ds (type_tree_view x.ty)) o (λ ty rest. Valued ((x.name, ty) ∷ rest))) (attributes_gathered ds xs)
    ∙ by_outcome (type_meant ds (type_tree_view x.ty)) (gathered (map (outcome_of ds) xs))
  where
    by_outcome : (o : Outcome Type') (p : Outcome (List Attribute))
        → with_both o p (λ ty rest. Valued ((x.name, ty) ∷ rest)) ≡ with_both (with_value o (λ ty. Valued (x.name, ty))) p (λ a rest. Valued (a ∷ rest))
    by_outcome (Valued ty) (Valued rest) = refl
    by_outcome (Valued ty) (Refused cs2) = refl
    by_outcome (Refused cs) (Valued rest) = refl
    by_outcome (Refused cs) (Refused cs2) = refl

-- once past the last attribute
pub resolved_all : {X : Type 0} (view : X → List Attribute) (ds : List DeclaredType) (xs : List AttributeTree) (i : ℕ) → length xs ≤ i → (least : Option Cause) (v : X) (r : Result X Fault)
    → r ≡ answer_of least v → IsGathered least (view v) (map (outcome_of ds) (take i xs)) → Answers view r (attributes_meant ds (heading_tree_view xs))
resolved_all view ds xs i past least v r is g =
    rw (is, attributes_gathered ds xs)
    (answers_gathered view least v (map (outcome_of ds) xs) (subst (λ ys. IsGathered least (view v) (map (outcome_of ds) ys)) (take_all i xs past) g))

-- ---- what follows from an answer

-- a refusal stays
pub answers_still : {X Y A B : Type 0} (view : X → A) (next : Y → B) (e : Fault) (o : Outcome A) (f : A → Outcome B)
    → Answers view (Err e) o → Answers next (Err e) (with_value o f)
answers_still view next (faults.Refused c) (Valued x) f a = absurd (cc)
answers_still view next (faults.Refused c) (Refused cs) f a = a
answers_still view next faults.Memory o f a = tt

with_value_twice : {A B C : Type 0} (o : Outcome A) (f : A → Outcome B) (g : B → Outcome C)
    → with_value (with_value o f) g ≡ with_value o (λ x. with_value (f x) g)
with_value_twice (Valued x) f g = refl
with_value_twice (Refused cs) f g = refl

-- ---- the type of a heading

abbrev pub tuple_of : Heading → Outcome Type'
tuple_of h = Valued (tuple (pack h))

abbrev pub relation_of : Heading → Outcome Type'
relation_of h = Valued (relation (pack h))

module _ (ds : List DeclaredType) (tree : TypeTree) (v : Vec AttributeTree) (xs : List AttributeTree) (same : xs ≡ v.items) where
  of_row : (f : Heading → Outcome Type')
      → with_value (attributes_meant ds (heading_tree_view v.items)) (λ attributes. with_value (made_heading attributes) f) ≡ with_value (heading_meant ds (heading_tree_view xs)) f
  of_row f =
      sym (with_value_twice (attributes_meant ds (heading_tree_view v.items)) made_heading f)
      ∙ ap (λ ys. with_value (heading_meant ds (heading_tree_view ys)) f) (sym same)

  pub tuple_meant : tree ≡ t.Tuple v → type_meant ds (type_tree_view tree) ≡ with_value (heading_meant ds (heading_tree_view xs)) tuple_of
  tuple_meant is = ap (λ u. type_meant ds (type_tree_view u)) is ∙ ap (type_meant ds) (tuple_type_is v) ∙ of_row tuple_of

  pub relation_meant : tree ≡ t.Relation v → type_meant ds (type_tree_view tree) ≡ with_value (heading_meant ds (heading_tree_view xs)) relation_of
  relation_meant is = ap (λ u. type_meant ds (type_tree_view u)) is ∙ ap (type_meant ds) (relation_type_is v) ∙ of_row relation_of
