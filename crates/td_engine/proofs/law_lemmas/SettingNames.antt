-- The attributes that UPDATE sets.
use Rattle.std.proofs.Common.{◌≡◌, ◌∙◌, ◌∷◌, ℕ, suc, List, [], ap, length, map, refl, sym}
use Rattle.std.proofs.lemmas.List.{length-map}
use Rattle.td_check.specs.model.OperatorTypes.{attribute_type}
use Rattle.td_engine.specs.model.Assignments.{setting_names}
use Rattle.td_engine.specs.code.AssignedRelations.{setting_attribute}
use Rattle.td_eval.proofs.code_lemmas.WalkedLists.{as_many}
use Rattle.td_tree.specs.declared.expression.NamedExpr.{NamedExpr}
use Rattle.td_tree.specs.model.Outcomes.{Outcome, Valued, Refused, gathered, with_value}
use Rattle.td_tree.specs.code.TreeViews.{named_view}
use Rattle.td_types.proofs.OutcomeLaws.{valued_is, values_of_both}
use Rattle.td_types.specs.model.Types.{Attribute, Heading, Type', attribute_names}

pub settings_are : (h : Heading) (xs : List NamedExpr) → map (λ (s : NamedExpr). setting_attribute h s.name) xs ≡ map (setting_attribute h) (setting_names (named_view xs))
settings_are h [] = refl
settings_are h (x ∷ xs) = ap (λ os. setting_attribute h x.name ∷ os) (settings_are h xs)

pub as_many_settings : (xs : List NamedExpr) → length (setting_names (named_view xs)) ≡ length xs
as_many_settings [] = refl
as_many_settings (x ∷ xs) = ap suc (as_many_settings xs)

-- the attribute has the name
has_name : (h : Heading) (n : List ℕ) (a : Attribute) → setting_attribute h n ≡ Valued a → a.0 ≡ n
has_name h n a e = by_type (attribute_type n h) e
  where
    by_type : (o : Outcome Type') → with_value o (λ t. Valued (n, t)) ≡ Valued a → a.0 ≡ n
    by_type (Valued t) e = ap (λ (b : Attribute). b.0) (sym (valued_is (n, t) a e))
    by_type (Refused cs) e = absurd (cc)

-- the attributes have the names
pub names_are : (h : Heading) (ns : List (List ℕ)) (attributes : List Attribute) → gathered (map (setting_attribute h) ns) ≡ Valued attributes → attribute_names attributes ≡ ns
names_are h [] attributes e = ap attribute_names (valued_is attributes [] (sym e))
names_are h (n ∷ ns) attributes e =
    let is = values_of_both (setting_attribute h n) (gathered (map (setting_attribute h) ns)) (λ b bs. Valued (b ∷ bs)) attributes e in
    ap attribute_names (valued_is attributes (is.0 ∷ is.1) (sym is.4))
    ∙ (λ i. has_name h n is.0 is.2 i ∷ names_are h ns is.1 is.3 i)

pub as_many_attributes : (h : Heading) (xs : List NamedExpr) (attributes : List Attribute)
    → gathered (map (setting_attribute h) (setting_names (named_view xs))) ≡ Valued attributes → length attributes ≡ length xs
as_many_attributes h xs attributes e =
    as_many (map (setting_attribute h) (setting_names (named_view xs))) attributes e
    ∙ length-map (setting_names (named_view xs)) (setting_attribute h) ∙ as_many_settings xs
