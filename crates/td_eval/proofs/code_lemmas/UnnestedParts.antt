-- The heading of the attribute that UNGROUP and UNWRAP put the inside of in its place, and what follows of it.
use Rattle.std.proofs.Common.{◌≡◌, ℕ, true, List, None, Option, Some, refl, subst}
use Rattle.td_check.specs.model.OperatorTypes.{attribute_type, known_or, over_relation, over_tuple}
use Rattle.td_group.specs.model.Nesting.{heading_inside, inner_heading, is_relation_type, is_tuple_type}
use Rattle.td_tree.specs.declared.cause.Cause.TheVariants as causes
use Rattle.td_tree.specs.model.Outcomes.{Outcome, Valued, with_value}
use Rattle.td_types.proofs.OutcomeLaws.{valued_is}
use Rattle.td_types.specs.model.Types.{Heading, Type', type_at, unpack}
use Rattle.td_types.specs.model.Types as types
use Rattle.td_value.specs.model.Values.{Val}

-- an attribute of a relation type is there, the heading is inside it, and what follows of that heading is the answer
abbrev pub HasRelationPart : List ℕ → Heading → Heading → Type 0
HasRelationPart name h part =
    (is_relation_type (type_at name h) ≡ true) × (inner_heading name h ≡ part)
    × ((o : Outcome Val) → with_value (attribute_type name h) (λ t. over_relation t (λ g. o)) ≡ o)

relation_found : (t : Option Type') (part : Heading) → with_value (known_or causes.Heading t) (λ s. over_relation s Valued) ≡ Valued part
    → (is_relation_type t ≡ true) × (heading_inside t ≡ part)
    × ((o : Outcome Val) → with_value (known_or causes.Heading t) (λ s. over_relation s (λ g. o)) ≡ o)
relation_found None part e = absurd (cc)
relation_found (Some (types.relation xs)) part e = (refl, valued_is (unpack xs) part e, λ o. refl)
relation_found (Some _) part e = absurd (cc)

pub relation_there : (name : List ℕ) (g h part : Heading) → g ≡ h → with_value (attribute_type name g) (λ t. over_relation t Valued) ≡ Valued part
    → HasRelationPart name h part
relation_there name g h part same e = subst (λ k. HasRelationPart name k part) same (relation_found (type_at name g) part e)

-- the same of a tuple type
abbrev pub HasTuplePart : List ℕ → Heading → Heading → Type 0
HasTuplePart name h part =
    (is_tuple_type (type_at name h) ≡ true) × (inner_heading name h ≡ part)
    × ((o : Outcome Val) → with_value (attribute_type name h) (λ t. over_tuple t (λ g. o)) ≡ o)

tuple_found : (t : Option Type') (part : Heading) → with_value (known_or causes.Heading t) (λ s. over_tuple s Valued) ≡ Valued part
    → (is_tuple_type t ≡ true) × (heading_inside t ≡ part)
    × ((o : Outcome Val) → with_value (known_or causes.Heading t) (λ s. over_tuple s (λ g. o)) ≡ o)
tuple_found None part e = absurd (cc)
tuple_found (Some (types.tuple xs)) part e = (refl, valued_is (unpack xs) part e, λ o. refl)
tuple_found (Some _) part e = absurd (cc)

pub tuple_there : (name : List ℕ) (g h part : Heading) → g ≡ h → with_value (attribute_type name g) (λ t. over_tuple t Valued) ≡ Valued part
    → HasTuplePart name h part
tuple_there name g h part same e = subst (λ k. HasTuplePart name k part) same (tuple_found (type_at name g) part e)
