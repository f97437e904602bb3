-- What is left of a heading, and of its tuples, without some attributes.
use Rattle.std.proofs.Common.{◌≡◌, ◌∙◌, ap, sym, refl, subst, ℕ, Bool, true, false, List, Option, None, Some, filter}
use Rattle.std.specs.Prelude.{if◌then◌else◌, is_some}
use Rattle.td_types.specs.model.Headings.{projection}
use Rattle.td_types.specs.model.Types.{Heading, IsHeading, attribute_names, pack, type_at}
use Rattle.td_types.proofs.HeadingLaws.{IsAscending-filter, IsAscending-projection, ascending_from_heading, has_attribute-names, type_at-filter, type_at-projection, types_determine_heading}
use Rattle.td_value.specs.model.Values.{IsTupleOf, Tuple, projected_tuple}
use Rattle.td_algebra.proofs.Projections.{IsTupleOf-projected}

-- the attributes whose names pass a test
module _ (q : List ℕ → Bool) (h : Heading) where
  abbrev kept : Heading
  kept = filter (λ a. q a.0) h

  -- they are the projection on their names
  pub rest_of_names : IsHeading (pack h) → projection (attribute_names kept) h ≡ kept
  rest_of_names p =
      let up = ascending_from_heading h p in
      types_determine_heading (projection (attribute_names kept) h) kept (IsAscending-projection (attribute_names kept) h up) (IsAscending-filter q h up)
      (λ n. type_at-projection (attribute_names kept) n h ∙ ap (λ b. if b then type_at n h else None) (sym (has_attribute-names n kept) ∙ ap is_some (type_at-filter q n h))
      ∙ by_name n (q n) ∙ sym (type_at-filter q n h))
    where
      there : {A : Type 0} (o : Option A) → (if is_some o then o else None) ≡ o
      there None = refl
      there (Some x) = refl

      by_name : (n : List ℕ) (b : Bool) → (if is_some (if b then type_at n h else None) then type_at n h else None) ≡ (if b then type_at n h else None)
      by_name n true = there (type_at n h)
      by_name n false = refl

  -- and a tuple on their names is one of them
  pub rest_headed : (t : Tuple) → IsTupleOf h t → IsTupleOf kept (projected_tuple (attribute_names kept) t)
  rest_headed t p = subst (λ g. IsTupleOf g (projected_tuple (attribute_names kept) t)) (rest_of_names p.2) (IsTupleOf-projected (attribute_names kept) h t p)
