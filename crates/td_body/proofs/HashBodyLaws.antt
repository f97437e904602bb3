-- What a hashed body keeps, after a change and after a way back.
use Rattle.std.proofs.Common.{◌≡◌, ◌∙◌, ◌+◌, ◌-◌, ◌∷◌, ◌++◌, ℕ, List, [], ap, arith, length, length-append, refl, subst, sym}
use Rattle.std.specs.List.{All, flat_map}
use Rattle.std.proofs.lemmas.List.{append-nil, append_assoc, get_or_append_left}
use Rattle.std.proofs.lemmas.List.Elements.{All-append, All-contains, Contains-push}
use Rattle.td_types.specs.model.Types.{attribute_names}
use Rattle.td_value.specs.model.Values.{Relation}
use Rattle.td_body.specs.model.Bodies.{HaveOneHeading}
use Rattle.td_body.specs.code.HashBodies.{IsHashBody, IsPlacedFor, held_by, kept_with_aside}
use Rattle.td_body.specs.code.Members.{ArePlaced, Members}
use Rattle.td_body.proofs.MembersLaws.{none_there, one}

-- what was held by members, and by others after them
pub held_append : (xs ys : List Members) → flat_map held_by (xs ++ ys) ≡ flat_map held_by xs ++ flat_map held_by ys
held_append [] ys = refl
held_append (x ∷ xs) ys = ap (λ l. held_by x ++ l) (held_append xs ys) ∙ sym (append_assoc (held_by x) (flat_map held_by xs) (flat_map held_by ys))

-- members that are put aside for those that keep nothing
pub kept_aside : (aside : List Members) (before now : Members) → now.kept ≡ [] → kept_with_aside (aside ++ before ∷ []) now ≡ kept_with_aside aside before ++ before.relation ∷ []
kept_aside aside before now none =
    (λ i. held_append aside (before ∷ []) i ++ none i) ∙ append-nil (flat_map held_by aside ++ (held_by before ++ []))
    ∙ ap (λ l. flat_map held_by aside ++ l) (append-nil (held_by before)) ∙ sym (append_assoc (flat_map held_by aside) before.kept (before.relation ∷ []))

-- members that keep one relation more
pub kept_more : (aside : List Members) (old new : Members) → new.kept ≡ old.kept ++ old.relation ∷ [] → kept_with_aside aside new ≡ kept_with_aside aside old ++ old.relation ∷ []
kept_more aside old new e = ap (λ l. flat_map held_by aside ++ l) e ∙ sym (append_assoc (flat_map held_by aside) old.kept (old.relation ∷ []))

front_headed : (r : Relation) (xs : List Relation) (x : Relation) → HaveOneHeading r (xs ++ x ∷ []) → HaveOneHeading r xs
front_headed r xs x all k d low =
    subst (λ (s : Relation). s.heading ≡ r.heading) (get_or_append_left xs (x ∷ []) d k low) (all k d (omega (arith, length-append xs (x ∷ []))))

pub last_headed : (r : Relation) (xs : List Relation) (x : Relation) → HaveOneHeading r (xs ++ x ∷ []) → x.heading ≡ r.heading
last_headed r xs x all = All-contains (λ (s : Relation). s.heading ≡ r.heading) (xs ++ x ∷ []) x all (Contains-push xs x)

other_heading : (r s : Relation) (xs : List Relation) → r.heading ≡ s.heading → HaveOneHeading r xs → HaveOneHeading s xs
other_heading r s xs e all k d low = all k d low ∙ e

module _ (keys : List (List (List ℕ))) where
  -- members of the same heading and places are placed for the same keys
  pub placed_same : (old new : Members) → new.relation.heading ≡ old.relation.heading → new.places ≡ old.places → IsPlacedFor keys old → IsPlacedFor keys new
  placed_same old new h p placed = subst (λ ns. ArePlaced keys ns new.places) (ap attribute_names (sym h)) (subst (ArePlaced keys (attribute_names old.relation.heading)) (sym p) placed)

  -- a change of which the relation before it is kept
  pub body_changed : (m n : Members) (aside next : List Members) (count : ℕ) → IsHashBody keys m aside count → n.relation.heading ≡ m.relation.heading
      → kept_with_aside next n ≡ kept_with_aside aside m ++ m.relation ∷ [] → IsPlacedFor keys n → All (IsPlacedFor keys) next → IsHashBody keys n next (count + 1)
  body_changed m n aside next count b h kept placed placed_aside = record {
    counted = omega (arith, b.counted, ap length kept, length-append (kept_with_aside aside m) (m.relation ∷ []));
    headings = subst (HaveOneHeading n.relation) (sym kept)
        (other_heading m.relation n.relation (kept_with_aside aside m ++ m.relation ∷ []) (sym h)
        (All-append (λ (s : Relation). s.heading ≡ m.relation.heading) (kept_with_aside aside m) (m.relation ∷ []) b.headings (one (λ (s : Relation). s.heading ≡ m.relation.heading) m.relation refl)));
    placed = placed;
    placed_aside = placed_aside;
  }

  -- members that keep nothing, with nothing aside
  pub body_empty : (m : Members) (aside : List Members) → aside ≡ [] → m.kept ≡ [] → IsPlacedFor keys m → IsHashBody keys m aside 0
  body_empty m aside none kept placed =
      let all : kept_with_aside aside m ≡ [] = (λ i. flat_map held_by (none i) ++ kept i) in
      record {
        counted = sym (ap length all);
        headings = subst (HaveOneHeading m.relation) (sym all) (λ k d low. absurd (omega arith));
        placed = placed;
        placed_aside = subst (All (IsPlacedFor keys)) (sym none) (λ k d low. absurd (omega arith));
      }

  -- a way back to the relation that was kept last
  pub body_back : (m n : Members) (aside next : List Members) (count : ℕ) → IsHashBody keys m aside count
      → kept_with_aside aside m ≡ kept_with_aside next n ++ n.relation ∷ [] → IsPlacedFor keys n → All (IsPlacedFor keys) next → IsHashBody keys n next (count - 1)
  body_back m n aside next count b kept placed placed_aside =
      let all : HaveOneHeading m.relation (kept_with_aside next n ++ n.relation ∷ []) = subst (HaveOneHeading m.relation) kept b.headings in
      record {
        counted = omega (arith, b.counted, ap length kept, length-append (kept_with_aside next n) (n.relation ∷ []));
        headings = other_heading m.relation n.relation (kept_with_aside next n) (sym (last_headed m.relation (kept_with_aside next n) n.relation all)) (front_headed m.relation (kept_with_aside next n) n.relation all);
        placed = placed;
        placed_aside = placed_aside;
      }

-- what keeps nothing has put nothing aside
pub nothing_aside : (aside : List Members) (m : Members) → kept_with_aside aside m ≡ [] → aside ≡ []
nothing_aside [] m e = refl
nothing_aside (a ∷ aside) m e =
    absurd (omega (arith, ap length e, length-append (flat_map held_by (a ∷ aside)) m.kept, length-append (held_by a) (flat_map held_by aside), length-append a.kept (a.relation ∷ [])))

module _ (keys : List (List (List ℕ))) where
  -- members that hold and keep the same
  pub body_same : (m n : Members) (aside next : List Members) (count : ℕ) → IsHashBody keys m aside count → n.relation ≡ m.relation
      → kept_with_aside next n ≡ kept_with_aside aside m → IsPlacedFor keys n → All (IsPlacedFor keys) next → IsHashBody keys n next count
  body_same m n aside next count b same kept placed placed_aside = record {
    counted = b.counted ∙ ap length (sym kept);
    headings = subst (HaveOneHeading n.relation) (sym kept) (other_heading m.relation n.relation (kept_with_aside aside m) (ap (λ r. r.heading) (sym same)) b.headings);
    placed = placed;
    placed_aside = placed_aside;
  }

  -- members that are put in order
  pub body_compacted : (m n : Members) (aside : List Members) (count : ℕ) → IsHashBody keys m aside count → n.relation ≡ m.relation → n.kept ≡ m.kept → n.places ≡ m.places
      → IsHashBody keys n aside count
  body_compacted m n aside count b same kept places =
      body_same m n aside aside count b same (ap (λ l. flat_map held_by aside ++ l) kept) (placed_same keys m n (ap (λ r. r.heading) same) places b.placed) b.placed_aside
