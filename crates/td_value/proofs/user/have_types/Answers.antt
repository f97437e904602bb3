use Rattle.std.proofs.Common.{◌≡◌, ◌∙◌, ℕ, zero, suc, ◌<◌, List, [], ◌∷◌, ap, sym, subst, arith, length, get_or, map, true≢false}
use Rattle.td_types.specs.model.Types.{Type'}
use Rattle.td_types.specs.code.Views.{pairs_view, type_view}
use Rattle.td_types.specs.declared.ty.Ty.{Ty}
use Rattle.td_value.specs.model.Values.{HaveTypesOf, Val, type_of}
use Rattle.td_value.proofs.user.have_types.Goals as goal

front : (s t : Type') (ss ts : List Type') → s ∷ ss ≡ t ∷ ts → (s ≡ t) × (ss ≡ ts)
front s t ss ts e = (cc, cc)

-- each value has the type at its place
types_at : (vs : List Val) (cs : List (List ℕ × Ty)) (i : ℕ) (v : Val) (c : List ℕ × Ty) → HaveTypesOf vs (pairs_view cs) → i < length vs
    → v ≡ get_or vs i v → type_of v ≡ type_view (get_or cs i c).1
types_at [] cs i v c h k p = absurd (omega (arith, k))
types_at (w ∷ vs) [] i v c h k p = absurd (cc)
types_at (w ∷ vs) (d ∷ cs) zero v c h k p = ap type_of p ∙ (front (type_of w) (type_view d.1) (map type_of vs) (map (λ a. a.1) (pairs_view cs)) h).0
types_at (w ∷ vs) (d ∷ cs) (suc i) v c h k p =
    types_at vs cs i v c (front (type_of w) (type_view d.1) (map type_of vs) (map (λ a. a.1) (pairs_view cs)) h).1 (omega (arith, k)) p

pub returns-then-not-has_type : goal.returns-then-not-has_type
returns-then-not-has_type c =
    let here = subst (λ k. c.value-item.result ≡ get_or c.args.values.now k c.value-item.result) (sym c.loop-value.invariant.0) c.value-item.is in
    let inside : c.loop-value.place < length c.args.values.now = omega (arith, c.loop-value.invariant.0, c.loop-value-test.true) in (
      λ e. absurd (true≢false (sym e)),
      λ h. absurd (true≢false (sym (c.has_type.ensures.1 (types_at c.args.values.now c.args.components.now c.loop-value.place c.value-item.result c.index-components-place.result h inside here))
          ∙ c.if-not-has_type.true)),
    )
