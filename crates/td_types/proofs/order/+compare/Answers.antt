use Rattle.std.proofs.Common.{◌≡◌, ℕ, zero, suc, ◌<◌, List, [], ◌∷◌, length, drop, refl, ◌∙◌, arith, Less}
use Rattle.std.proofs.lemmas.List.{drop_all}
use Rattle.td_types.specs.model.Types.{attrs_cmp, pack, no_attrs}
use Rattle.td_types.specs.code.Views.{heading_view}
use Rattle.td_types.specs.declared.heading.Attribute.{Attribute}
use Rattle.td_types.proofs.order.+compare.Goals as goal

first_ends : (ys : List Attribute) (i : ℕ) → i < length ys → Less ≡ attrs_cmp no_attrs (pack (heading_view (drop i ys)))
first_ends [] i k = absurd (omega arith)
first_ends (y ∷ ys) zero k = refl
first_ends (y ∷ ys) (suc i) k = first_ends ys i (omega arith)

pub compare_attributes-returns-else-place-b-2 : goal.compare_attributes-returns-else-place-b-2
compare_attributes-returns-else-place-b-2 t c =
    let l = c.loop-x in
    let none : drop l.place c.args.a.now ≡ [] = drop_all l.place c.args.a.now (omega arith) in
    first_ends c.args.b.now l.place (omega arith) ∙ (rw none at l.invariant.2)
