use Rattle.std.proofs.Common.{◌≡◌, false, sym, ◌∙◌, subst, arith}
use Rattle.std.specs.Prelude.{is_some}
use Rattle.td_types.specs.model.Types.{IsHeading, pack, type_at}
use Rattle.td_types.specs.code.Views.{heading_view, type_view}
use Rattle.td_tree.specs.model.Names.{IsName}
use Rattle.td_types.specs.model.Headings.{with_attribute}
use Rattle.td_types.proofs.HeadingLaws.{IsHeading-with}
use Rattle.td_types.proofs.Attributes.{attributes_of-insert, place_within, found}
use Rattle.td_types.proofs.heading.Heading.add.Goals as goal

pub insert-requires : goal.insert-requires
insert-requires c = omega (arith, place_within c.self.inside.attributes.items c.args.self c.self.view_is _ c.place_of-place.result c.place_of-place.ensures)

pub invariant_of-result : goal.invariant_of-result
invariant_of-result c =
    let none : is_some (type_at c.args.name c.args.self) ≡ false = found _ _ _ c.get.ensures ∙ sym c.is_some.ensures ∙ c.if-is_some.false in
    let items = rw c.in_ok-insert.was at c.insert.ensures.items in
    let is : heading_view c.insert.new.self.items ≡ with_attribute c.args.self (c.args.name, type_view c.args.ty) =
    rw items (attributes_of-insert c.self.inside.attributes.items c.args.self c.self.view_is _ _ c.place_of-place.ensures none) in
    subst (λ h. IsHeading (pack h)) (sym is) (IsHeading-with c.args.name (type_view c.args.ty) c.args.self (subst IsName c.name.view_is c.name.invariant) c.reveal.ensures (subst (λ h. IsHeading (pack h)) c.self.view_is c.self.invariant))

pub returns : goal.returns
returns c =
    let none : is_some (type_at c.args.name c.args.self) ≡ false = found _ _ _ c.get.ensures ∙ sym c.is_some.ensures ∙ c.if-is_some.false in
    let items = rw c.in_ok-insert.was at c.insert.ensures.items in
    rw (none, items) (attributes_of-insert c.self.inside.attributes.items c.args.self c.self.view_is _ _ c.place_of-place.ensures none)
