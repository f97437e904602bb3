use Rattle.std.proofs.Common.{◌≡◌, ◌∙◌, ap, sym}
use Rattle.std.specs.Prelude.{Some}
use Rattle.td_types.specs.code.TypeCode.{unpack_pack}
use Rattle.td_types.specs.code.Views.{type_view}
use Rattle.td_algebra.proofs.Keys.{if_ok}
use Rattle.td_group.specs.model.Nesting.{heading_inside, inner_heading}
use Rattle.td_group.proofs.unnesting.inner_heading.Goals as goal

pub returns-in-Some-Tup : goal.returns-in-Some-Tup
returns-in-Some-Tup c =
    let inside : inner_heading c.args.name.now c.args.heading.now ≡ c.in-Some-Tup.inner =
    ap heading_inside (sym c.in-Some-Tup.ensures ∙ ap (λ t. Some (type_view t)) c.in-Some-Tup.field-0-is) ∙ unpack_pack c.in-Some-Tup.inner in
    if_ok (λ h. h ≡ c.in-Some-Tup.inner) (λ h. h ≡ inner_heading c.args.name.now c.args.heading.now) c.try_clone.result (λ h e. e ∙ sym inside) c.try_clone.ensures

pub returns-in-Some-Rel : goal.returns-in-Some-Rel
returns-in-Some-Rel c =
    let inside : inner_heading c.args.name.now c.args.heading.now ≡ c.in-Some-Rel.inner =
    ap heading_inside (sym c.in-Some-Rel.ensures ∙ ap (λ t. Some (type_view t)) c.in-Some-Rel.field-0-is) ∙ unpack_pack c.in-Some-Rel.inner in
    if_ok (λ h. h ≡ c.in-Some-Rel.inner) (λ h. h ≡ inner_heading c.args.name.now c.args.heading.now) c.try_clone-in-Some-Rel.result (λ h e. e ∙ sym inside) c.try_clone-in-Some-Rel.ensures
