use Rattle.std.proofs.Common.{◌≡◌, ◌∙◌, [], ap, rules, sym}
use Rattle.std.specs.Prelude.{Some}
use Rattle.td_types.specs.code.TypeCode.{unpack_pack}
use Rattle.td_types.specs.model.Headings.{have_no_common, without_attribute}
use Rattle.td_types.specs.code.Views.{type_view}
use Rattle.td_group.specs.model.Nesting.{heading_inside, inner_heading}
use Rattle.td_group.proofs.NestTests.{apart_from_none}
use Rattle.td_group.proofs.nesting.can_unnest.Goals as goal

pub returns-in-Some-Tup : goal.returns-in-Some-Tup
returns-in-Some-Tup c =
    let inside : inner_heading c.args.name.now c.args.heading.now ≡ c.in-Some-Tup.inner =
    ap heading_inside (sym c.in-Some-Tup.ensures ∙ ap (λ t. Some (type_view t)) c.in-Some-Tup.field-0-is) ∙ unpack_pack c.in-Some-Tup.inner in
    c.is_apart_but_for.ensures ∙ ap (have_no_common (without_attribute c.args.name.now c.args.heading.now)) (sym inside)

pub returns-in-Some-Rel : goal.returns-in-Some-Rel
returns-in-Some-Rel c =
    let inside : inner_heading c.args.name.now c.args.heading.now ≡ c.in-Some-Rel.inner =
    ap heading_inside (sym c.in-Some-Rel.ensures ∙ ap (λ t. Some (type_view t)) c.in-Some-Rel.field-0-is) ∙ unpack_pack c.in-Some-Rel.inner in
    c.is_apart_but_for-in-Some-Rel.ensures ∙ ap (have_no_common (without_attribute c.args.name.now c.args.heading.now)) (sym inside)

pub returns-in_default : goal.returns-in_default
returns-in_default c =
    let inside : inner_heading c.args.name.now c.args.heading.now ≡ [] = search rules in
    sym (ap (have_no_common (without_attribute c.args.name.now c.args.heading.now)) inside ∙ apart_from_none (without_attribute c.args.name.now c.args.heading.now))

pub returns-in_default-2 : goal.returns-in_default-2
returns-in_default-2 c =
    let inside : inner_heading c.args.name.now c.args.heading.now ≡ [] = search rules in
    sym (ap (have_no_common (without_attribute c.args.name.now c.args.heading.now)) inside ∙ apart_from_none (without_attribute c.args.name.now c.args.heading.now))
