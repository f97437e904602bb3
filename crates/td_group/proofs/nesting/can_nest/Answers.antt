use Rattle.std.proofs.Common.{◌≡◌, ◌∙◌, ap, rules, sym, tests}
use Rattle.std.specs.Prelude.{◌||◌, not}
use Rattle.td_types.specs.model.Headings.{has_attribute}
use Rattle.td_types.proofs.Attributes.{found}
use Rattle.td_group.proofs.NestTests.{nests}
use Rattle.td_group.proofs.nesting.can_nest.Goals as goal

pub returns-then-is_among : goal.returns-then-is_among
returns-then-is_among c =
    nests c.args.names.now c.args.name.now c.args.heading.now c.is_among.result (sym c.has_projection.ensures ∙ c.if-has_projection.true)
    (c.if-is_among.true ∙ ap (λ p. p || not (has_attribute c.args.name.now c.args.heading.now)) (sym c.if-is_among.true ∙ c.is_among.ensures))

pub returns-else-is_among : goal.returns-else-is_among
returns-else-is_among c =
    let lacks : c.is_none.result ≡ not (has_attribute c.args.name.now c.args.heading.now) = search (rules, tests, found) in
    nests c.args.names.now c.args.name.now c.args.heading.now c.is_none.result (sym c.has_projection.ensures ∙ c.if-has_projection.true)
    (lacks ∙ ap (λ p. p || not (has_attribute c.args.name.now c.args.heading.now)) (sym c.if-is_among.false ∙ c.is_among.ensures))
