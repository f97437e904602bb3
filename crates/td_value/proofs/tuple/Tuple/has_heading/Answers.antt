use Rattle.std.proofs.Common.{◌∙◌, ap, sym}
use Rattle.std.specs.Ordering.{is_eq}
use Rattle.td_types.specs.model.Types.{attrs_cmp}
use Rattle.td_value.proofs.HeadingOf.{fields_type-heading}
use Rattle.td_types.specs.model.Types.{pack}
use Rattle.td_value.specs.model.Values.{fields_type, pack_fields}
use Rattle.td_value.proofs.Headed.{headings_tie}
use Rattle.td_value.proofs.Rows.{IsTupleOf-from}
use Rattle.td_value.proofs.tuple.Tuple.has_heading.Goals as goal

pub returns-clause-fits : goal.returns-clause-fits
returns-clause-fits c =
    let valid = c.reveal.ensures in
    let tie = headings_tie (fields_type (pack_fields c.args.self.now)) (pack c.args.heading.now) in (
      λ e. IsTupleOf-from c.args.heading.now c.args.self.now valid (tie.0 (sym c.tuple_has_heading.ensures ∙ e)),
      λ p. c.tuple_has_heading.ensures ∙ tie.1 (fields_type-heading c.args.self.now ∙ ap pack p.1),
    )

pub returns-clause-test : goal.returns-clause-test
returns-clause-test c = c.tuple_has_heading.ensures ∙ ap (λ g. is_eq (attrs_cmp g (pack c.args.heading.now))) (fields_type-heading c.args.self.now)
