use Rattle.std.proofs.Common.{◌∙◌, Err, ap, map, option_map, sym}
use Rattle.std.proofs.lemmas.Result.{err_from_is_err_and}
use Rattle.std.specs.Prelude.{⊤}
use Rattle.td_check.proofs.StatementAnswers.{base_asked, init_answers, parts_answer, parts_have}
use Rattle.td_types.specs.model.Types.{Heading}
use Rattle.td_types.specs.code.Views.{type_view}
use Rattle.td_check.proofs.statement.definitions.check_base.Goals as goal

pub returns-in_err-heading : goal.returns-in_err-heading
returns-in_err-heading c =
    let e = err_from_is_err_and c.from_residual.result c.from_residual.ensures.1 in
    rw e.1
    (parts_answer (λ (h : Heading). h) (option_map type_view) (λ (u : ⊤). u) (base_asked c.args.scope.now.types (map (λ key. key.items) c.args.definition.now.keys.items))
    c.resolve_heading-heading.result c.type_if_given-init.result _ _ e.0 (sym c.in_err-heading.ensures ∙ ap Err (sym e.2))
    (rw (c.types.ensures, c.deref.ensures.value) at c.resolve_heading-heading.ensures)
    (init_answers c.args.scope.now _ c.type_if_given-init.result c.as_ref.result c.args.definition.now.init c.outside.ensures c.as_ref.ensures.value c.type_if_given-init.ensures))

pub returns : goal.returns
returns c =
    rw (parts_have (λ (h : Heading). h) (option_map type_view) (base_asked c.args.scope.now.types (map (λ key. key.items) c.args.definition.now.keys.items))
    c.resolve_heading-heading.result c.type_if_given-init.result _ _ (c.in_ok-heading.heading, c.in_ok-heading.init) (sym c.in_ok-heading.ensures)
    (rw (c.types.ensures, c.deref.ensures.value) at c.resolve_heading-heading.ensures)
    (init_answers c.args.scope.now _ c.type_if_given-init.result c.as_ref.result c.args.definition.now.init c.outside.ensures c.as_ref.ensures.value c.type_if_given-init.ensures))
    (rw (c.types-2.ensures, c.deref-2.ensures.value) at c.base_fits.ensures)
