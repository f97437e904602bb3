use Rattle.std.proofs.Common.{◌∙◌, ap, sym, subst, arith, drop}
use Rattle.std.proofs.lemmas.List.{length-drop}
use Rattle.td_value.proofs.Cut.{cut_names}
use Rattle.td_value.specs.model.Values.{IsTuple, tuple_names}
use Rattle.td_value.proofs.tuple.Tuple.names.Goals as goal

pub returns-clause-names : goal.returns-clause-names
returns-clause-names c =
    let b = c.self.inside.block.value in
    let start = c.self.inside.start in
    c.as_slice.ensures.value ∙ ap (λ v. v.items) c.deref-2.ensures ∙ ap (λ x. x.names.value.items) c.deref.ensures
    ∙ sym (cut_names b.names.value.items (drop start b.cells.items) (omega (arith, c.self.invariant.inside, length-drop start b.cells.items)))
    ∙ ap tuple_names c.self.view_is

pub returns-clause-valid : goal.returns-clause-valid
returns-clause-valid c = subst IsTuple c.self.view_is c.self.invariant.is_tuple
