use Rattle.std.proofs.Common.{◌<◌, subst, sym, ap, ◌∙◌, option_map}
use Rattle.td_types.specs.code.Views.{type_view}
use Rattle.td_eval.proofs.code_lemmas.OpHeadings.{name_more}
use Rattle.td_eval.proofs.operators.postfix.names_in.Goals as goal

pub loop-place-preserved : goal.loop-place-preserved
loop-place-preserved c =
    name_more c.args.heading.now c.loop-place.place (c.in-Some.name.now, type_view c.in-Some.field-0-1.now) c.loop-place.names.items c.push.new.self.items c.in_ok-try_clone.field-0
    (subst (λ n. c.loop-place.place < n) c.len-place-end.ensures c.loop-place-test.true)
    (sym c.at.ensures.attribute ∙ ap (option_map (λ a. (a.0.now, type_view a.1.now))) c.in-Some.is)
    (sym c.in_ok-try_clone.ensures) c.loop-place.invariant c.in_ok-push.ensures.items
