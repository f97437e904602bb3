use Rattle.std.proofs.Common.{◌∙◌, ◌∷◌, ◌++◌, [], ap, sym, subst}
use Rattle.std.proofs.lemmas.List.{map-append, map-id}
use Rattle.std.proofs.lemmas.Iterator.Adapters.{YieldsList-from_vec}
use Rattle.std.proofs.lemmas.Iterator.Consumers.{YieldsList-end}
use Rattle.td_value.specs.model.Values.{AreFields, Tuple, IsValue, pack_fields}
use Rattle.td_value.specs.code.Views.{values_of}
use Rattle.td_value.proofs.Zips.{AreFields-push}
use Rattle.td_value.proofs.tuple.values_alone.Goals as goal

pub loop-name-preserved : goal.loop-name-preserved
loop-name-preserved c =
    let more : Tuple = (c.in-Some.name, c.in-Some.value) ∷ [] in
    let es : Tuple = c.loop-name.yielded in (
      c.in_ok-put.ensures.ok ∙ ap (λ vs. vs ++ c.in-Some.value ∷ []) c.loop-name.invariant.0 ∙ sym (map-append (λ e. e.1) es more),
      AreFields-push es c.in-Some.name c.in-Some.value c.loop-name.invariant.1 c.reveal.ensures (subst IsValue c.value.view_is c.value.invariant),
    )

pub returns-clause-values : goal.returns-clause-values
returns-clause-values c =
    let end = YieldsList-end (YieldsList-from_vec c.args.entries.items (cc) (cc)) c.loop-name.yielded c.loop-name.name-iterator c.loop-name.yielded_by c.next.result c.next.new.self c.in-None.is c.next.ensures.steps in
    c.loop-name.invariant.0 ∙ ap values_of (sym (map-id c.loop-name.yielded) ∙ end.0)

pub returns-clause-valid : goal.returns-clause-valid
returns-clause-valid c =
    let end = YieldsList-end (YieldsList-from_vec c.args.entries.items (cc) (cc)) c.loop-name.yielded c.loop-name.name-iterator c.loop-name.yielded_by c.next.result c.next.new.self c.in-None.is c.next.ensures.steps in
    subst (λ es. AreFields (pack_fields es)) (sym (map-id c.loop-name.yielded) ∙ end.0) c.loop-name.invariant.1
