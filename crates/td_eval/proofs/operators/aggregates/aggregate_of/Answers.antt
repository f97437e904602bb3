use Rattle.std.proofs.Common.{◌≡◌, ◌∙◌, rules, sym, tests}
use Rattle.std.proofs.lemmas.Iterator.{YieldsList-from_slice}
use Rattle.std.proofs.lemmas.Iterator.Search.{all_from_yields_List}
use Rattle.td_eval.proofs.code_lemmas.WalkedTotals.{aggregate_given}
use Rattle.td_eval.specs.model.AggregateValues.{takes}
use Rattle.td_value.specs.model.Values.{Val}
use Rattle.td_eval.proofs.operators.aggregates.aggregate_of.Goals as goal

pub returns-then-all : goal.returns-then-all
returns-then-all c =
    let each : c.all.result ≡ _ =
    all_from_yields_List (λ (v : Val). takes c.args.asked v) _ _ c.all.result c.all.ensures.ran
    (YieldsList-from_slice c.args.values.now (cc)) (λ x b q k. search (rules, tests)) in
    aggregate_given c.args.asked c.args.values.now c.aggregate.result (sym each ∙ c.if-all.true) c.aggregate.ensures
