use Rattle.td_eval.proofs.code_lemmas.OpElements.{headed_of}
use Rattle.td_value.specs.model.Values.{relation_of}
use Rattle.td_eval.proofs.operators.elements.headed_value.Goals as goal

pub returns : goal.returns
returns c =
    headed_of c.args.heading c.args.elements.now c.in_ok-tuples.tuples.items _ c.in_ok-tuples.ensures.answer
    (c.as_value.ensures (relation_of c.args.heading c.in_ok-tuples.tuples.items) c.new.ensures.value)
