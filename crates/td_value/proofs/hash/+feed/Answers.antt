use Rattle.std.proofs.Common.{◌∙◌, ap, sym, fold, arith}
use Rattle.td_value.specs.code.Hashes.{fed_parts}
use Rattle.td_value.specs.model.Values.{pack_parts}
use Rattle.td_value.proofs.Falls.{values_fall}
use Rattle.td_value.proofs.Own.{fed_by_own_values}
use Rattle.td_value.proofs.hash.+feed.Goals as goal

pub feed_tuple-feed_parts-requires : goal.feed_tuple-feed_parts-requires
feed_tuple-feed_parts-requires g t c = λ κs lives. (omega (arith, c.decreases, values_fall c.args.t.now c.values.result.now c.values.ensures.values), lives)

pub feed_tuple-returns : goal.feed_tuple-returns
feed_tuple-returns g t c =
    c.feed_parts.ensures ∙ ap (fold g.H.Hasher.write c.args.state.now)
    (ap (λ vs. fed_parts (pack_parts vs)) c.values.ensures.values ∙ sym (fed_by_own_values c.args.t.now))
