use Rattle.std.proofs.Common.{◌≡◌, drop, fold}
use Rattle.td_value.specs.code.Hashes.{fed_parts, fed_rows}
use Rattle.td_value.specs.model.Values.{pack_rows, pack_parts}
use Rattle.td_value.proofs.hash.+feed.Given as goal

abbrev pub invariant-feed_parts-loop-v : goal.invariant-feed_parts-loop-v
invariant-feed_parts-loop-v g l = fold g.H.Hasher.write l.state (fed_parts (pack_parts (drop l.v-index l.values))) ≡ fold g.H.Hasher.write l.initial.state (fed_parts (pack_parts l.values))

abbrev pub invariant-feed_rows-loop-t : goal.invariant-feed_rows-loop-t
invariant-feed_rows-loop-t g l = fold g.H.Hasher.write l.state (fed_rows (pack_rows (drop l.t-index l.rows))) ≡ fold g.H.Hasher.write l.initial.state (fed_rows (pack_rows l.rows))
