use Rattle.std.proofs.Common.{◌≡◌, drop, fold}
use Rattle.td_types.specs.code.Hashes.{fed_heading}
use Rattle.td_types.specs.model.Types.{pack}
use Rattle.td_types.specs.code.Views.{heading_view}
use Rattle.td_types.proofs.hash.+feed.Given as goal

abbrev pub invariant-feed_heading-loop-attribute : goal.invariant-feed_heading-loop-attribute
invariant-feed_heading-loop-attribute g l =
    fold g.H.Hasher.write l.state (fed_heading (pack (heading_view (drop l.attribute-index l.attribute-items)))) ≡ fold g.H.Hasher.write l.initial.state (fed_heading (pack (heading_view l.attribute-items)))
