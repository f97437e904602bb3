use Rattle.std.proofs.Common.{◌+◌, ◌<◌, ◌≤◌, ap, refl, subst, ◌∙◌, sym}
use Rattle.td_algebra.proofs.Layouts.{got_some, source_more, sources_end}
use Rattle.td_algebra.proofs.layout.put_sources.Goals as goal
use Rattle.td_algebra.proofs.layout.put_sources.Goals.{in-Some+in_ok-put_source, in_default}

pub loop-index-preserved : goal.loop-index-preserved
loop-index-preserved c = elim c.match-at.branch [
  | in-Some+in_ok-put_source w ↦
      source_more c.args.part.now c.args.start c.loop-index.index (c.args.start + c.loop-index.index) c.args.heading.now _ _ _ _
      (sym w.in-Some.ensures.attribute) refl c.loop-index.invariant (ap (λ v. v.items) w.sources-is ∙ w.in_ok-put_source.ensures)
  | in_default w ↦ absurd (got_some c.args.heading.now c.loop-index.index (subst (λ n. c.loop-index.index < n) c.len-index-end.ensures c.loop-index-test.true) (sym w.in_default.ensures.attribute))
]

pub returns : goal.returns
returns c =
    sources_end c.args.part.now (c.args.start + c.loop-index.index) c.loop-index.index c.args.heading.now _ _
    (subst (λ n. n ≤ c.loop-index.index) c.len-index-end.ensures c.loop-index-test.false) c.loop-index.invariant
