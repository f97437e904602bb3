use Rattle.std.proofs.Common.{◌∙◌, ◌++◌, ap, map}
use Rattle.td_types.specs.model.Headings.{are_distinct}
use Rattle.td_algebra.specs.code.Layouts.{sources_outside}
use Rattle.td_algebra.proofs.Sources.{distinct_outside}
use Rattle.td_algebra.proofs.layout.kept_layout.Goals as goal

pub new-requires : goal.new-requires
new-requires c =
    let sources = c.in_ok-put_sources.ensures ∙ ap (λ ss. ss ++ sources_outside c.in_ok-dropped.dropped 0 c.args.heading.now) c.new-sources.ensures.items in
    ap (λ ss. are_distinct (map (λ s. s.0) ss)) sources ∙ distinct_outside c.in_ok-dropped.dropped 0 c.args.heading.now c.reveal.ensures.heading
