use Rattle.std.proofs.Common.{◌≡◌, ◌∙◌, ◌++◌, ap, sym, subst}
use Rattle.std.specs.Prelude.{IsTrue}
use Rattle.td_types.specs.model.Headings.{are_distinct}
use Rattle.td_algebra.specs.code.Layouts.{Sources, source_names, sources_outside}
use Rattle.td_algebra.specs.code.Pairs.{pair_sources}
use Rattle.td_algebra.proofs.Pairs.{pair_distinct}
use Rattle.td_algebra.proofs.joins.pair_layout.Goals as goal

pub new-requires : goal.new-requires
new-requires c =
    let are : c.put_sources-2.new.sources.items ≡ pair_sources c.args.left_out.now c.args.start c.args.heading.now c.args.other_start c.args.other.now =
    c.in_ok-put_sources-2.ensures
    ∙ ap (λ (ss : Sources). ss ++ sources_outside c.args.heading.now c.args.other_start c.args.other.now)
    (c.in_ok-put_sources.ensures ∙ ap (λ (ss : Sources). ss ++ sources_outside c.args.left_out.now c.args.start c.args.heading.now) c.new-sources.ensures.items) in
    subst (λ ss. IsTrue (are_distinct (source_names ss))) (sym are)
    (pair_distinct c.args.left_out.now c.args.start c.args.heading.now c.args.other_start c.args.other.now c.reveal.ensures.heading c.reveal-2.ensures.heading)
