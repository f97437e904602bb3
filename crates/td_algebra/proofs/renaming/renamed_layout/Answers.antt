use Rattle.std.proofs.Common.{◌∙◌, ◌++◌, ap, map, subst, IfOk}
use Rattle.std.specs.List.Sorted.{IsPermutation}
use Rattle.td_types.specs.model.Headings.{are_distinct}
use Rattle.td_algebra.specs.code.Layouts.{numbered_sources}
use Rattle.td_algebra.proofs.Renamings.{new_names_distinct}
use Rattle.td_algebra.proofs.Taken.{names_numbered}
use Rattle.td_algebra.proofs.renaming.renamed_layout.Goals as goal

pub new-requires : goal.new-requires
new-requires c =
    let sources = c.in_ok-put_names.ensures ∙ ap (λ ss. ss ++ numbered_sources 0 c.deref.result.now) c.in_ok-sources.ensures.items in
    let names = c.deref.ensures.value ∙ c.in_ok-names.ensures in
    ap (λ ss. are_distinct (map (λ s. s.0) ss)) sources ∙ ap are_distinct (names_numbered 0 c.deref.result.now ∙ names) ∙ new_names_distinct c.args.renamings.now c.args.heading.now c.requires

pub returns : goal.returns
returns c =
    let sources = c.in_ok-put_names.ensures ∙ ap (λ ss. ss ++ numbered_sources 0 c.deref.result.now) c.in_ok-sources.ensures.items in
    let names = c.deref.ensures.value ∙ c.in_ok-names.ensures in
    subst (λ ss. IfOk c.new.result (IsPermutation ss)) (sources ∙ ap (numbered_sources 0) names) c.new.ensures
