use Rattle.std.proofs.Common.{◌≡◌, ◌∙◌, ◌++◌, [], ap, map, subst, IfOk, List, ℕ, length}
use Rattle.std.specs.List.Sorted.{IsPermutation}
use Rattle.td_types.specs.model.Headings.{are_distinct}
use Rattle.td_types.specs.model.Types.{Heading}
use Rattle.td_algebra.specs.code.Layouts.{Sources, numbered_sources, sources_outside, sources_with}
use Rattle.td_algebra.proofs.Extensions.{names_with}
use Rattle.td_algebra.proofs.extension.extended_layout.Goals as goal

-- what is put after nothing
all_put : (part h : Heading) (names : List (List ℕ)) (none old all : Sources) (start : ℕ) → none ≡ [] → start ≡ length h
    → old ≡ none ++ sources_outside part 0 h → all ≡ old ++ numbered_sources start names → all ≡ sources_with part h names
all_put part h names none old all start p r e f =
    f ∙ (λ i. (e ∙ ap (λ ss. ss ++ sources_outside part 0 h) p) i ++ numbered_sources (r i) names)

pub new-requires : goal.new-requires
new-requires c =
    let all = all_put c.args.part.now c.args.heading.now c.args.names.now _ _ _ _ c.new-sources.ensures.items c.len.ensures c.in_ok-put_sources.ensures c.in_ok-put_names.ensures in
    ap (λ ss. are_distinct (map (λ s. s.0) ss)) all ∙ ap are_distinct (names_with c.args.part.now c.args.heading.now c.args.names.now) ∙ c.requires

pub returns : goal.returns
returns c =
    let all = all_put c.args.part.now c.args.heading.now c.args.names.now _ _ _ _ c.new-sources.ensures.items c.len.ensures c.in_ok-put_sources.ensures c.in_ok-put_names.ensures in
    subst (λ ss. IfOk c.new.result (IsPermutation ss)) all c.new.ensures
