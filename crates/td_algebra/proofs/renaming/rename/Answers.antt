use Rattle.std.proofs.Common.{◌≡◌, ◌∙◌, ◌<◌, ℕ, List, [], true, ap, arith, length, map, refl, sym, subst}
use Rattle.std.specs.List.{All}
use Rattle.std.proofs.lemmas.List.{length-map}
use Rattle.std.proofs.lemmas.List.Elements.{All-map}
use Rattle.td_tree.specs.declared.cause.Cause.TheVariants as causes
use Rattle.td_types.specs.model.Headings.{can_rename, heading_union, new_name, new_names, renamed_attributes}
use Rattle.td_types.specs.model.Types.{Heading, IsHeading, pack}
use Rattle.td_value.specs.model.Values.{IsTupleOf}
use Rattle.td_algebra.specs.code.Layouts.{numbered_sources}
use Rattle.td_algebra.specs.model.Operators.{renamed_tuple}
use Rattle.td_algebra.proofs.Renamings.{IsTupleOf-renamed, renaming_rows}
use Rattle.td_algebra.proofs.Taken.{all_in_range, headed_by, numbered_in_range, relation_is, value_of_answer}
use Rattle.td_algebra.proofs.renaming.rename.Goals as goal

pub renamed_layout-requires : goal.renamed_layout-requires
renamed_layout-requires c = subst (λ h. can_rename c.args.renamings.now h ≡ true) (sym c.heading-3.ensures) c.requires

-- as many places as there are attributes
in_heading : (rs : List (List ℕ × List ℕ)) (h : Heading) → All (λ s. s.1 < length h) (numbered_sources 0 (new_names rs h))
in_heading rs h =
    let names : length (new_names rs h) ≡ length (renamed_attributes rs h) = length-map (renamed_attributes rs h) (λ a. a.0) in
    let same : length (renamed_attributes rs h) ≡ length h = length-map h (λ a. (new_name rs a.0, a.1)) in
    numbered_in_range 0 (length h) (new_names rs h) (omega arith)

pub laid_rows-requires : goal.laid_rows-requires
laid_rows-requires c =
    let h = c.heading-3.result.now in
    all_in_range _ c.in_ok-layout.layout h c.rows.result.now c.in_ok-layout.ensures (in_heading c.args.renamings.now h)
    (headed_by _ _ _ _ c.heading-3.ensures c.rows.ensures.rows c.rows.ensures.headed)

pub new-requires : goal.new-requires
new-requires c =
    let rs = c.args.renamings.now in
    let r = c.args.rel.now in
    let heading = value_of_answer c.rename.result c.in_ok-heading.heading _ _ causes.Heading c.rename.ensures.answer c.in_ok-heading.ensures ∙ ap (λ h. heading_union [] (renamed_attributes rs h)) c.heading.ensures in
    let rows = renaming_rows rs c.heading-3.result.now _ c.rows.result.now c.in_ok-rows.rows.items c.in_ok-layout.layout refl
    (headed_by _ _ _ _ c.heading-3.ensures c.rows.ensures.rows c.rows.ensures.headed) c.in_ok-layout.ensures c.in_ok-rows.ensures in
    headed_by _ _ _ _ heading (rows ∙ ap (map (renamed_tuple rs)) c.rows.ensures.rows)
    (All-map (IsTupleOf (heading_union [] (renamed_attributes rs r.heading))) (renamed_tuple rs) r.body
    (λ k d l. IsTupleOf-renamed rs r.heading _ (c.rows.ensures.headed k d l) c.requires (subst (λ h. IsHeading (pack h)) heading c.reveal.ensures.heading)))

pub returns : goal.returns
returns c =
    let rs = c.args.renamings.now in
    let heading = value_of_answer c.rename.result c.in_ok-heading.heading _ _ causes.Heading c.rename.ensures.answer c.in_ok-heading.ensures ∙ ap (λ h. heading_union [] (renamed_attributes rs h)) c.heading.ensures in
    let rows = renaming_rows rs c.heading-3.result.now _ c.rows.result.now c.in_ok-rows.rows.items c.in_ok-layout.layout refl
    (headed_by _ _ _ _ c.heading-3.ensures c.rows.ensures.rows c.rows.ensures.headed) c.in_ok-layout.ensures c.in_ok-rows.ensures in
    relation_is c.new.result _ _ _ _ heading (rows ∙ ap (map (renamed_tuple rs)) c.rows.ensures.rows) c.new.ensures.value
