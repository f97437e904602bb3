use Rattle.std.proofs.Common.{◌≡◌, ◌∙◌, ℕ, List, sym, rules, tests}
use Rattle.std.specs.Prelude.{not}
use Rattle.std.proofs.lemmas.Iterator.{YieldsList-from_slice}
use Rattle.std.proofs.lemmas.Iterator.Search.{all_from_yields_List}
use Rattle.std.proofs.lemmas.List.Folds.{list_all-map}
use Rattle.td_types.specs.declared.ty.Ty.{Ty}
use Rattle.td_types.specs.model.Headings.{has_attribute}
use Rattle.td_types.specs.code.Pairs.{pair_view}
use Rattle.td_types.proofs.Attributes.{found}
use Rattle.td_plan.proofs.running.extended.are_new.Goals as goal

pub returns : goal.returns
returns c =
    let items = c.args.attributes.now in
    let each : c.all.result ≡ _ =
    all_from_yields_List (λ (a : List ℕ × Ty). not (has_attribute a.0 c.args.heading.now)) _ _ c.all.result c.all.ensures.ran
    (YieldsList-from_slice items (cc)) (λ x b q k. search (rules, tests, found)) in
    each ∙ sym (list_all-map (λ a. not (has_attribute a.0 c.args.heading.now)) pair_view items)
