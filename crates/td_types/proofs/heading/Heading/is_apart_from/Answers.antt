use Rattle.std.proofs.Common.{◌≡◌, ◌∙◌, ap, sym, rules, tests}
use Rattle.std.specs.Prelude.{not}
use Rattle.std.proofs.lemmas.Iterator.{YieldsList-from_slice}
use Rattle.std.proofs.lemmas.Iterator.Search.{all_from_yields_List}
use Rattle.std.proofs.lemmas.List.Folds.{list_all-map}
use Rattle.td_types.specs.model.Headings.{has_attribute, have_no_common}
use Rattle.td_types.specs.code.Views.{attribute_view}
use Rattle.td_types.specs.declared.heading.Attribute.{Attribute}
use Rattle.td_types.proofs.Attributes.{found}
use Rattle.td_types.proofs.heading.Heading.is_apart_from.Goals as goal

pub returns : goal.returns
returns c =
    let items = c.self.inside.attributes.items in
    let each : c.all.result ≡ _ =
    all_from_yields_List (λ (a : Attribute). not (has_attribute a.name c.args.other.now)) _ _ c.all.result c.all.ensures.ran
    (YieldsList-from_slice items (cc)) (λ x b q k. search (rules, tests, found)) in
    each ∙ sym (list_all-map (λ a. not (has_attribute a.0 c.args.other.now)) attribute_view items)
    ∙ ap (λ h. have_no_common h c.args.other.now) c.self.view_is
