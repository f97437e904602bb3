use Rattle.std.proofs.Common.{◌≡◌, subst}
use Rattle.td_check.specs.model.OperatorTypes.{extension_type}
use Rattle.td_check.proofs.CheckedItems.{over_heading}
use Rattle.td_tree.specs.model.Outcomes.{Answers, Valued}
use Rattle.td_types.specs.code.Views.{pairs_view}
use Rattle.td_check.proofs.nodes.type_of_extension.Goals as goal

pub returns-in-Rel : goal.returns-in-Rel
returns-in-Rel c = λ o a.
    let valued : o ≡ Valued (pairs_view c.in_ok-attributes.attributes.items) = subst (λ r. Answers (λ ts. pairs_view ts.items) r o) c.in_ok-attributes.was a in
    rw (valued, over_heading c.args.operand c.in-Rel.heading c.in-Rel.is (λ h. extension_type h (pairs_view c.in_ok-attributes.attributes.items))) c.extension_type.ensures
