use Rattle.std.proofs.Common.{◌≡◌, ◌∙◌, true, Result, Ok, Err, IfOk, ap, subst, sym}
use Rattle.std.proofs.lemmas.List.{take_all}
use Rattle.td_catalog.proofs.mentioned.heading_of_components.Goals as goal
use Rattle.td_tree.specs.model.Outcomes.{Answers, Valued, value_if}
use Rattle.td_tree.specs.declared.fault.Fault.{Fault}
use Rattle.td_tree.proofs.code_lemmas.Unrefused.{unrefused_if}
use Rattle.td_tree.specs.declared.cause.Cause.TheVariants as causes
use Rattle.td_types.specs.model.Headings.{are_distinct, heading_from, made_heading}
use Rattle.td_types.specs.model.Types.{Heading, attribute_names}
use Rattle.td_types.specs.code.Views.{pairs_view}

-- the heading that distinct names make
is_made : (xs ys : Heading) (h : Heading) → xs ≡ ys → are_distinct (attribute_names ys) ≡ true → made_heading xs ≡ Valued h → h ≡ heading_from ys
is_made xs ys h same distinct is =
    let made : Valued (heading_from ys) ≡ Valued h = sym (ap (λ b. value_if b (heading_from ys) causes.Heading) distinct) ∙ sym (ap made_heading same) ∙ is in
    cc

if_made : {E : Type 0} (r : Result Heading E) (answer : Result Heading Fault) (xs ys : Heading) → xs ≡ ys → are_distinct (attribute_names ys) ≡ true
    → Answers (λ h. h) answer (made_heading xs) → IfOk r (λ h. answer ≡ Ok h) → IfOk r (λ h. h ≡ heading_from ys)
if_made (Ok h) answer xs ys same distinct told is =
    is_made xs ys h same distinct (subst (λ (a : Result Heading Fault). Answers (λ k. k) a (made_heading xs)) is told)
if_made (Err e) answer xs ys same distinct told is = tt

pub without_refusal-requires : goal.without_refusal-requires
without_refusal-requires c =
    let same = c.loop-name.invariant ∙ ap pairs_view (take_all c.loop-name.name-index c.args.components.now c.loop-name-test.false) in
    unrefused_if (λ h. h) c.new.result (are_distinct (attribute_names (pairs_view c.loop-name.attributes.items))) _ causes.Heading
    (ap (λ xs. are_distinct (attribute_names xs)) same ∙ c.requires) c.new.ensures.answer

pub returns : goal.returns
returns c =
    if_made c.without_refusal.result c.new.result (pairs_view c.loop-name.attributes.items) (pairs_view c.args.components.now)
    (c.loop-name.invariant ∙ ap pairs_view (take_all c.loop-name.name-index c.args.components.now c.loop-name-test.false)) c.requires c.new.ensures.answer c.without_refusal.ensures
