use Rattle.std.proofs.Common.{◌≡◌, ◌∙◌, ◌∷◌, [], arith, subst, sym}
use Rattle.std.specs.List.{slice_get}
use Rattle.td_eval.specs.model.OperatorValues.{comparison_value}
use Rattle.td_plan.proofs.Memberships.{numbers_ascend, numbers_in_rows, one_item, rows_of_one}
use Rattle.td_plan.proofs.SoundSteps.{sound_at}
use Rattle.td_plan.specs.code.Plans.{value_or}
use Rattle.td_plan.specs.code.Memberships.{tuple_inside}
use Rattle.td_plan.specs.code.Quick.{AreInRows, AreQuick}
use Rattle.td_plan.specs.code.QuickInside.{value_inside}
use Rattle.td_tree.specs.declared.operator.Comparison.TheVariants as comparisons
use Rattle.td_tree.specs.model.Outcomes.{with_value}
use Rattle.td_types.specs.model.Types as types
use Rattle.td_value.specs.model.Values.{IsAscendingBody, Tuple, Val, boolean, integer, relation_value}
use Rattle.td_value.specs.code.Views.{values_of}
use Rattle.td_plan.proofs.running.memberships.number_memberships.Goals as goal

pub numbers_among-requires : goal.numbers_among-requires
numbers_among-requires c =
    let rel = c.args.rel.now in
    let name = c.name-item.result in
    let f = λ (t : Tuple). value_or (slice_get (values_of t) 0) in
    let ys = c.deref-2.result.now in
    let headed : rel.heading ≡ (name, types.integer) ∷ [] = sym c.heading.ensures ∙ c.is_one_number.ensures c.if-not-is_one_number.false in
    let members : AreInRows integer f rel.body ys =
    subst (λ xs. AreInRows integer f xs ys) c.rows.ensures.rows (subst (AreInRows integer f c.rows.result.now) (sym c.deref-2.ensures.value) c.in_ok-members.ensures) in
    numbers_ascend name ys (subst IsAscendingBody (rows_of_one name rel.heading rel.body ys headed c.rows.ensures.headed members) c.rows.ensures.ascending)

pub returns : goal.returns
returns c = λ ps w sound m.
    let inside = c.args.batch.now.inside.now in
    let ts = c.args.batch.now.rows.now in
    let rel = c.args.rel.now in
    let name = c.name-item.result in
    let part = c.part-item.result in
    let f = λ (t : Tuple). value_or (slice_get (values_of t) 0) in
    let found = c.numbers_among.result in
    let k = λ (v : Val). comparison_value comparisons.In v (relation_value rel) in
    let names : c.args.names.now ≡ name ∷ [] = one_item c.args.names.now name c.in-len1.len_at_least c.in-len1.len_below c.name-item.is in
    let parts : c.args.parts.now ≡ part ∷ [] = one_item c.args.parts.now part c.in-len1-parts.len_at_least c.in-len1-parts.len_below c.part-item.is in
    let headed : rel.heading ≡ (name, types.integer) ∷ [] = sym c.heading.ensures ∙ c.is_one_number.ensures c.if-not-is_one_number.false in
    let ys = c.deref-2.result.now in
    let members : AreInRows integer f rel.body ys =
    subst (λ xs. AreInRows integer f xs ys) c.rows.ensures.rows (subst (AreInRows integer f c.rows.result.now) (sym c.deref-2.ensures.value) c.in_ok-members.ensures) in
    let body = rows_of_one name rel.heading rel.body ys headed c.rows.ensures.headed members in
    let sound_part = sound_at ps c.args.parts.now 0 part (omega (arith, c.in-len1-parts.len_at_least)) c.part-item.is sound in
    let numbers = subst (AreInRows integer (value_inside w inside part) ts) (sym c.deref.ensures.value) (c.in_ok-numbers.ensures ps w sound_part m) in
    subst (λ ns. AreQuick boolean (λ t. with_value (tuple_inside w inside ns c.args.parts.now t) k) ts found) (sym names)
    (subst (λ xs. AreQuick boolean (λ t. with_value (tuple_inside w inside (name ∷ []) xs t) k) ts found) (sym parts)
    (numbers_in_rows name part w inside rel ts c.deref.result.now ys found headed body numbers c.numbers_among.ensures))
