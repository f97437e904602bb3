use Rattle.std.proofs.Common.{◌≡◌, ◌∙◌, ◌∷◌, ◌++◌, [], subst, sym}
use Rattle.td_eval.proofs.code_lemmas.OpElements.{made_of}
use Rattle.td_tree.specs.model.Outcomes.{Valued}
use Rattle.td_types.proofs.OutcomeLaws.{valued_is}
use Rattle.td_value.specs.model.Values.{made_tuple, relation_of}
use Rattle.td_eval.proofs.operators.literals.table_dee.Goals as goal

pub returns : goal.returns
returns c =
    let none : [] ≡ c.in_ok-new.field-0 =
    valued_is [] c.in_ok-new.field-0 (subst (λ es. made_tuple es ≡ Valued c.in_ok-new.field-0) c.new.ensures.items c.in_ok-new.ensures.answer) in
    let one : c.push.new.self.items ≡ [] ∷ [] =
    c.in_ok-push.ensures.items ∙ (λ i. c.in_ok-rows.ensures.items i ++ sym none i ∷ []) in
    c.as_value.ensures (relation_of [] ([] ∷ [])) (made_of _ _ [] _ ([] ∷ []) c.empty.ensures one c.new-3.ensures.value)
