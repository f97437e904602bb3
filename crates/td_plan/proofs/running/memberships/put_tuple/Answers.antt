use Rattle.std.proofs.Common.{◌≡◌, ◌∙◌, ◌++◌, ◌∷◌, [], ap, length, subst, sym}
use Rattle.std.specs.List.{zip}
use Rattle.td_algebra.specs.code.Layouts.{AreInRange, numbered_sources, placed_tuple}
use Rattle.td_eval.proofs.code_lemmas.FixedElements.{placed_is, row_in_range, tuple_made}
use Rattle.td_eval.specs.model.OperatorValues.{tuple_from}
use Rattle.td_plan.proofs.Granted.{if_granted}
use Rattle.td_tree.specs.model.Outcomes.{with_value}
use Rattle.td_value.specs.model.Values.{tuple_of}
use Rattle.td_plan.proofs.running.memberships.put_tuple.Goals as goal

pub put-requires : goal.put-requires
put-requires c =
    let long : length c.put_parts.new.row.items ≡ length c.args.names.now = sym c.put_parts.new.row.ok.0 ∙ sym c.len.ensures ∙ c.if-len-names.false in
    subst (λ vs. AreInRange c.args.laid.now.0 (vs ++ [])) (sym c.deref.ensures.value)
    (row_in_range c.args.names.now c.put_parts.new.row.items c.args.laid.now.0 long c.requires.places)

pub returns-clause-put : goal.returns-clause-put
returns-clause-put c =
    let names = c.args.names.now in
    let row = c.put_parts.new.row.items in
    let long : length row ≡ length names = sym c.put_parts.new.row.ok.0 ∙ sym c.len.ensures ∙ c.if-len-names.false in
    if_granted c.put.result c.ok.result c.ok.ensures.value (λ _ put.
    let placed = put ∙ ap (λ vs. c.args.laid.now.1 ++ placed_tuple (numbered_sources 0 names) (vs ++ []) ∷ []) c.deref.ensures.value in (
      tuple_of (zip names row),
      placed ∙ ap (λ t. c.args.laid.now.1 ++ t ∷ []) (placed_is names row long),
      λ ps w sound m.
          ap (λ o. with_value o (λ vs. tuple_from (zip names vs))) (c.in_ok-put_parts.ensures ps w sound m) ∙ tuple_made names row long c.requires.distinct,
    ))
    (c.put.ensures.put (numbered_sources 0 names) c.requires.places)
