use Rattle.std.proofs.Common.{◌≡◌, ◌≢◌, arith, length, refl, rules, subst}
use Rattle.std.proofs.lemmas.List.{length-map}
use Rattle.td_algebra.specs.code.Columns.{columns_view}
use Rattle.td_eval.proofs.code_lemmas.WalkedExtension.{related}
use Rattle.td_eval.specs.code.NewColumns.{named_columns}
use Rattle.td_eval.specs.model.OperatorValues.{extended_by_settings}
use Rattle.td_plan.proofs.MemoLaws.{kept_outside, ready_below}
use Rattle.td_plan.proofs.RunLaws.{as_many_columns, columns_for, where_equal, where_unequal}
use Rattle.td_plan.proofs.ValuedBelow.{lower}
use Rattle.td_plan.specs.code.Hands.{slots_in, slots_of}
use Rattle.td_plan.specs.code.Memos.{AreSound}
use Rattle.td_plan.specs.code.Runs.{values_in}
use Rattle.td_plan.specs.code.Plans.{extension_of}
use Rattle.td_tree.specs.model.Outcomes.{Answers, Valued, gathered}
use Rattle.td_types.specs.code.Pairs.{pair_view}
use Rattle.td_types.specs.code.Views.{pairs_view}
use Rattle.td_plan.proofs.running.evaluator.Evaluator.extension.Goals as goal

pub columns-columns-requires : goal.columns-columns-requires
columns-columns-requires g c =
    let r = c.requires.ready in record {
      below = lower (omega arith) c.requires.below;
      ready = ready_below c.in_ok-inside.ensures.slot c.in_ok-inside.ensures.outer
          (record { parts = r.parts; sound = r.sound.1; memo = c.in_ok-inside.ensures.memo r.parts (g.A.InWorld.world c.args.self.now.around.now) (c.in_ok-operand.ensures r.parts r.sound.0 r.memo).1 });
      lengths = c.if-attributes-values.false;
    }

pub returns-then-attributes-values : goal.returns-then-attributes-values
returns-then-attributes-values g c = λ ps sound m.
    let w = g.A.InWorld.world c.args.self.now.around.now in
    let s = slots_of c.args.hand.now in
    let new = values_in w s c.args.slot c.args.values.now in
    let attributes = pairs_view c.args.attributes.now in
    let attribute_count = length-map c.args.attributes.now pair_view in
    let count = as_many_columns w s c.args.slot c.args.values.now in
    let apart : length attributes ≢ length new = λ e. absurd (omega (arith, e, attribute_count, count)) in
    let a = c.in_ok-operand.ensures ps sound.0 m in (
      rw (a.0, related c.in_ok-operand.operand c.in_ok-rel.rel.now (extension_of attributes new) c.in_ok-rel.ensures, where_unequal attributes new (extended_by_settings (Valued attributes) new c.in_ok-rel.rel.now) apart) refl,
      a.1,
    )

pub returns-in_err-inside : goal.returns-in_err-inside
returns-in_err-inside g c = λ ps sound m.
    let a = c.in_ok-operand.ensures ps sound.0 m in
    (search rules, c.entered.ensures.memo ps (g.A.InWorld.world c.args.self.now.around.now) a.1 (slots_of c.args.hand.now) (λ j l. refl))

pub set_by-requires : goal.set_by-requires
set_by-requires g c =
    let r = c.requires.ready in
    let w = g.A.InWorld.world c.args.self.now.around.now in
    let s = slots_of c.args.hand.now in
    let new = values_in w s c.args.slot c.args.values.now in
    let attributes = pairs_view c.args.attributes.now in
    let attribute_count = length-map c.args.attributes.now pair_view in
    let count = as_many_columns w s c.args.slot c.args.values.now in
    let a = c.in_ok-operand.ensures r.parts r.sound.0 r.memo in
    let d = kept_outside w c.args.slot c.in_ok-inside.inside.slot s (slots_in c.in_ok-inside.inside.outer.items) c.entered.new.memo c.columns-columns.new.memo (λ ps. AreSound ps c.args.values.now)
    (λ k t. Answers (λ cs. columns_view cs.items) c.columns-columns.result (gathered (named_columns attributes (values_in w t k c.args.values.now) c.rows.result.now)))
    c.in_ok-inside.ensures.slot c.in_ok-inside.ensures.outer c.columns-columns.ensures r.parts r.sound.1 (c.in_ok-inside.ensures.memo r.parts w a.1) in
    columns_for c.columns-columns.result attributes new c.in_ok-rel.rel.now.body (omega (arith, attribute_count, count))
    (subst (λ ts. Answers (λ cs. columns_view cs.items) c.columns-columns.result (gathered (named_columns attributes new ts))) c.rows.ensures.rows d.0)

pub returns : goal.returns
returns g c = λ ps sound m.
    let w = g.A.InWorld.world c.args.self.now.around.now in
    let s = slots_of c.args.hand.now in
    let new = values_in w s c.args.slot c.args.values.now in
    let attributes = pairs_view c.args.attributes.now in
    let attribute_count = length-map c.args.attributes.now pair_view in
    let count = as_many_columns w s c.args.slot c.args.values.now in
    let equal : length attributes ≡ length new = omega (arith, attribute_count, count) in
    let a = c.in_ok-operand.ensures ps sound.0 m in
    let d = kept_outside w c.args.slot c.in_ok-inside.inside.slot s (slots_in c.in_ok-inside.inside.outer.items) c.entered.new.memo c.columns-columns.new.memo (λ ps. AreSound ps c.args.values.now)
    (λ k t. Answers (λ cs. columns_view cs.items) c.columns-columns.result (gathered (named_columns attributes (values_in w t k c.args.values.now) c.rows.result.now)))
    c.in_ok-inside.ensures.slot c.in_ok-inside.ensures.outer c.columns-columns.ensures ps sound.1 (c.in_ok-inside.ensures.memo ps w a.1) in (
      rw (a.0, related c.in_ok-operand.operand c.in_ok-rel.rel.now (extension_of attributes new) c.in_ok-rel.ensures, where_equal attributes new (extended_by_settings (Valued attributes) new c.in_ok-rel.rel.now) equal)
          (c.set_by.ensures new (omega (arith, count)) (subst (λ ts. Answers (λ cs. columns_view cs.items) c.columns-columns.result (gathered (named_columns attributes new ts))) c.rows.ensures.rows d.0)),
      d.1,
    )
