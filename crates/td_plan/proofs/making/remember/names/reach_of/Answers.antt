use Rattle.std.proofs.Common.{◌^◌, ◌-◌, ◌<◌, ◌≤◌, ◌≡◌, arith, get_or, subst}
use Rattle.std.proofs.lemmas.List.{take_all}
use Rattle.td_plan.proofs.NamedSlots.{before_next}
use Rattle.td_plan.specs.code.Remembered.{AreBefore}
use Rattle.td_plan.proofs.making.remember.names.reach_of.Goals as goal
use Rattle.td_plan.proofs.making.remember.names.reach_of.Goals.{then-reach-name, else-reach-name}

pub loop-name-preserved : goal.loop-name-preserved
loop-name-preserved c =
    let names = c.args.names.now in
    let i = c.loop-name.name-index in
    let reach = c.loop-name.reach in
    let told = c.loop-name.invariant in
    elim c.if-reach-name.branch [
      | then-reach-name w ↦ λ l.
          let is : c.if-reach-name.reach ≡ w.saturating_add-reach.result = w.reach-is in
          let more = w.saturating_add-reach.ensures in
          let past = w.if-reach-name.true in
          let low : reach < 2 ^ 64 - 1 = omega (arith, l, is, more, past) in
          let up : reach ≤ c.if-reach-name.reach = omega (arith, l, is, more, past) in
          let there : get_or names i 0 < c.if-reach-name.reach = omega (arith, l, is, more, past) in
          before_next names reach c.if-reach-name.reach i c.loop-name-test.true (told low) up there
      | else-reach-name w ↦ λ l.
          let is : c.if-reach-name.reach ≡ reach = w.reach-is in
          let past = w.if-reach-name.false in
          let low : reach < 2 ^ 64 - 1 = omega (arith, l, is) in
          let up : reach ≤ c.if-reach-name.reach = omega (arith, is) in
          let there : get_or names i 0 < c.if-reach-name.reach = omega (arith, past, is) in
          before_next names reach c.if-reach-name.reach i c.loop-name-test.true (told low) up there
    ]

pub returns : goal.returns
returns c = λ l. subst (AreBefore c.loop-name.reach) (take_all c.loop-name.name-index c.args.names.now c.loop-name-test.false) (c.loop-name.invariant l)
