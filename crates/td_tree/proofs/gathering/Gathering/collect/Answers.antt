use Rattle.td_tree.proofs.code_lemmas.Gatherings.{none_put, value_put}
use Rattle.td_tree.proofs.gathering.Gathering.collect.Goals as goal

pub returns-in_ok-push : goal.returns-in_ok-push
returns-in_ok-push g c = record {
  cause = c.add.ensures.cause;
  values = value_put _ c.args.values.now.items c.args.answer c.in_ok-value.field-0 c.in-Some.value c.push.new.self.items c.in_ok-value.ensures.rest c.in-Some.is c.in_ok-push.ensures.items;
}

pub returns-in_default : goal.returns-in_default
returns-in_default g c = record {
  cause = c.add.ensures.cause;
  values = none_put _ c.args.values.now.items c.args.answer c.in_ok-value.field-0 c.in_ok-value.ensures.rest c.in_default.is;
}
