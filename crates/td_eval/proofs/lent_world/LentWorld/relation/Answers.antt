use Rattle.std.proofs.Common.{◌∙◌, Some, ap, refl}
use Rattle.td_eval.proofs.code_lemmas.VirtualValues.{held_base, held_none, held_other}
use Rattle.td_eval.proofs.lent_world.LentWorld.relation.Goals as goal

pub returns-in_default : goal.returns-in_default
returns-in_default g c = rw c.in_default.is refl

pub returns-in-Some-other_relation : goal.returns-in-Some-other_relation
returns-in-Some-other_relation g c =
    ap Some c.in_ok-try_clone.ensures ∙ held_other c.args.self.now c.args.name.now c.in-Some.catalog c.in-Some.is c.in-Some-other_relation.rel.now c.in-Some-other_relation.ensures

pub returns-in-None : goal.returns-in-None
returns-in-None g c =
    held_none c.args.self.now c.args.name.now c.in-Some.catalog c.in-Some.is c.in_default-other_relation.ensures c.in-None.ensures.found

pub returns-in_ok-to_rel-in-Some-get_base : goal.returns-in_ok-to_rel-in-Some-get_base
returns-in_ok-to_rel-in-Some-get_base g c =
    ap Some c.in_ok-to_rel-in-Some-get_base.ensures
    ∙ held_base c.args.self.now c.args.name.now c.in-Some.catalog c.in-Some.is c.in_default-other_relation.ensures _ c.in-Some-get_base.ensures.found
