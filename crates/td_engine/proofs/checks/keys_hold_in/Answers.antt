use Rattle.std.proofs.Common.{map}
use Rattle.td_engine.specs.model.Checks.{keys_hold}
use Rattle.td_eval.proofs.code_lemmas.OpValues.{relation_unpacked}
use Rattle.td_tree.specs.model.Outcomes.{Valued}
use Rattle.td_engine.proofs.checks.keys_hold_in.Goals as goal

pub returns-in_ok-keys_hold-in-Rel : goal.returns-in_ok-keys_hold-in-Rel
returns-in_ok-keys_hold-in-Rel c =
    rw (← c.value.view_is, c.in-Rel.is, c.in_ok-keys_hold-in-Rel.ensures, c.deref.ensures)
    (relation_unpacked c.in-Rel.relation.value (λ r. Valued (keys_hold (map (λ key. key.items) c.args.keys.now) r.body)))
