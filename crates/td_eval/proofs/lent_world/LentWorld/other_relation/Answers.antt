use Rattle.std.proofs.Common.{◌∙◌, None, Some, ap, sym}
use Rattle.std.specs.Prelude.{if◌then◌else◌}
use Rattle.td_eval.proofs.lent_world.LentWorld.other_relation.Goals as goal

pub returns-then-eq : goal.returns-then-eq
returns-then-eq g c = rw c.in_ok-other.was (ap (λ b. if b then Some c.in_ok-other.rel.now else None) (sym c.if-eq.true ∙ c.eq.ensures))

pub returns-else-eq : goal.returns-else-eq
returns-else-eq g c = rw c.in_ok-other.was (ap (λ b. if b then Some c.in_ok-other.rel.now else None) (sym c.if-eq.false ∙ c.eq.ensures))
