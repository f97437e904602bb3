use Rattle.std.proofs.Common.{subst, sym}
use Rattle.td_engine.specs.code.Plannable.{IsPlannable}
use Rattle.td_tree.specs.model.Trees.{name}
use Rattle.td_engine.proofs.checks.relvar_value.Goals as goal

pub value-requires : goal.value-requires
value-requires g c = subst (λ n. IsPlannable c.args.catalog.now.database (name n)) (sym c.in_ok-try_clone.ensures) c.requires
