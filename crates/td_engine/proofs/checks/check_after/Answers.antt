use Rattle.td_engine.proofs.law_lemmas.Settled.{settled_or}
use Rattle.td_engine.proofs.checks.check_after.Goals as goal

pub returns-clause-change : goal.returns-clause-change
returns-clause-change g c = settled_or c.args.catalog.now.database c.check_derived.result c.requires.held c.check_derived.ensures.passed
