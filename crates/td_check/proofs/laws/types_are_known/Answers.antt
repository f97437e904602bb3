use Rattle.td_check.proofs.ScopeLaws.{scopes_are_kept}
use Rattle.td_check.proofs.StaticLaws.{types_are_known}
use Rattle.td_check.proofs.laws.types_are_known.Goals as goal

pub returns-clause-types : goal.returns-clause-types
returns-clause-types c = types_are_known

pub returns-clause-scopes : goal.returns-clause-scopes
returns-clause-scopes c = scopes_are_kept
