use Rattle.td_types.proofs.DeclaredTypes.{IsKnown-earlier, declared_at-earlier}
use Rattle.td_types.proofs.Meanings.{meant_later}
use Rattle.td_types.proofs.Ranks.{rank_later}
use Rattle.td_types.proofs.laws.later_types_change_nothing.Goals as goal

pub returns-clause-names : goal.returns-clause-names
returns-clause-names c = λ ds more name e. declared_at-earlier name ds more e

pub returns-clause-meanings : goal.returns-clause-meanings
returns-clause-meanings c = meant_later

pub returns-clause-ranks : goal.returns-clause-ranks
returns-clause-ranks c = λ ds more t h k. (IsKnown-earlier ds more t k, rank_later ds more t h k)
