use Rattle.td_value.specs.model.Sets.{has}
use Rattle.td_value.specs.model.Values.{tuple_cmp}
use Rattle.td_value.proofs.Members.{contained, found}
use Rattle.td_algebra.proofs.Lists.{contains_filter}
use Rattle.td_algebra.proofs.laws.sets.intersection_by_membership.Goals as goal

pub returns : goal.returns
returns c = λ r s t.
    let members = contains_filter (λ u. has tuple_cmp u s.body) r.body t in
    ((λ h. let both = members.0 h in (both.0, contained t s.body both.1)), (λ h. members.1 (h.0, found t s.body h.1)))
