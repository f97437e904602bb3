use Rattle.std.proofs.Common.{◌≡◌, rules}
use Rattle.std.specs.Ordering.{eq_by_cmp}
use Rattle.td_types.specs.model.Types.{heading_cmp}
use Rattle.td_types.specs.code.TypeOrder.{heading_eq-Decides}
use Rattle.td_types.proofs.order.HeadingPartialEq.eq.Goals as goal

pub returns-clause-same : goal.returns-clause-same
returns-clause-same c =
    let tested : c.eq.result ≡ eq_by_cmp heading_cmp c.args.self.now c.args.other.now = search rules in
    rw tested (heading_eq-Decides c.args.self.now c.args.other.now)
