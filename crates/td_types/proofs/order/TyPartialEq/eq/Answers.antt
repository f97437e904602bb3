use Rattle.std.proofs.Common.{◌≡◌, rules}
use Rattle.std.specs.Ordering.{eq_by_cmp}
use Rattle.td_types.specs.code.TypeOrder.{ty_cmp, type_eq-Decides}
use Rattle.td_types.specs.code.Views.{type_view}
use Rattle.td_types.proofs.order.TyPartialEq.eq.Goals as goal

pub returns-clause-same : goal.returns-clause-same
returns-clause-same c =
    let tested : c.eq.result ≡ eq_by_cmp ty_cmp c.args.self.now c.args.other.now = search rules in
    rw tested (type_eq-Decides (type_view c.args.self.now) (type_view c.args.other.now))
