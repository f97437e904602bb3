use Rattle.std.proofs.Common.{◌≡◌, take}
use Rattle.td_types.specs.code.Views.{pairs_view}
use Rattle.td_value.specs.model.Values.{HaveTypesOf}
use Rattle.td_value.proofs.user.have_types.Given as goal

abbrev pub invariant-loop-value : goal.invariant-loop-value
invariant-loop-value l =
    (l.place ≡ l.value-index) × HaveTypesOf (take l.place l.values) (pairs_view (take l.place l.components))
