use Rattle.std.proofs.Common.{◌∙◌, ap, length, sym, subst, List, ℕ}
use Rattle.td_types.specs.model.Headings.{has_name}
use Rattle.td_value.specs.model.Values.{Val, IsTuple}
use Rattle.td_value.specs.code.Views.{tuple_view}
use Rattle.td_value.proofs.Kept.{IsTuple-filter}
use Rattle.td_value.proofs.tuple.kept_entries.Goals as goal

pub lone_row-requires-clause-same : goal.lone_row-requires-clause-same
lone_row-requires-clause-same c = ap (λ v. length v.items) c.in_ok-new.ensures.ok ∙ c.in_ok-keep_entries.ensures.lengths

pub lone_row-requires-clause-valid : goal.lone_row-requires-clause-valid
lone_row-requires-clause-valid c =
    let p = λ (e : List ℕ × Val). has_name e.0 c.args.wanted.now in
    let kept = ap (λ v. tuple_view v.items c.keep_entries.new.kept_values.items) c.in_ok-new.ensures.ok ∙ c.in_ok-keep_entries.ensures.kept in
    subst IsTuple (sym kept) (IsTuple-filter p (tuple_view c.args.names.now c.args.values.now) c.requires.valid)

pub returns : goal.returns
returns c =
    let kept = ap (λ v. tuple_view v.items c.keep_entries.new.kept_values.items) c.in_ok-new.ensures.ok ∙ c.in_ok-keep_entries.ensures.kept in
    rw kept at c.lone_row.ensures
