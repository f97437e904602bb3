use Rattle.std.proofs.Common.{subst, sym}
use Rattle.td_value.specs.model.Values.{IsTuple}
use Rattle.td_value.proofs.Own.{as_many_lent, own_entries}
use Rattle.td_value.proofs.tuple.Tuple.project.Goals as goal

pub kept_entries-requires-clause-same : goal.kept_entries-requires-clause-same
kept_entries-requires-clause-same c = as_many_lent c.args.self.now _ _ c.names.ensures.names c.values.ensures.values

pub kept_entries-requires-clause-valid : goal.kept_entries-requires-clause-valid
kept_entries-requires-clause-valid c =
    let own = own_entries c.args.self.now c.names.result.now c.values.result.now c.names.ensures.names c.values.ensures.values in
    subst IsTuple (sym own) c.values.ensures.valid

pub returns : goal.returns
returns c =
    let own = own_entries c.args.self.now c.names.result.now c.values.result.now c.names.ensures.names c.values.ensures.values in
    rw own at c.kept_entries.ensures
