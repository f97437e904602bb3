use Rattle.std.proofs.Common.{subst, sym}
use Rattle.td_catalog.specs.model.TypedDatabases.{AreTyped}
use Rattle.td.proofs.TypedBases.{is_typed_base}
use Rattle.td.proofs.tests.catalogs.changes.parts.Goals as goal

pub returns-in_ok-none_and_all-in-Some-Some-clause-typed : goal.returns-in_ok-none_and_all-in-Some-Some-clause-typed
returns-in_ok-none_and_all-in-Some-Some-clause-typed c =
    let db = c.args.catalog.now.database in
    subst (AreTyped db.types) (sym c.in_ok-none_and_all-in-Some-Some.ensures.all)
    (is_typed_base db c.args.from.now _ c.reveal.ensures (sym c.in-Some-Some.ensures'.found)).typed
