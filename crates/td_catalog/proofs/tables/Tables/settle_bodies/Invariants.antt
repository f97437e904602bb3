use Rattle.std.proofs.Common.{◌≡◌}
use Rattle.td_catalog.specs.code.CatalogViews.{AreEntries, database_view, known_of, known_rows, rows_of}
use Rattle.td_catalog.specs.code.Histories.{UsesRoomOf}
use Rattle.td_catalog.proofs.tables.Tables.settle_bodies.Given as goal

abbrev pub invariant-steps : goal.invariant-steps
invariant-steps g l = record {
  entries : AreEntries g.B.Body.relation g.B.Body.keys l.self.bases.entries;
  database : database_view g.B.Body.relation (rows_of l.self) ≡ database_view g.B.Body.relation (rows_of l.initial.self);
  known : (known_of l.self ≡ known_of l.initial.self) × (known_rows (rows_of l.self) ≡ known_rows (rows_of l.initial.self));
  room : UsesRoomOf 0 l.initial.self l.self;
}
