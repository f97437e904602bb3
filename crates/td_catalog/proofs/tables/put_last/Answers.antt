use Rattle.std.proofs.Common.{◌∙◌, ℕ, List, refl}
use Rattle.td_catalog.proofs.PutBack.{what_ok_is}
use Rattle.td_catalog.proofs.Rows.{rows_with}
use Rattle.td_catalog.proofs.tables.put_last.Goals as goal

pub returns-clause-entries : goal.returns-clause-entries
returns-clause-entries g c =
    what_ok_is _ c.insert.result (c.insert.ensures.succeeds c.requires.room) c.insert.ensures.entries
    ∙ rows_with (λ (row : List ℕ × _). row) (λ (row : List ℕ × _). row.0) (λ row. refl) c.args.map.now c.args.name c.args.value c.requires.new
