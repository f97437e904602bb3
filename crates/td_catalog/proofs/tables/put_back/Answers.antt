use Rattle.std.proofs.Common.{◌∙◌, ap}
use Rattle.std.specs.Prelude.{if◌then◌else◌, nat_lt}
use Rattle.td_catalog.proofs.PutBack.{stands_again, what_is_ok}
use Rattle.td_catalog.proofs.tables.put_back.Goals as goal

pub returns-clause-entries : goal.returns-clause-entries
returns-clause-entries g c =
    let clamp = c.within-at.ensures ∙ ap (λ n. if nat_lt c.args.place n then c.args.place else n) c.len.ensures.len in
    stands_again c.args.map.now c.args.name c.args.value c.args.place c.requires.new c.within-at.result clamp c.shift_insert.new.self.entries
    (what_is_ok _ c.shift_insert.result (c.shift_insert.ensures.succeeds c.requires.room) c.shift_insert.ensures.entries)
