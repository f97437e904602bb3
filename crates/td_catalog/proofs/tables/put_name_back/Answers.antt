use Rattle.std.proofs.Common.{◌∙◌, ap}
use Rattle.std.specs.Prelude.{if◌then◌else◌, nat_lt}
use Rattle.td_catalog.proofs.PutBack.{name_stands_again, what_is_ok}
use Rattle.td_catalog.proofs.tables.put_name_back.Goals as goal

pub returns-clause-keys : goal.returns-clause-keys
returns-clause-keys c =
    name_stands_again c.args.names.now.keys c.args.name c.args.place c.within-at.result c.requires.new
    (c.within-at.ensures ∙ ap (λ n. if nat_lt c.args.place n then c.args.place else n) c.len.ensures.len) c.shift_insert.new.self.keys
    (what_is_ok _ c.shift_insert.result (c.shift_insert.ensures.succeeds c.requires.room) c.shift_insert.ensures.keys)
