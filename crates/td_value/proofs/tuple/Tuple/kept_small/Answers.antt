use Rattle.std.proofs.Common.{◌∙◌, ◌++◌, ap}
use Rattle.td_value.proofs.Own.{as_many_lent, own_entries}
use Rattle.td_value.proofs.tuple.Tuple.kept_small.Goals as goal

pub of-requires : goal.of-requires
of-requires c =
    let values = c.in_ok-put_copies.ensures ∙ ap (λ r. r ++ c.values.result.now) c.in_ok-values.ensures.items ∙ c.values.ensures.values in
    as_many_lent c.args.self.now _ _ c.in_ok-names.ensures values

pub returns : goal.returns
returns c =
    let values = c.in_ok-put_copies.ensures ∙ ap (λ r. r ++ c.values.result.now) c.in_ok-values.ensures.items ∙ c.values.ensures.values in
    let own = own_entries c.args.self.now c.in_ok-names.names c.put_copies.new.made.items c.in_ok-names.ensures values in
    rw own at c.of.ensures
