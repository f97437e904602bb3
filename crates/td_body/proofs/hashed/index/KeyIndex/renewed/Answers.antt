use Rattle.td_body.proofs.hashed.index.KeyIndex.renewed.Goals as goal
use Rattle.std.proofs.Common.{◌≡◌, map, subst}
use Rattle.td_body.specs.code.KeyParts.{tuple_values_at}

pub returns-then-are_alike-clause-index : goal.returns-then-are_alike-clause-index
returns-then-are_alike-clause-index c =
    let values : map (tuple_values_at c.args.self.now.places.items) c.args.rows.now.rows ≡ map (tuple_values_at c.args.self.now.places.items) c.args.old.now.rows =
    subst (λ ps. map (tuple_values_at ps) c.args.rows.now.rows ≡ map (tuple_values_at ps) c.args.old.now.rows) c.deref.ensures.value (c.are_alike.ensures.values c.if-are_alike.true) in
    c.in_ok-index.ensures.index c.args.old.now.rows c.args.rows.now.rows c.args.old.now.gone c.args.rows.now.gone c.requires values (c.are_alike.ensures.gone c.if-are_alike.true)
