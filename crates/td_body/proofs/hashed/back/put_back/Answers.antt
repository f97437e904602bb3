use Rattle.std.proofs.Common.{subst, sym}
use Rattle.td_body.specs.code.KeyIndexes.{IsLinked}
use Rattle.td_body.specs.code.Turns.{Links}
use Rattle.td_body.proofs.Turns.{turned_all}
use Rattle.td_body.proofs.hashed.back.put_back.Goals as goal

pub returns-clause-linked : goal.returns-clause-linked
returns-clause-linked c =
    let old = c.args.rows.now in
    let new = c.mark.new.self in
    let n = c.args.number in
    turned_all (Links old.rows old.gone n) (IsLinked old.rows old.gone) (IsLinked new.rows new.gone) c.args.indexes.now.items c.link_every.new.indexes.items c.link_every.ensures
    (λ x y s i. subst (λ r. IsLinked r new.gone y) (sym c.mark.ensures.rows) (subst (λ g. IsLinked old.rows g y) (sym c.mark.ensures.gone) s.linked)) c.requires.linked
