use Rattle.std.proofs.Common.{◌≡◌, subst}
use Rattle.td_body.specs.code.Members.{places_in}
use Rattle.td_body.specs.code.Turns.{Forgets}
use Rattle.td_body.proofs.Turns.{turned_places}
use Rattle.td_body.proofs.hashed.members.Members.settle.Goals as goal

pub returns-clause-places : goal.returns-clause-places
returns-clause-places c = subst (λ s. places_in c.forget_every.new.indexes.items ≡ s.places) c.self.view_is
    (turned_places Forgets c.self.inside.indexes.items c.forget_every.new.indexes.items c.forget_every.ensures (λ x y s. s.places))
