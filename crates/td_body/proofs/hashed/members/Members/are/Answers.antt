use Rattle.std.proofs.Common.{◌∙◌, ap, sym}
use Rattle.td_body.specs.code.Members.{Members, tuples_of}
use Rattle.td_body.proofs.News.{same_set}
use Rattle.td_body.proofs.hashed.members.Members.are.Goals as goal

pub returns-then-self-tuples : goal.returns-then-self-tuples
returns-then-self-tuples c = λ yes. sym (ap (λ (m : Members). m.relation.body) c.self.view_is) ∙ ap tuples_of (c.are.ensures yes) ∙ same_set c.args.tuples.now c.requires.ascending
