use Rattle.std.proofs.Common.{◌≡◌, subst, sym}
use Rattle.td_body.specs.code.Members.{tuples_of}
use Rattle.td_body.proofs.News.{same_set}
use Rattle.td_body.proofs.hashed.members.Members.made_of.Goals as goal

pub fresh-requires-clause-apart : goal.fresh-requires-clause-apart
fresh-requires-clause-apart c = subst (λ ts. tuples_of ts ≡ ts) (sym c.in_ok-rows.ensures.live) (same_set c.args.relation.body c.reveal.ensures.ascending)
