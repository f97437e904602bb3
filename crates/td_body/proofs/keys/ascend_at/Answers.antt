use Rattle.std.proofs.Common.{rules}
use Rattle.std.specs.Ordering.{is_lt}
use Rattle.std.proofs.lemmas.Fn.{always_returns_same}
use Rattle.td_body.specs.code.KeyParts.{by_places}
use Rattle.td_body.proofs.keys.ascend_at.Goals as goal

pub returns : goal.returns
returns c = c.is_sorted_by.ensures.cases (λ s t. is_lt (by_places c.args.places.now s t)) (always_returns_same _ _ _ (λ a r g called. search rules))
