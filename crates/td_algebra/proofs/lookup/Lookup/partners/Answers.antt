use Rattle.std.proofs.Common.{◌∙◌, ap, arith, length, refl}
use Rattle.td_algebra.specs.code.Lookups.{has_part, like_row_at, part_of}
use Rattle.td_algebra.proofs.Lookups.{first_is_within, first_rows, kept_fewer}
use Rattle.td_algebra.proofs.lookup.Lookup.partners.Goals as goal

pub invariant_of-result : goal.invariant_of-result
invariant_of-result c =
    first_is_within (has_part c.args.self.now.0 (part_of c.args.places.now c.args.tuple.now)) c.args.self.now.1 c.first.result c.first.ensures

pub returns-clause-rows : goal.returns-clause-rows
returns-clause-rows c =
    ap (like_row_at c.args.self.now) c.first.ensures
    ∙ first_rows c.args.self.now.0 c.args.self.now.1 (part_of c.args.places.now c.args.tuple.now) 0 c.args.self.now.1 refl

pub returns-clause-fits : goal.returns-clause-fits
returns-clause-fits c =
    let rows =
    ap (like_row_at c.args.self.now) c.first.ensures
    ∙ first_rows c.args.self.now.0 c.args.self.now.1 (part_of c.args.places.now c.args.tuple.now) 0 c.args.self.now.1 refl in
    let all = ap (λ l. length l.1) c.self.view_is in
    omega (arith, ap length rows, kept_fewer (has_part c.args.self.now.0 (part_of c.args.places.now c.args.tuple.now)) c.args.self.now.1, all, c.self.told2)
