use Rattle.std.proofs.Common.{arith}
use Rattle.td_catalog.proofs.Backwards.{all_stages, further}
use Rattle.td_catalog.proofs.catalog.Catalog.revert.Goals as goal

pub back-init : goal.back-init
back-init g c = record { enough = c.requires; back = all_stages c.args.self.now }

pub back-preserved : goal.back-preserved
back-preserved g c =
    let f = further c.step_back.result c.args.to c.args.self.now c.back.self c.step_back.new.self c.step_back.ensures.back c.step_back.ensures.none
    (omega (arith, c.kept.ensures, c.back-test.true)) c.back.invariant.back in
    record { enough = f.enough; back = f.back }
