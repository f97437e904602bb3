use Rattle.std.proofs.Common.{◌∙◌, ap, drop, take}
use Rattle.std.proofs.lemmas.List.{drop-take}
use Rattle.td_scan.proofs.queue.Queue.truncate.Goals as goal

pub returns : goal.returns
returns g c =
    ap (drop c.self.inside.taken) c.truncate.ensures.items ∙ drop-take c.self.inside.taken c.args.count c.self.inside.items.items ∙ ap (take c.args.count) c.self.view_is
