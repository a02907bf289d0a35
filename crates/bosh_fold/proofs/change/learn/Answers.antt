use Rattle.std.proofs.Common.{◌∙◌, ap}
use Rattle.bosh_records.specs.Recorded.{recorded}
use Rattle.bosh_fold.proofs.CameLemmas.{came_is}
use Rattle.bosh_fold.proofs.change.learn.Goals as goal

pub returns-clause-came : goal.returns-clause-came
returns-clause-came c =
    ap (λ it. it.came) c.take_in.ensures ∙ came_is c.args.entry.now c.args.change (recorded c.args.records.now)
