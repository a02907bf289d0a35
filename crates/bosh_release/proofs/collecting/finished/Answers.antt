use Rattle.bosh_release.proofs.collecting.finished.Goals as goal

pub returns-in-Cycle : goal.returns-in-Cycle
returns-in-Cycle c = c.cycle_at.ensures c.args.files.now c.args.version.now
