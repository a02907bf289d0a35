use Rattle.std.proofs.Common.{◌∙◌, sym}
use Rattle.bosh_ports.specs.Rigged.{broken_of, faults_of}
use Rattle.bosh_world.proofs.SiteRestartLemmas.{started_by}
use Rattle.bosh_world.specs.Steps.{bodies_of}
use Rattle.bosh_world.proofs.restarting.reloaded.Goals as goal

pub returns-then-is_some-clause-started : goal.returns-then-is_some-clause-started
returns-then-is_some-clause-started g c =
    started_by (bodies_of g.K.Keeper.bodies) (faults_of g.K.Keeper.faults) (broken_of g.K.Keeper.is_broken)
    c.args.book.now c.reload-started.new.self c.reload-started.result c.mended.result c.reload-started.ensures.starts
    c.mended.ensures (sym c.is_some.ensures ∙ c.if-is_some.true)
