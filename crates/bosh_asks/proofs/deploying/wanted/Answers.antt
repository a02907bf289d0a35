use Rattle.std.proofs.Common.{Some}
use Rattle.bosh_asks.proofs.AnswerLemmas.{unsound_refuses}
use Rattle.bosh_asks.proofs.OverLemmas.{unsound_cause}
use Rattle.bosh_asks.specs.Over.{GivesOver}
use Rattle.bosh_asks.proofs.deploying.wanted.Goals as goal

pub returns-then-not-branch-clause-err : goal.returns-then-not-branch-clause-err
returns-then-not-branch-clause-err c =
    unsound_refuses c.args.deploy.now c.unsound.result c.releases-releases.result.now c.unsound.ensures
    (c.releases-releases.result.now, λ sound. c.in_ok-are_sound.ensures.no c.if-not-branch.true sound)

pub returns-then-not-branch-clause-cause : goal.returns-then-not-branch-clause-cause
returns-then-not-branch-clause-cause c = λ free.
    unsound_cause c.args.records.now (Unit {0}) (Some c.args.deploy.now.manifest.name)
    (GivesOver c.args.records.now c.args.deploy.now) c.unsound.result c.releases-releases.result.now free
    c.releases-releases.ensures (λ sound. c.in_ok-are_sound.ensures.no c.if-not-branch.true sound) c.unsound.ensures

pub wanted_of-requires : goal.wanted_of-requires
wanted_of-requires c = c.in_ok-are_sound.ensures.yes c.if-not-branch.false
