use Rattle.bosh_yaml.proofs.LineLemmas.{without_return-shorter, without_return-done, without_return-empty}
use Rattle.bosh_yaml.proofs.line.without_return.Goals as goal
use Rattle.bosh_yaml.proofs.line.without_return.Goals.{else-len-gt0-via-then-len-gt0+else-line-len-eq13, else-len-gt0-via-else-len-gt0}

pub returns-then-line-len-eq13-clause-cut : goal.returns-then-line-len-eq13-clause-cut
returns-then-line-len-eq13-clause-cut c =
    without_return-shorter c.args.line.now c.if-len-gt0.true c.if-line-len-eq13.true

pub returns-clause-cut : goal.returns-clause-cut
returns-clause-cut c =
    elim c.else-len-gt0.branch [
      | else-len-gt0-via-then-len-gt0+else-line-len-eq13 w ↦ without_return-done c.args.line.now w.if-len-gt0.true w.if-line-len-eq13.false
      | else-len-gt0-via-else-len-gt0 w ↦ without_return-empty c.args.line.now w.if-len-gt0.false
    ]
