use Rattle.std.proofs.Common.{refl}
use Rattle.bosh_yaml.specs.Scanning.{scan_in}
use Rattle.bosh_yaml.proofs.ScanLemmas.{skips_at_start, skips_none, skips_outside}
use Rattle.bosh_yaml.proofs.scan.skip_empty.Goals as goal

pub returns-in-Literal-clause-skipped : goal.returns-in-Literal-clause-skipped
returns-in-Literal-clause-skipped c = λ line frames body. skips_none (scan_in c.args.mode frames body) line c.args.text.now c.args.text.now refl

pub returns-in-Start-clause-skipped : goal.returns-in-Start-clause-skipped
returns-in-Start-clause-skipped c = λ line frames body.
    rw c.in-Start.is (skips_at_start line frames body c.args.text.now c.skip_line_ends.result.now c.skip_line_ends.ensures.skipped)

pub returns-in-Outside-clause-skipped : goal.returns-in-Outside-clause-skipped
returns-in-Outside-clause-skipped c = λ line frames body.
    rw c.in-Outside.is (skips_outside line frames body c.args.text.now c.skip_line_ends-in-Outside.result.now c.skip_line_ends-in-Outside.ensures.skipped)
