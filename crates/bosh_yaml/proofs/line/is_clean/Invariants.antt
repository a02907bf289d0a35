use Rattle.std.proofs.Common.{◌≡◌, ◌&&◌, drop}
use Rattle.bosh_yaml.specs.Lines.{is_clean}
use Rattle.bosh_yaml.proofs.line.is_clean.Given as goal

abbrev pub invariant-loop-b : goal.invariant-loop-b
invariant-loop-b l = (l.is_clean && is_clean (drop l.b-index l.line)) ≡ is_clean l.line
