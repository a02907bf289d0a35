use Rattle.std.proofs.Common.{◌≡◌}
use Rattle.bosh_records.specs.Readers.{deployment_in}
use Rattle.bosh_records.proofs.records.Records.deployment.Given as goal

abbrev pub invariant-loop-row : goal.invariant-loop-row
invariant-loop-row l = deployment_in l.row-iterator l.dep ≡ deployment_in l.self.deployments.places.entries l.dep
