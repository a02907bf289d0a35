use Rattle.std.proofs.Common.{◌≡◌}
use Rattle.bosh_records.specs.Readers.{since_in}
use Rattle.bosh_records.proofs.records.Records.since.Given as goal

abbrev pub invariant-loop-since : goal.invariant-loop-since
invariant-loop-since l = since_in l.since-iterator l.dep ≡ since_in l.self.deployments.places.entries l.dep
