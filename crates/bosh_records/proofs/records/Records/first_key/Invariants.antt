use Rattle.std.proofs.Common.{◌≡◌, drop}
use Rattle.bosh_records.specs.NextKey.{first_key}
use Rattle.bosh_records.proofs.records.Records.first_key.Given as goal

abbrev pub invariant-loop-place : goal.invariant-loop-place
invariant-loop-place l = first_key l.self l.work l.place (drop l.place l.keys) ≡ first_key l.self l.work 0 l.keys
