use Rattle.std.proofs.Common.{◌≡◌, take}
use Rattle.bosh_records.specs.Recorded.{recorded}
use Rattle.bosh_fold.specs.Anew.{keys_read}
use Rattle.bosh_fold.proofs.anew.read_keys.Given as goal

abbrev pub invariant-loop-built : goal.invariant-loop-built
invariant-loop-built l =
    recorded l.records ≡ keys_read (take l.built-index l.keys) (recorded l.initial.records)
