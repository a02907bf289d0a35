use Rattle.bosh_records.specs.Recorded.{recorded}
use Rattle.laws_stands_snapshots.proofs.BuiltLemmas.{built_are}
use Rattle.laws_stands_snapshots.proofs.ReadLemmas.{snapshot_is}
use Rattle.laws_stands_snapshots.proofs.snapshots.snapshot_of_the_records_is_that_of_what_is_known.Goals as goal

pub returns : goal.returns
returns c = λ m told records s stands agrees facts built is.
    snapshot_is m told records s stands agrees.known_is facts.lists is
    (built_are (recorded records) s.built_keys m.known.built stands.ordered.keys built is.built_keys is.order)
