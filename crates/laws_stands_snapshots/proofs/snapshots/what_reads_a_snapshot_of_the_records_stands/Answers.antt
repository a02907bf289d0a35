use Rattle.std.proofs.Common.{◌≡◌, subst, sym}
use Rattle.bosh_base.specs.declared.entry.Entry.TheVariants as entries
use Rattle.bosh_base.specs.declared.snapshot.Snapshot.{Snapshot}
use Rattle.bosh_history.specs.Snapshots.{snapshot_of}
use Rattle.bosh_records.specs.Recorded.{recorded}
use Rattle.laws_stands.specs.Told.{telling}
use Rattle.laws_stands_fits.specs.Whole.{StandsWhole}
use Rattle.laws_stands_snapshots.proofs.BuiltLemmas.{built_are}
use Rattle.laws_stands_snapshots.proofs.CanReadLemmas.{can_be_read}
use Rattle.laws_stands_snapshots.proofs.ReadLemmas.{snapshot_is}
use Rattle.laws_stands_snapshots.proofs.TellsLemmas.{learned_stands}
use Rattle.laws_stands_snapshots.proofs.snapshots.what_reads_a_snapshot_of_the_records_stands.Goals as goal
use Rattle.laws_stands_snapshots.specs.Readable.{IsReadable}

pub returns : goal.returns
returns c = λ m told records was now s stands agrees facts own built few is learns.
    let same : s ≡ snapshot_of m.known =
    snapshot_is m told records s stands agrees.known_is facts.lists is
    (built_are (recorded records) s.built_keys m.known.built stands.ordered.keys built is.built_keys is.order) in
    subst (λ (s : Snapshot). StandsWhole (telling told (entries.Snapshot s)) now) same
    (learned_stands told was s now
    (subst IsReadable (sym same) (can_be_read m facts told agrees stands.tells_well own built.in_order)) few learns)
