use Rattle.std.proofs.Common.{◌≡◌}
use Rattle.std.specs.List.{list_any}
use Rattle.std.specs.Option.{option_copied}
use Rattle.bosh_records.specs.Table.{things}
use Rattle.bosh_rows.specs.SoundSnapshot.{has_lock}
use Rattle.bosh_claim.proofs.opening.is_free.Given as goal

abbrev pub invariant-loop-row : goal.invariant-loop-row
invariant-loop-row l =
    list_any (has_lock (option_copied l.dep)) (things l.row-iterator)
    ≡ list_any (has_lock (option_copied l.dep)) (things l.records.tasks.places.entries)
