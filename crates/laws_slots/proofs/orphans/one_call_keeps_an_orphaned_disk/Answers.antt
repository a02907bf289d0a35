use Rattle.laws_slots.proofs.OrphanCases.{orphan_kept}
use Rattle.laws_slots.proofs.orphans.one_call_keeps_an_orphaned_disk.Goals as goal

pub returns : goal.returns
returns c = orphan_kept
