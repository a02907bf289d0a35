use Rattle.laws_slots.proofs.OrphanFrames.{orphan_loss, orphan_other, orphan_write}
use Rattle.laws_slots.proofs.frames.what_others_do_leaves_an_orphaned_disk.Goals as goal

pub returns-clause-effect : goal.returns-clause-effect
returns-clause-effect c = orphan_other

pub returns-clause-write : goal.returns-clause-write
returns-clause-write c = orphan_write

pub returns-clause-loss : goal.returns-clause-loss
returns-clause-loss c = orphan_loss
