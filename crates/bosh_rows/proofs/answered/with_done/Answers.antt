-- The change of one disk is the one of the call.
use Rattle.bosh_rows.proofs.answered.with_done.Goals as goal

pub returns-in-AttachDisk-clause-ok : goal.returns-in-AttachDisk-clause-ok
returns-in-AttachDisk-clause-ok c n = rw c.in-AttachDisk.is c.change_disks.ensures

pub returns-in-DetachDisk-clause-ok : goal.returns-in-DetachDisk-clause-ok
returns-in-DetachDisk-clause-ok c n = rw c.in-DetachDisk.is c.change_disks-in-DetachDisk.ensures

pub returns-in-MountDisk-clause-ok : goal.returns-in-MountDisk-clause-ok
returns-in-MountDisk-clause-ok c n = rw c.in-MountDisk.is c.change_disks-in-MountDisk.ensures

pub returns-in-UnmountDisk-clause-ok : goal.returns-in-UnmountDisk-clause-ok
returns-in-UnmountDisk-clause-ok c n = rw c.in-UnmountDisk.is c.change_disks-in-UnmountDisk.ensures
