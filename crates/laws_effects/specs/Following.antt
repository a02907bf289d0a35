-- What may be done to a cloud after what was done to it before: calls that change it and that are not answered that
-- something is gone, writes to disks that are there, and losses of machines that are there
-- (bosh.io, "CPI API v1" and "Agent API", in this project's profile).
use Rattle.std.specs.Prelude.{Bool, false, List, IsTrue}
use Rattle.bosh_base.specs.CallStep.{takes_effect}
use Rattle.bosh_base.specs.Cloud.{is_disk_there, is_vm_there}
use Rattle.bosh_base.specs.declared.digest.Digest.{Digest}
use Rattle.bosh_base.specs.declared.entry.Entry.{Entry}
use Rattle.bosh_base.specs.declared.entry.Entry.TheVariants.{Effect, Write, Lost}
use Rattle.bosh_base.specs.declared.key.KeyWork.{KeyWork}

-- `built` is what a compilation gives, of which nothing here depends
abbrev pub may_follow : (KeyWork → List Digest → Digest) → List Entry → Entry → Bool
may_follow built before (Effect e) = takes_effect built before e.call
may_follow built before (Write w) = is_disk_there before w.disk
may_follow built before (Lost loss) = is_vm_there before loss.vm
may_follow built before entry = false

abbrev pub MayFollow : (KeyWork → List Digest → Digest) → List Entry → Entry → Type 0
MayFollow built before entry = IsTrue (may_follow built before entry)
