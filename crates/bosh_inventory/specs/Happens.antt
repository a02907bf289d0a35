-- What may be done to a cloud after what was done to it before: calls that change it and that are not answered that
-- something is gone, writes to disks that are there, and losses of machines that are there
-- (bosh.io, "CPI API v1" and "Agent API", in this project's profile).
use Rattle.std.specs.Prelude.{Bool, false, List, [], IsTrue}
use Rattle.bosh_agent.specs.Compiled.{compiled_digest}
use Rattle.bosh_base.specs.CallStep.{takes_effect}
use Rattle.bosh_base.specs.Cloud.{is_disk_there, is_vm_there}
use Rattle.bosh_base.specs.History.{EachAfter}
use Rattle.bosh_base.specs.declared.entry.Entry.{Entry}
use Rattle.bosh_base.specs.declared.entry.Entry.TheVariants.{Effect, Write, Lost}
use Rattle.bosh_entry.specs.Body.{IsEntry}

abbrev pub happens : List Entry → Entry → Bool
happens before (Effect e) = takes_effect compiled_digest before e.call
happens before (Write w) = is_disk_there before w.disk
happens before (Lost loss) = is_vm_there before loss.vm
happens before entry = false

abbrev pub Happens : List Entry → Entry → Type 0
Happens before entry = IsTrue (happens before entry)

-- it may, and a store can spell it
pub record MayFollow (before : List Entry) (entry : Entry) : Type 0 where
  pub happens : Happens before entry
  pub spelled : IsEntry entry

abbrev pub AllFollow : List Entry → Type 0
AllFollow entries = EachAfter MayFollow [] entries
