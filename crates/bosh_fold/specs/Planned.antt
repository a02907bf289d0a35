-- What is planned for an entry.
use Rattle.std.specs.Prelude.{◌≡◌, ◌++◌, ◌∷◌, [], List, Option, Some, None}
use Rattle.bosh_base.specs.declared.entry.Begin.{Begin}
use Rattle.bosh_base.specs.declared.entry.Entry.{Entry}
use Rattle.bosh_base.specs.declared.entry.Entry.TheVariants as entries
use Rattle.bosh_base.specs.declared.entry.TaskOpen.{TaskOpen}
use Rattle.bosh_base.specs.declared.row.Row.{Row}
use Rattle.bosh_base.specs.declared.snapshot.Orphan.{Orphan}
use Rattle.bosh_base.specs.declared.snapshot.Snapshot.{Snapshot}
use Rattle.bosh_records.specs.Recorded.{Recorded, recorded}
use Rattle.bosh_plan.specs.Ended.{ended_of}
use Rattle.bosh_plan.specs.Roomy.{roomy_for_call, roomy_for_disks, roomy_for_task}
use Rattle.bosh_plan.specs.Updated.{left_gone, left_updated, row_updated}
use Rattle.bosh_plan.specs.Begun.{subject_of}
use Rattle.bosh_plan.specs.declared.beginning.Subject.{Subject}
use Rattle.bosh_records.specs.Arrivals.{Arrivals, arrivals}
use Rattle.bosh_fold.specs.Anew.{anew}
use Rattle.bosh_fold.specs.ArrivalsWith.{arrivals_with}
use Rattle.bosh_plan.specs.Closed.{end_after, offers_after}
use Rattle.bosh_plan.specs.Opened.{IsOpened}
use Rattle.bosh_fold.specs.declared.change.Change.{Change}
use Rattle.bosh_fold.specs.declared.change.Change.TheVariants as changes
use Rattle.bosh_records.specs.declared.records.Records.{Records}

-- ---- by the kinds of entries

-- what is left of the task is told by the records with the room that was made
abbrev pub IsOpening : Records → TaskOpen → Change → Type 0
IsOpening roomy opening (changes.Opened opened) = IsOpened roomy opening opened
IsOpening roomy opening change = ⊥

abbrev pub IsBeginning : Begin → Subject → Change → Type 0
IsBeginning begin subject (changes.Begun begun) = (begun.begin ≡ begin) × (begun.subject ≡ subject)
IsBeginning begin subject change = ⊥

-- an update ends so that this is recorded, and these disks are left behind
abbrev pub IsUpdated : Option Row → List Orphan → Change → Type 0
IsUpdated row left (changes.Updated updated) = (updated.row ≡ row) × (updated.left.items ≡ left)
IsUpdated row left change = ⊥

-- the records that take the place of all that is recorded
abbrev pub IsAnew : Snapshot → Change → Type 0
IsAnew snapshot (changes.Records records) = recorded records.value ≡ anew snapshot
IsAnew snapshot change = ⊥

-- what is planned for an entry after those that the records stand for, once there is room for it
abbrev pub IsPlanned : Records → Records → Entry → Change → Type 0
IsPlanned records roomy (entries.Release it) change = change ≡ changes.Release it
IsPlanned records roomy (entries.Stemcell it) change = change ≡ changes.Stemcell it
IsPlanned records roomy (entries.Config file) change = change ≡ changes.Config file
IsPlanned records roomy (entries.TaskOpen opening) change = IsOpening roomy opening change
IsPlanned records roomy (entries.Begin begin) change =
    IsBeginning begin (subject_of records begin) change
IsPlanned records roomy (entries.End end) change = change ≡ changes.Ended (ended_of records end)
IsPlanned records roomy (entries.UpdBegin update) change = change ≡ changes.Nothing
IsPlanned records roomy (entries.UpdDone update) change =
    IsUpdated (row_updated records update.inst) (left_updated records update.inst) change
IsPlanned records roomy (entries.Gone update) change = IsUpdated None (left_gone records update.inst) change
IsPlanned records roomy (entries.TaskDone task) change = change ≡ changes.Offers (offers_after records task)
IsPlanned records roomy (entries.TaskError error) change = change ≡ changes.End (end_after records error)
IsPlanned records roomy (entries.Snapshot it) change = IsAnew it change
IsPlanned records roomy (entries.Effect it) change = change ≡ changes.Nothing
IsPlanned records roomy (entries.Write it) change = change ≡ changes.Nothing
IsPlanned records roomy (entries.Lost it) change = change ≡ changes.Nothing

-- the room that is made for an entry, by what is recorded before
abbrev pub roomy_for : Records → Entry → Recorded → Recorded
roomy_for records (entries.TaskOpen opening) it = roomy_for_task opening it
roomy_for records (entries.Begin begin) it = roomy_for_call begin it
roomy_for records (entries.UpdDone update) it = roomy_for_disks (left_updated records update.inst) it
roomy_for records (entries.Gone update) it = roomy_for_disks (left_gone records update.inst) it
roomy_for records entry it = it

-- what came, once a change is learned
abbrev pub arrivals_after : Change → Arrivals → Arrivals
arrivals_after (changes.Release it) before = record before { releases = before.releases ++ it ∷ [] }
arrivals_after (changes.Stemcell it) before = record before { stemcells = before.stemcells ++ it ∷ [] }
arrivals_after (changes.Config file) before = record before { config = Some file }
arrivals_after (changes.Opened opened) before = record before { opened = opened.row.task }
arrivals_after (changes.Begun begun) before = record before { last_call = begun.begin.n }
arrivals_after (changes.Records records) before = arrivals records.value
arrivals_after change before = before

-- it brings what the entry does
abbrev pub Brings : Entry → Change → Type 0
Brings entry change = (before : Arrivals) → arrivals_after change before ≡ arrivals_with entry before
