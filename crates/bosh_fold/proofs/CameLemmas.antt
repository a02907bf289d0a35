-- What came is changed by few entries.
use Rattle.std.proofs.Common.{◌≡◌, ◌∙◌, ℕ, Bool, true, false, List, [], ◌∷◌, Option, Some, None, refl, ap}
use Rattle.std.specs.Prelude.{is_some, if◌then◌else◌}
use Rattle.std.specs.Ordering.{nat_cmp}
use Rattle.bosh_base.specs.declared.call.Call.{Call}
use Rattle.bosh_base.specs.declared.call.Call.TheVariants as calls
use Rattle.bosh_base.specs.declared.digest.Digest.{Digest}
use Rattle.bosh_base.specs.declared.entry.Begin.{Begin}
use Rattle.bosh_base.specs.declared.entry.Entry.{Entry}
use Rattle.bosh_base.specs.declared.entry.Entry.TheVariants as entries
use Rattle.bosh_base.specs.declared.offer.Offer.{Offer}
use Rattle.bosh_base.specs.declared.owner.Owner.{Owner}
use Rattle.bosh_base.specs.declared.owner.Owner.TheVariants as owners
use Rattle.bosh_base.specs.declared.row.Row.{Row}
use Rattle.bosh_base.specs.declared.snapshot.DepRow.{DepRow}
use Rattle.bosh_base.specs.declared.task.TaskEnd.{TaskEnd}
use Rattle.bosh_base.specs.declared.task.TaskEnd.TheVariants as ends
use Rattle.bosh_plan.specs.declared.beginning.Subject.{Subject}
use Rattle.bosh_plan.specs.declared.beginning.Subject.TheVariants as subjects
use Rattle.bosh_plan.specs.declared.ending.After.{After}
use Rattle.bosh_plan.specs.declared.ending.After.TheVariants as afters
use Rattle.bosh_plan.specs.declared.ending.Ended.{Ended}
use Rattle.bosh_plan.specs.declared.ending.Told.{Told}
use Rattle.bosh_plan.specs.declared.ending.Told.TheVariants.{Nothing, There, Absent}
use Rattle.bosh_records.specs.Arrivals.{Arrivals}
use Rattle.bosh_records.specs.Readers.{machine_cmp, since_in}
use Rattle.bosh_records.specs.Recorded.{Recorded}
use Rattle.bosh_records.specs.Table.{thing_in}
use Rattle.bosh_records.specs.declared.machines.Machine.{Machine}
use Rattle.bosh_records.specs.declared.records.Since.{Since}
use Rattle.bosh_work.specs.declared.part.MachineName.{MachineName}
use Rattle.bosh_work.specs.declared.work.Work.{Work}
use Rattle.bosh_fold.specs.Calls.{built_in, closed_call, deleted_in, disk_told, dropped_machine, ended_by, failed_in}
use Rattle.bosh_fold.specs.Calls.{given_by, machine_told, opened_call, pinged_by, swept_in, told_of, with_call}
use Rattle.bosh_fold.specs.Calls.{with_compiling, with_subject}
use Rattle.bosh_fold.specs.Learned.{learned}
use Rattle.bosh_fold.specs.Planned.{arrivals_after}
use Rattle.bosh_fold.specs.Tasks.{calls_of, cleared, deployed, deployment_done, dropped_at, forgotten_call}
use Rattle.bosh_fold.specs.Tasks.{goal_set, goal_set_at, interrupted_in, is_deletion, shared_at, since_of}
use Rattle.bosh_fold.specs.Updates.{other_in, update_in, with_row_of}
use Rattle.bosh_fold.specs.declared.change.Change.{Change}
use Rattle.bosh_fold.specs.declared.change.Change.TheVariants as changes
use Rattle.std.specs.Prelude.{fold}

-- ---- calls

by_call : (owner : Owner) («open» : Option ℕ) (it : Recorded) → (with_call owner «open» it).came ≡ it.came
by_call (owners.Instance inst) «open» it = refl
by_call (owners.Compile task slot) «open» it = refl
by_call (owners.Disk disk) «open» it = refl

by_compiling : (call : Call) («open» : Option ℕ) (it : Recorded) → (with_compiling call «open» it).came ≡ it.came
by_compiling (calls.CompilePackage vm work deps) «open» it = refl
by_compiling call «open» it = refl

by_subject : (owner : Owner) (subject : Subject) (it : Recorded) → (with_subject owner subject it).came ≡ it.came
by_subject owner (subjects.Instance row) it = refl
by_subject owner (subjects.Machine machine) it = refl
by_subject (owners.Instance inst) (subjects.Doubt doubt) it = refl
by_subject (owners.Compile task slot) (subjects.Doubt doubt) it = refl
by_subject (owners.Disk disk) (subjects.Doubt doubt) it = refl
by_subject owner subjects.Same it = refl

by_opened : (begin : Begin) (it : Recorded) → (opened_call begin it).came ≡ it.came
by_opened begin it =
    by_compiling begin.call (Some begin.n) (with_call begin.owner (Some begin.n) it) ∙ by_call begin.owner (Some begin.n) it

by_closed : (begin : Begin) (it : Recorded) → (closed_call begin it).came ≡ it.came
by_closed begin it = by_compiling begin.call None (with_call begin.owner None it) ∙ by_call begin.owner None it

by_ping : (told : Bool) (begin : Begin) (it : Recorded) → (pinged_by told begin it).came ≡ it.came
by_ping told begin it = by told begin.call
  where
    by : (told : Bool) (call : Call) → (pinged_by told (record begin { call = call }) it).came ≡ it.came
    by true (calls.Ping vm) = refl
    by true call = refl
    by false call = refl

by_swept : (name : MachineName) (place : Option ℕ) (it : Recorded) → (swept_in name place it).came ≡ it.came
by_swept name (Some place) it = refl
by_swept name None it = refl

by_machine : (name : MachineName) (told : Told) (it : Recorded) → (machine_told name told it).came ≡ it.came
by_machine name Nothing it = refl
by_machine name (There vm) it = refl
by_machine name Absent it = by (thing_in machine_cmp it.machines name)
  where
    by : (machine : Option Machine) → (dropped_machine name machine it).came ≡ it.came
    by (Some machine) = by_swept name machine.sweep _
    by None = refl

by_disk : (disk : ℕ) (told : Told) (it : Recorded) → (disk_told disk told it).came ≡ it.came
by_disk disk Nothing it = refl
by_disk disk (There vm) it = refl
by_disk disk Absent it = by _ _
  where
    by : (place : Option ℕ) (now : Recorded) → (deleted_in disk place now).came ≡ now.came
    by (Some place) now = refl
    by None now = refl

by_told : (owner : Owner) (after : Option After) (it : Recorded) → (told_of owner after it).came ≡ it.came
by_told owner None it = refl
by_told owner (Some (afters.Instance row)) it = refl
by_told (owners.Instance inst) (Some (afters.Other told)) it = refl
by_told (owners.Compile task slot) (Some (afters.Other told)) it = by_machine _ told it
by_told (owners.Disk disk) (Some (afters.Other told)) it = by_disk disk told it

by_built : (call : Call) (built : Option Digest) (it : Recorded) → (built_in call built it).came ≡ it.came
by_built (calls.CompilePackage vm work deps) (Some digest) it = refl
by_built (calls.CompilePackage vm work deps) None it = refl
by_built call built it = refl

by_ended : (begin : Option Begin) (ended : Ended) (it : Recorded) → (ended_by begin ended it).came ≡ it.came
by_ended None ended it = refl
by_ended (Some begin) ended it =
    by_built begin.call ended.built (told_of begin.owner ended.after (failed_in begin.task ended.failed pinged))
    ∙ by_told begin.owner ended.after (failed_in begin.task ended.failed pinged)
    ∙ by_ping ended.is_asked begin (given_by begin.task begin.owner (closed_call begin it))
    ∙ by_closed begin it
  where
    pinged : Recorded
    pinged = pinged_by ended.is_asked begin (given_by begin.task begin.owner (closed_call begin it))

-- ---- updates

by_update : (entry : Entry) (it : Recorded) → (update_in entry it).came ≡ it.came
by_update (entries.UpdDone update) it = refl
by_update (entries.Gone update) it = refl
by_update entry it = refl

by_row : (row : Option Row) (it : Recorded) → (with_row_of row it).came ≡ it.came
by_row (Some row) it = refl
by_row None it = refl

by_other : (entry : Entry) (it : Recorded) → (other_in entry it).came ≡ it.came
by_other (entries.UpdBegin update) it = refl
by_other entry it = refl

-- ---- tasks

by_goal : (task : ℕ) (deployment : Option DepRow) (it : Recorded) → (goal_set task deployment it).came ≡ it.came
by_goal task None it = refl
by_goal task (Some row) it = by (since_in it.deployments row.dep)
  where
    by : (since : Option Since) → (goal_set_at since task row it).came ≡ it.came
    by (Some since) = refl
    by None = refl

by_done : (task : ℕ) (offers : List Offer) (it : Recorded) → (deployment_done task offers it).came ≡ it.came
by_done task offers it = by (is_some (deployed it task)) (is_deletion it task) (since_of it task)
  where
    by : (is_deployed deletes : Bool) (since : Option Since)
        → (if is_deployed then shared_at since offers it else (if deletes then dropped_at since it else it)).came ≡ it.came
    by true deletes (Some since) = refl
    by true deletes None = refl
    by false true (Some since) = refl
    by false true None = refl
    by false false since = refl

by_cleared : (work : Option Work) (it : Recorded) → (cleared work it).came ≡ it.came
by_cleared (Some work) it = refl
by_cleared None it = refl

by_forgotten : (begins : List Begin) (it : Recorded) → (fold forgotten_call it begins).came ≡ it.came
by_forgotten [] it = refl
by_forgotten (begin ∷ begins) it = by_forgotten begins (closed_call begin it) ∙ by_closed begin it

by_interrupted : (task : ℕ) (end : TaskEnd) (it : Recorded) → (interrupted_in task end it).came ≡ it.came
by_interrupted task ends.Interrupted it = by_forgotten (calls_of task it.calls) it
by_interrupted task end it = refl

-- ---- all entries

pub came_is : (entry : Entry) (change : Change) (it : Recorded) → (learned entry change it).came ≡ arrivals_after change it.came
came_is entry (changes.Release release) it = refl
came_is entry (changes.Stemcell stemcell) it = refl
came_is entry (changes.Config file) it = refl
came_is entry (changes.Opened opened) it =
    ap (λ (all : Arrivals). record all { opened = opened.row.task }) (by_goal opened.row.task opened.deployment it)
came_is entry (changes.Begun begun) it =
    ap (λ (all : Arrivals). record all { last_call = begun.begin.n })
    (by_opened begun.begin (with_subject begun.begin.owner begun.subject it)
    ∙ by_subject begun.begin.owner begun.subject it)
came_is entry (changes.Ended ended) it = by_ended (thing_in nat_cmp it.calls ended.n) ended _
came_is entry (changes.Updated updated) it = by_row updated.row (update_in entry it) ∙ by_update entry it
came_is (entries.TaskDone task) (changes.Offers offers) it =
    by_cleared _ (deployment_done task offers it) ∙ by_done task offers it
came_is entry (changes.Offers offers) it = refl
came_is (entries.TaskError error) (changes.End end) it =
    by_cleared _ (interrupted_in error.task end it) ∙ by_interrupted error.task end it
came_is entry (changes.End end) it = refl
came_is entry (changes.Records anew) it = refl
came_is entry changes.Nothing it = by_other entry it
