-- What is planned for an entry brings what the entry does.
use Rattle.std.proofs.Common.{◌≡◌, ◌∙◌, List, [], ◌∷◌, refl, ap}
use Rattle.std.specs.Prelude.{IfOk, Result, Ok, Err}
use Rattle.bosh_base.specs.declared.entry.Entry.{Entry}
use Rattle.bosh_base.specs.declared.entry.Entry.TheVariants as entries
use Rattle.bosh_base.specs.declared.snapshot.Snapshot.{Snapshot}
use Rattle.bosh_base.specs.declared.task.TaskRow.{TaskRow}
use Rattle.bosh_records.specs.Arrivals.{Arrivals}
use Rattle.bosh_records.specs.Recorded.{Recorded, nothing}
use Rattle.bosh_records.specs.declared.fault.RecordsFault.{RecordsFault}
use Rattle.bosh_records.specs.declared.records.Records.{Records}
use Rattle.bosh_fold.specs.Anew.{anew, deployments_read, keys_read, owners_read, task_read, tasks_read, uploads_read}
use Rattle.bosh_fold.specs.ArrivalsWith.{arrivals_with, opened_with}
use Rattle.bosh_fold.specs.Planned.{Brings, IsPlanned, arrivals_after}
use Rattle.bosh_fold.specs.declared.change.Change.{Change}
use Rattle.bosh_fold.specs.declared.change.Change.TheVariants as changes

tasks_count : (rows : List TaskRow) (it : Recorded)
    → (tasks_read rows it).came ≡ record it.came { opened = opened_with it.came.opened rows }
tasks_count [] it = refl
tasks_count (row ∷ rows) it = tasks_count rows (task_read it row)

snapshot_comes : (it : Snapshot) (before : Arrivals) → (anew it).came ≡ arrivals_with (entries.Snapshot it) before
snapshot_comes it before =
    ap (λ (all : Arrivals). record all { last_call = it.last_call })
    (tasks_count it.tasks (keys_read it.built_keys (owners_read it (deployments_read it.deployments (uploads_read it nothing)))))

pub it_brings : (was roomy : Records) (entry : Entry) (change : Change) → IsPlanned was roomy entry change → Brings entry change
it_brings was roomy (entries.Release it) change is before = ap (λ one. arrivals_after one before) is
it_brings was roomy (entries.Stemcell it) change is before = ap (λ one. arrivals_after one before) is
it_brings was roomy (entries.Config file) change is before = ap (λ one. arrivals_after one before) is
it_brings was roomy (entries.TaskOpen opening) (changes.Opened opened) is before =
    λ i. record before { opened = (is.row i).task }
it_brings was roomy (entries.Begin begin) (changes.Begun begun) is before = λ i. record before { last_call = (is.0 i).n }
it_brings was roomy (entries.End end) change is before = ap (λ one. arrivals_after one before) is
it_brings was roomy (entries.UpdBegin update) change is before = ap (λ one. arrivals_after one before) is
it_brings was roomy (entries.UpdDone update) (changes.Updated updated) is before = refl
it_brings was roomy (entries.Gone update) (changes.Updated updated) is before = refl
it_brings was roomy (entries.TaskDone task) change is before = ap (λ one. arrivals_after one before) is
it_brings was roomy (entries.TaskError error) change is before = ap (λ one. arrivals_after one before) is
it_brings was roomy (entries.Snapshot it) (changes.Records records) is before =
    ap (λ (all : Recorded). all.came) is ∙ snapshot_comes it before
it_brings was roomy (entries.Effect it) change is before = ap (λ one. arrivals_after one before) is
it_brings was roomy (entries.Write it) change is before = ap (λ one. arrivals_after one before) is
it_brings was roomy (entries.Lost it) change is before = ap (λ one. arrivals_after one before) is
it_brings was roomy entry change is before = absurd is

pub it_brings_where : (was roomy : Records) (entry : Entry) (result : Result Change RecordsFault)
    → IfOk result (λ change. IsPlanned was roomy entry change) → IfOk result (λ change. Brings entry change)
it_brings_where was roomy entry (Ok change) is = it_brings was roomy entry change is
it_brings_where was roomy entry (Err fault) is = tt
