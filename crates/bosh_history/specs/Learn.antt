-- What one more entry tells (this project's profile).
use Rattle.std.specs.Prelude.{true, Some, List, [], ◌∷◌, ◌++◌, fold}
use Rattle.bosh_base.specs.declared.entry.Entry.{Entry}
use Rattle.bosh_base.specs.declared.entry.Entry.TheVariants as entries
use Rattle.bosh_history.specs.Known.{Known, nothing_known, want_in, with_task}
use Rattle.bosh_history.specs.Snapshots.{known_by}
use Rattle.bosh_history.specs.Words.{at}
use Rattle.bosh_roll.specs.declared.upd.Upd.TheVariants.{Busy, Finished}
use Rattle.bosh_rows.specs.Same.{same_inst}
use Rattle.bosh_history.specs.Calls.{call_begun, call_ended, number_of}
use Rattle.bosh_history.specs.Tasks.{opened, end_by, task_done}
use Rattle.bosh_history.specs.Updates.{update_at, update_done, instance_gone}

-- what is known after one more entry
abbrev pub learn : Known → Entry → Known
learn k (entries.Release r) = record k { releases = k.releases ++ r ∷ [] }
learn k (entries.Stemcell s) = record k { stemcells = k.stemcells ++ s ∷ [] }
learn k (entries.Config file) = record k { config = Some file }
learn k (entries.TaskOpen o) = opened o k
learn k (entries.Begin b) = call_begun b k
learn k (entries.End e) = call_ended e.answer (k.begun e.n) k
learn k (entries.UpdBegin u) = with_task u.task (update_at Busy u.inst) k
learn k (entries.UpdDone u) =
    with_task u.task (update_at Finished u.inst) (update_done (want_in (k.task u.task).goal u.inst) u.inst k)
learn k (entries.Gone u) =
    with_task u.task (λ t. record t { gone = at same_inst u.inst true t.gone }) (instance_gone u.inst k)
learn k (entries.TaskDone t) = task_done t k
learn k (entries.TaskError e) =
    with_task e.task (λ t. record t { end = Some (end_by e.cause (k.begun (number_of e.cause))) }) k
learn k (entries.Snapshot s) = known_by s
learn k entry = k

-- what is known by a list of entries
abbrev pub known_of : List Entry → Known
known_of entries = fold learn nothing_known entries
