-- What the beginning and the answer of a call tell (this project's profile).
use Rattle.std.specs.Prelude.{ℕ, ◌+◌, Bool, true, false, eqb, nat_lt, not, if◌then◌else◌, Option, Some, None}
use Rattle.std.specs.Option.{option_map}
use Rattle.bosh_base.specs.Inst.{inst_cmp}
use Rattle.bosh_base.specs.declared.answer.Answer.{Answer}
use Rattle.bosh_base.specs.declared.answer.Answer.TheVariants as answers
use Rattle.bosh_base.specs.declared.call.Call.{Call}
use Rattle.bosh_base.specs.declared.call.Call.TheVariants.{DeleteVm, DeleteDisk, HasDisk, Ping, CompilePackage}
use Rattle.bosh_base.specs.declared.entry.Begin.{Begin}
use Rattle.bosh_base.specs.declared.failure.Failure.{Failure}
use Rattle.bosh_base.specs.declared.failure.Failure.TheVariants as failures
use Rattle.bosh_base.specs.declared.key.Key.{Key}
use Rattle.bosh_base.specs.declared.owner.Owner.{Owner}
use Rattle.bosh_base.specs.declared.owner.Owner.TheVariants.{Instance, Compile, Disk}
use Rattle.bosh_base.specs.declared.snapshot.Orphan.{Orphan}
use Rattle.bosh_history.specs.Known.{Known, Task, Slot, dep_of_task}
use Rattle.bosh_history.specs.Slots.{next_key, slot_begun, slot_after}
use Rattle.bosh_history.specs.Words.{at, inserted, without}
use Rattle.bosh_rows.specs.After.{begun_row, after}
use Rattle.bosh_rows.specs.Same.{same_inst}
use Rattle.bosh_history.specs.Orders.{slot_cmp, same_slot}
use Rattle.bosh_rows.specs.SoundSnapshot.{built_cmp}
use Rattle.bosh_compile.specs.Readiness.{same_key}

-- ---- a call begins

abbrev pub key_for : Known → ℕ → ℕ → Option Key
key_for k t s = option_map (λ work. work.key) (next_key k t s)

-- the deletion of an orphaned disk leaves a doubt
abbrev pub orphan_begun : ℕ → Call → Orphan → Orphan
orphan_begun n (DeleteDisk disk) it = record it { doubt = Some (record { n = n; call = DeleteDisk disk }) }
orphan_begun n call it = it

abbrev pub begins : Begin → Owner → Known → Known
begins b (Instance i) k = record k {
  instances = inserted inst_cmp i k.instances;
  row = at same_inst i (begun_row b.n b.call (k.row i)) k.row;
}
begins b (Compile t s) k = record k {
  machines = inserted slot_cmp (record { task = t; slot = s }) k.machines;
  slot = at eqb t (at eqb s (slot_begun b.n b.call (dep_of_task k t) (key_for k t s) (k.slot t s)) (k.slot t)) k.slot;
}
begins b (Disk d) k = record k { orphan = at eqb d (option_map (orphan_begun b.n b.call) (k.orphan d)) k.orphan }

abbrev pub task_with_call : Task → Task
task_with_call t = record t { calls = option_map (λ n. n + 1) t.calls }

abbrev pub call_begun : Begin → Known → Known
call_begun b k = record (begins b b.owner k) {
  begun = at eqb b.n (Some b) k.begun;
  last_call = b.n;
  task = at eqb b.task (task_with_call (k.task b.task)) k.task;
}

-- ---- a call is answered

-- an answer that shows that a disk is not there
abbrev pub shows_gone : Call → Answer → Bool
shows_gone (DeleteDisk disk) answers.Done = true
shows_gone (HasDisk disk) answers.No = true
shows_gone call answer = false

-- an answer that settles whether it was deleted
abbrev pub shows_there : Call → Answer → Bool
shows_there (DeleteDisk disk) answers.Gone = true
shows_there (HasDisk disk) answers.Yes = true
shows_there call answer = false

abbrev pub orphan_told : Bool → Orphan → Orphan
orphan_told true it = record it { doubt = None }
orphan_told false it = it

abbrev pub orphan_after : ℕ → Call → Answer → Known → Known
orphan_after d call answer k =
    if shows_gone call answer
    then record k { orphans = without eqb d k.orphans; orphan = at eqb d None k.orphan }
    else record k { orphan = at eqb d (option_map (orphan_told (shows_there call answer)) (k.orphan d)) k.orphan }

abbrev pub slot_answered : ℕ → ℕ → Option Slot → Known → Known
slot_answered t s (Some it) k = record k { slot = at eqb t (at eqb s (Some it) (k.slot t)) k.slot }
slot_answered t s None k = record k {
  machines = without same_slot (record { task = t; slot = s }) k.machines;
  slot = at eqb t (at eqb s None (k.slot t)) k.slot;
}

abbrev pub ends_of : Begin → Answer → Owner → Known → Known
ends_of b answer (Instance i) k = record k { row = at same_inst i (after b.n b.call answer (k.row i)) k.row }
ends_of b answer (Compile t s) k = slot_answered t s (slot_after b.n b.call answer (k.slot t s)) k
ends_of b answer (Disk d) k = orphan_after d b.call answer k

-- a compilation that is answered records its key, whatever becomes of the task
abbrev pub compiles : Call → Answer → Known → Known
compiles (CompilePackage vm work deps) (answers.Built digest) k =
    record k {
      built = inserted built_cmp (record { name = work.name; key = work.key; digest = digest }) k.built;
      digest = at same_key work.key (Some digest) k.digest;
    }
compiles call answer k = k

-- A call fails where it is answered so, and where what it names is gone: but for a ping, and for the deletion of a
-- machine that is known to be lost.
abbrev pub is_lost : Known → Owner → Bool
is_lost k (Instance i) = (k.row i).lost
is_lost k owner = false

abbrev pub fails_gone : Known → Begin → Call → Bool
fails_gone k b (Ping vm) = false
fails_gone k b (DeleteVm vm) = not (is_lost k b.owner)
fails_gone k b call = true

abbrev pub failure_of : Known → Begin → Answer → Option Failure
failure_of k b answers.Failed = Some (failures.Call b.n)
failure_of k b answers.Gone = if fails_gone k b b.call then Some (failures.Gone b.n) else None
failure_of k b answer = None

abbrev pub number_of : Failure → ℕ
number_of failures.Interrupted = 0
number_of (failures.Call n) = n
number_of (failures.Gone n) = n

-- the failure of the least call
abbrev pub least_failure : Option Failure → Option Failure → Option Failure
least_failure (Some old) (Some new) = if nat_lt (number_of new) (number_of old) then Some new else Some old
least_failure None new = new
least_failure old None = old

-- an answered ping is noted for its instance
abbrev pub task_after_ping : Call → Answer → Owner → Task → Task
task_after_ping (Ping vm) answers.Failed owner t = t
task_after_ping (Ping vm) answer (Instance i) t = record t { pinged = at same_inst i true t.pinged }
task_after_ping call answer owner t = t

abbrev pub task_told : Known → Begin → Answer → Task → Task
task_told k b answer t = record (task_after_ping b.call answer b.owner t) {
  failed = least_failure t.failed (failure_of k b answer);
}

abbrev pub call_ended : Answer → Option Begin → Known → Known
call_ended answer (Some b) k = record (compiles b.call answer (ends_of b answer b.owner k)) {
  task = at eqb b.task (task_told k b answer (k.task b.task)) k.task;
}
call_ended answer None k = k
