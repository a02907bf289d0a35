-- What the work of an open task stands for.
use Rattle.std.specs.Prelude.{Option, Bool, ◌≡◌, ℕ, not, ◌==◌, ◌&&◌, List, None, is_some, true, false, count_by}
use Rattle.std.specs.Prelude.{length, map}
use Rattle.std.specs.List.{list_any}
use Rattle.std.specs.Option.{option_map}
use Rattle.bosh_base.specs.Cloud.{numbers_to}
use Rattle.bosh_base.specs.declared.failure.Failure.{Failure}
use Rattle.bosh_base.specs.declared.answer.Answer.{Answer}
use Rattle.bosh_base.specs.declared.answer.Answer.TheVariants as answers
use Rattle.bosh_base.specs.declared.call.Call.{Call}
use Rattle.bosh_base.specs.declared.call.Call.TheVariants.{Ping}
use Rattle.bosh_base.specs.declared.goal.Goal.{Goal}
use Rattle.bosh_base.specs.declared.inst.Inst.{Inst}
use Rattle.bosh_base.specs.declared.key.Key.{Key}
use Rattle.bosh_base.specs.declared.owner.Owner.TheVariants.{Compile, Disk}
use Rattle.bosh_base.specs.declared.task.TaskEnd.{TaskEnd}
use Rattle.bosh_history.specs.Calls.{number_of}
use Rattle.bosh_history.specs.Items.{slots_of}
use Rattle.bosh_history.specs.Known.{Known, SlotName, Task}
use Rattle.bosh_history.specs.Slots.{is_compiled, keys_of, works_for}
use Rattle.bosh_history.specs.Tasks.{end_by}
use Rattle.bosh_history.specs.Words.{holds}
use Rattle.bosh_rows.specs.Same.{same_inst}
use Rattle.bosh_work.specs.Line.{finished_line}
use Rattle.bosh_work.specs.declared.line.Line.{Line}
use Rattle.bosh_work.specs.declared.part.MachineName.{MachineName}
use Rattle.bosh_work.specs.declared.part.Places.{Places}
use Rattle.bosh_work.specs.declared.work.Work.{Work}
use Rattle.laws_stands.specs.GroupsStand.{GroupsStand, change_place}
use Rattle.laws_stands.specs.LineStands.{LineStands, place_of}
use Rattle.laws_stands.specs.Told.{Told, idle_in, is_idle}

-- how a failure ends a task
abbrev pub end_of : Known → Failure → TaskEnd
end_of k failure = end_by failure (k.begun (number_of failure))

-- a machine of the task is for the key
abbrev pub is_worked_for : Known → ℕ → Key → Bool
is_worked_for k n key =
    list_any (λ (name : SlotName). name.task == n && works_for key (k.slot n name.slot)) k.machines

-- the keys of a goal
abbrev pub keys_in : Option Goal → List Key
keys_in goal = map (λ work. work.key) (keys_of goal)

-- an open call is the task's
abbrev pub is_task_call : Told → ℕ → ℕ → Bool
is_task_call told n c = holds (λ b. b.task == n) (told.calls c)

-- for a task, by its number; `swept` are the compile machines that were left over when it opened
pub record StandsFor (told : Told) (t : Task) (n : ℕ) (swept : List MachineName) (work : Work) : Type 0 where
  pub task_is : work.task ≡ n
  pub pings : LineStands t.to_ping (λ i. not (t.pinged i)) (idle_in told) work.pings
  pub obsolete : LineStands t.obsolete (λ i. not (t.gone i)) (idle_in told) work.obsolete
  pub disks : LineStands t.disks (λ d. is_some (told.known.orphan d)) (λ d. is_idle told (Disk d)) work.disks
  pub sweep :
      LineStands swept (λ name. is_some (told.known.slot name.task name.slot))
      (λ name. is_idle told (Compile name.task name.slot)) work.sweep
  pub keys :
      LineStands (keys_in t.goal) (λ key. not (is_compiled told.known key))
      (λ key. not (is_worked_for told.known n key)) work.keys
  pub slots_are : work.slots ≡ length (slots_of t.goal)
  pub machines_are : work.machines ≡ count_by (λ (name : SlotName). name.task == n) told.known.machines
  pub changed_are : work.changed ≡ t.changed
  pub groups_stand : GroupsStand t (idle_in told) work.groups
  pub failed_is : work.failed ≡ option_map (end_of told.known) t.failed
  pub open_are : work.open ≡ count_by (is_task_call told n) (numbers_to told.known.last_call)

-- the work of a task of a number stands for what is known of the task
abbrev pub WorkStands : Told → ℕ → List MachineName → Work → Type 0
WorkStands told n swept work = StandsFor told (told.known.task n) n swept work

-- the places of an instance: those that its back pointers name
abbrev pub places_of : Task → Inst → Places
places_of t i = record {
  part = record {
    ping = place_of same_inst i t.to_ping;
    leaving = place_of same_inst i t.obsolete;
    change = change_place t.changed i;
  };
  sweep = None;
  deleting = None;
}

-- an answered ping is noted
abbrev pub asks : Call → Answer → Bool
asks (Ping vm) answers.Failed = false
asks (Ping vm) answer = true
asks call answer = false

-- its instance is asked no more
abbrev pub asked_line : Bool → Line Inst → Option ℕ → Line Inst
asked_line true line place = finished_line line place
asked_line false line place = line
