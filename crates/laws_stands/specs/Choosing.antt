-- What the choice of a worker needs of the records and of a moment.
use Rattle.std.specs.Prelude.{◌≡◌, ℕ, ◌+◌, ◌<◌, ◌⊎◌, ◌==◌, ◌&&◌, Bool, true, false, not, List, [], Some}
use Rattle.std.specs.Prelude.{None, count_by, is_none, is_some, length, min, nat_lt, slice_get}
use Rattle.std.specs.Option.{option_and_then, option_map, unwrap_or}
use Rattle.bosh_base.specs.declared.inst.Inst.{Inst}
use Rattle.bosh_base.specs.declared.key.Key.{Key}
use Rattle.bosh_base.specs.declared.owner.Owner.TheVariants.{Instance, Compile, Disk}
use Rattle.bosh_history.specs.Goals.{is_waiting}
use Rattle.bosh_history.specs.Items.{is_finished, is_to_ping, slots_of}
use Rattle.bosh_history.specs.Known.{SlotName, want_in}
use Rattle.bosh_history.specs.Moments.{Moment}
use Rattle.bosh_history.specs.Notes.{has_begun}
use Rattle.bosh_history.specs.Slots.{is_compiled}
use Rattle.bosh_history.specs.Steps.{is_compiling, is_idle, sweep_call, work_for}
use Rattle.bosh_history.specs.Words.{is_among}
use Rattle.bosh_records.specs.NextKey.{goal_for}
use Rattle.bosh_records.specs.Readers as readers
use Rattle.bosh_records.specs.declared.records.Records.{Records}
use Rattle.bosh_roll.specs.Upd.{is_busy}
use Rattle.bosh_rows.specs.After.{bare}
use Rattle.bosh_rows.specs.CallOf.{has_its_machine}
use Rattle.bosh_rows.specs.Same.{same_inst}
use Rattle.bosh_rows.specs.SoundSnapshot.{are_distinct}
use Rattle.bosh_work.specs.declared.part.MachineName.{MachineName}
use Rattle.bosh_work.specs.declared.work.Work.{Work}
use Rattle.laws_stands.specs.GroupsStand.{GroupsStand}
use Rattle.laws_stands.specs.LineStands.{LineStands}
use Rattle.laws_stands.specs.Stands.{AreSwept, key_of_slot, key_place, row_of_slot}
use Rattle.laws_stands.specs.WorkStands.{is_worked_for, keys_in}

-- no open call at a moment is an instance's
abbrev pub idle_at : Moment → Inst → Bool
idle_at m i = is_idle m (Instance i)

-- the work of a task stands for what is known at a moment, and so do the tables
pub record CanChoose (m : Moment) (n : ℕ) (records : Records) (swept : List MachineName)
    (work : Work) : Type 0 where
  -- what is left of the task
  pub task_is : work.task ≡ n
  pub pings : LineStands (m.known.task n).to_ping (λ i. not ((m.known.task n).pinged i)) (idle_at m) work.pings
  pub obsolete : LineStands (m.known.task n).obsolete (λ i. not ((m.known.task n).gone i)) (idle_at m) work.obsolete
  pub disks : LineStands (m.known.task n).disks (λ d. is_some (m.known.orphan d))
      (λ d. is_idle m (Disk d)) work.disks
  pub sweep :
      LineStands swept (λ name. is_some (m.known.slot name.task name.slot))
      (λ name. is_idle m (Compile name.task name.slot)) work.sweep
  pub keys :
      LineStands (keys_in (m.known.task n).goal) (λ key. not (is_compiled m.known key))
      (λ key. not (is_worked_for m.known n key)) work.keys
  pub are_swept : AreSwept m.known n swept
  pub slots_are : work.slots ≡ length (slots_of (m.known.task n).goal)
  pub machines_are : work.machines ≡ count_by (λ (name : SlotName). name.task == n) m.known.machines
  pub changed_are : work.changed ≡ (m.known.task n).changed
  pub groups_stand : GroupsStand (m.known.task n) (idle_at m) work.groups
  -- what the tables have
  pub number_is : min (records.last_call + 1) 18446744073709551615 ≡ m.known.last_call + 1
  pub goal_is : goal_for records n ≡ (m.known.task n).goal
  pub rows_are : (i : Inst) → unwrap_or (readers.row_at records i) (bare i) ≡ m.known.row i
  pub wants_are : (i : Inst) → is_among same_inst i (m.known.task n).changed ≡ true →
      readers.want_of records i ≡ want_in (m.known.task n).goal i
  pub machine_rows : (t s : ℕ) →
      option_map (λ it. it.row) (readers.machine_at records (record { task = t; slot = s }))
      ≡ option_map (row_of_slot t s) (m.known.slot t s)
  pub machine_keys : (s : ℕ) →
      option_and_then (λ it. it.key) (readers.machine_at records (record { task = n; slot = s }))
      ≡ key_place m.known n (key_of_slot (m.known.slot n s))
  pub machine_idle : (s : ℕ) →
      is_none (option_and_then (λ it. it.call) (readers.machine_at records (record { task = n; slot = s })))
      ≡ is_idle m (Compile n s)
  pub orphans_are : (d : ℕ) → option_map (λ it. it.orphan) (readers.orphan_at records d) ≡ m.known.orphan d
  pub digests_are : (key : Key) → readers.digest_of records key ≡ m.known.digest key
  pub compiling_are : (key : Key) → readers.is_compiling records key ≡ is_compiling m key
  -- what is known of the task
  pub are_apart : are_distinct same_inst (m.known.task n).changed ≡ true
  pub are_told : (i : Inst) →
      is_finished ((m.known.task n).upd i)
      ≡ (not (is_waiting ((m.known.task n).upd i)) && not (is_busy ((m.known.task n).upd i)))
  pub begun : (i : Inst) → idle_at m i ≡ false → is_among same_inst i (m.known.task n).changed ≡ true →
      is_waiting ((m.known.task n).upd i) ≡ true → has_begun (m.known.task n) (Instance i) ≡ true
  pub asks_or_deletes : ((m.known.task n).to_ping ≡ []) ⊎ ((m.known.task n).disks ≡ [])
  pub asked : (i : Inst) → is_to_ping (m.known.task n) i ≡ true → is_some (m.known.row i).vm ≡ true
  pub have_machines : (i : Inst) → has_its_machine (m.known.row i) ≡ true
  pub sweep_calls : (t s : ℕ) → is_some (m.known.slot t s) ≡ true → is_some (sweep_call (m.known.slot t s)) ≡ true
  pub orphan_numbers : (d : ℕ) → option_map (λ it. it.disk) (m.known.orphan d)
      ≡ option_map (λ it. d) (m.known.orphan d)
  -- .. and of its compile machines
  pub listed : (name : SlotName) (k : ℕ) → slice_get m.known.machines k ≡ Some name →
      is_some (m.known.slot name.task name.slot) ≡ true
  pub counted : (s : ℕ) → is_some (m.known.slot n s) ≡ true →
      nat_lt 0 (count_by (λ (name : SlotName). name.task == n) m.known.machines) ≡ true
  pub of_goal : (s : ℕ) → is_some (m.known.slot n s) ≡ true → s < length (slots_of (m.known.task n).goal)
  pub wanted : (s : ℕ) (key : Key) → key_of_slot (m.known.slot n s) ≡ Some key →
      is_some (work_for (m.known.task n).goal key) ≡ true
