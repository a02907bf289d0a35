-- What the proofs on claims ask of a moment and of a task that works, each in the weakest form that serves.
use Rattle.std.specs.Prelude.{◌≡◌, ◌≢◌, ℕ, true, false, nat_lt, Some, None, [], is_some, length}
use Rattle.std.specs.List.{list_all}
use Rattle.std.specs.Option.{option_and_then}
use Rattle.bosh_base.specs.declared.failure.Failure.TheVariants.{Interrupted}
use Rattle.bosh_base.specs.declared.inst.Inst.{Inst}
use Rattle.bosh_base.specs.declared.owner.Owner.TheVariants.{Compile}
use Rattle.bosh_history.specs.Goals.{canaries_first, limit_of}
use Rattle.bosh_history.specs.Items.{is_item, is_to_ping, items, slots_of}
use Rattle.bosh_history.specs.Keys.{stand_after_needs}
use Rattle.bosh_history.specs.Known.{Slot, plan_in}
use Rattle.bosh_history.specs.Moments.{Moment, OpenCall}
use Rattle.bosh_history.specs.Notes.{is_task_open}
use Rattle.bosh_history.specs.Recovered.{is_recovering}
use Rattle.bosh_history.specs.Slots.{is_compiled, keys_of}
use Rattle.bosh_history.specs.Steps.{is_idle, work_for}
use Rattle.bosh_history.specs.Words.{is_among}
use Rattle.bosh_roll.specs.Upd.{is_busy}
use Rattle.bosh_roll.specs.declared.upd.Upd.TheVariants.{Failed}
use Rattle.bosh_rows.specs.CallOf.{has_its_machine}
use Rattle.bosh_rows.specs.Same.{same_inst}
use Rattle.laws_items.specs.Lists.{IsIn}

-- ---- the task works

-- it was opened, and has no end
abbrev pub IsOpen : Moment → ℕ → Type 0
IsOpen m t = is_task_open m.known t ≡ true

-- .. and no task is left that a stop interrupted
abbrev pub IsRecovered : Moment → Type 0
IsRecovered m = is_recovering m ≡ false

-- ---- calls

-- an open call of an owner of whom the task has something to do is the task's
abbrev pub CallsAreOwn : Moment → ℕ → Type 0
CallsAreOwn m t =
    (n : ℕ) (call : OpenCall) → m.calls n ≡ Some call → is_item m.known t call.begin.owner ≡ true → call.begin.task ≡ t

-- an open call of the task is of an item of its present phase
abbrev pub CallsAreOfItems : Moment → ℕ → Type 0
CallsAreOfItems m t =
    (n : ℕ) (call : OpenCall) → m.calls n ≡ Some call → call.begin.task ≡ t → IsIn call.begin.owner (items m.known t)

-- a call that failed is no stop
abbrev pub FailuresAreCalls : Moment → ℕ → Type 0
FailuresAreCalls m t = (m.known.task t).failed ≢ Some Interrupted

-- ---- compile machines

-- a recorded compile machine is known, or in doubt
abbrev pub MachinesAreKnown : Moment → Type 0
MachinesAreKnown m =
    (t s : ℕ) (it : Slot) → m.known.slot t s ≡ Some it → it.vm ≡ None → is_some it.doubt ≡ true

-- a compile machine of the task is for a key of its goal
abbrev pub KeysAreWanted : Moment → ℕ → Type 0
KeysAreWanted m t =
    (s : ℕ) (it : Slot) → m.known.slot t s ≡ Some it
    → is_some (option_and_then (work_for (m.known.task t).goal) it.key) ≡ true

-- .. and of a slot of its goal
abbrev pub SlotsAreWanted : Moment → ℕ → Type 0
SlotsAreWanted m t =
    (s : ℕ) → is_some (m.known.slot t s) ≡ true → nat_lt s (length (slots_of (m.known.task t).goal)) ≡ true

-- while no call of the task failed, a compile machine of it that has no open call is in no doubt
abbrev pub DoubtsAreOpen : Moment → ℕ → Type 0
DoubtsAreOpen m t =
    (m.known.task t).failed ≡ None → (s : ℕ) (it : Slot) → m.known.slot t s ≡ Some it
    → is_idle m (Compile t s) ≡ true → it.doubt ≡ None

-- ---- keys

-- what a key needs is compiled, or stands before it
abbrev pub KeysCanBeCompiled : Moment → ℕ → Type 0
KeysCanBeCompiled m t = stand_after_needs (is_compiled m.known) [] (keys_of (m.known.task t).goal) ≡ true

-- where a key is not compiled there is a slot
abbrev pub KeysHaveSlots : Moment → ℕ → Type 0
KeysHaveSlots m t =
    list_all (λ work. is_compiled m.known work.key) (keys_of (m.known.task t).goal) ≡ false
    → nat_lt 0 (length (slots_of (m.known.task t).goal)) ≡ true

-- ---- instances

-- a row that is to be pinged has a machine
abbrev pub AskedHaveMachines : Moment → ℕ → Type 0
AskedHaveMachines m t = (i : Inst) → is_to_ping (m.known.task t) i ≡ true → is_some (m.known.row i).vm ≡ true

-- the group of a changed instance has room for one update at least
abbrev pub GroupsHaveRoom : Moment → ℕ → Type 0
GroupsHaveRoom m t =
    (i : Inst) → is_among same_inst i (m.known.task t).changed ≡ true
    → nat_lt 0 (limit_of (m.known.task t) (plan_in (m.known.task t).goal i)) ≡ true

-- a row has the machine that its step may name
abbrev pub RowsHaveMachines : Moment → Type 0
RowsHaveMachines m = (i : Inst) → has_its_machine (m.known.row i) ≡ true

-- no update is told to have failed
abbrev pub UpdatesGoOn : Moment → ℕ → Type 0
UpdatesGoOn m t = (i : Inst) → (m.known.task t).upd i ≢ Failed

-- an update that began is a canary's, or all canaries are done
abbrev pub UpdatesAreInTurn : Moment → ℕ → Type 0
UpdatesAreInTurn m t =
    (i : Inst) → is_busy ((m.known.task t).upd i) ≡ true → canaries_first (m.known.task t) i ≡ true

-- ---- what each law asks for

-- so that the task waits for calls alone
pub record CanGoOn (m : Moment) (t : ℕ) : Type 0 where
  pub calls_are_own : CallsAreOwn m t
  pub machines_are_known : MachinesAreKnown m
  pub keys_are_wanted : KeysAreWanted m t
  pub doubts_are_open : DoubtsAreOpen m t
  pub groups_have_room : GroupsHaveRoom m t

-- so that it may end once it is over
pub record CanEnd (m : Moment) (t : ℕ) : Type 0 where
  pub is_open : IsOpen m t
  pub is_recovered : IsRecovered m
  pub calls_are_of_items : CallsAreOfItems m t
  pub failures_are_calls : FailuresAreCalls m t
  pub slots_are_wanted : SlotsAreWanted m t
  pub keys_can_be_compiled : KeysCanBeCompiled m t
  pub keys_have_slots : KeysHaveSlots m t

-- so that what it claims may be noted
pub record CanNote (m : Moment) (t : ℕ) : Type 0 where
  pub is_open : IsOpen m t
  pub is_recovered : IsRecovered m
  pub asked_have_machines : AskedHaveMachines m t
  pub rows_have_machines : RowsHaveMachines m
  pub updates_go_on : UpdatesGoOn m t
  pub updates_are_in_turn : UpdatesAreInTurn m t
