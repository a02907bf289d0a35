-- What a director's entries tell, and the calls that stand open by them. A stop is no entry: a call that it forgot stays
-- here until the end of its task is noted.
use Rattle.std.specs.Prelude.{◌≡◌, ℕ, Bool, eqb, nat_le, not, ◌==◌, ◌&&◌, ◌≤◌, Option, Some, None, length, true, is_some}
use Rattle.std.specs.Prelude.{if◌then◌else◌}
use Rattle.std.specs.List.{list_all}
use Rattle.std.specs.Option.{option_and_then}
use Rattle.bosh_base.specs.Cloud.{numbers_to}
use Rattle.bosh_base.specs.declared.entry.Begin.{Begin}
use Rattle.bosh_base.specs.declared.entry.Entry.{Entry}
use Rattle.bosh_base.specs.declared.entry.Entry.TheVariants as entries
use Rattle.bosh_base.specs.declared.failure.Failure.{Failure}
use Rattle.bosh_base.specs.declared.inst.Inst.{Inst}
use Rattle.bosh_base.specs.declared.key.Key.{Key}
use Rattle.bosh_base.specs.declared.owner.Owner.{Owner}
use Rattle.bosh_base.specs.declared.owner.Owner.TheVariants.{Instance}
use Rattle.bosh_history.specs.Calls.{number_of}
use Rattle.bosh_history.specs.Goals.{is_waiting}
use Rattle.bosh_history.specs.Held.{is_open}
use Rattle.bosh_history.specs.Items.{is_finished}
use Rattle.bosh_history.specs.Known.{Known}
use Rattle.bosh_history.specs.Learn.{learn}
use Rattle.bosh_history.specs.Steps.{compiles}
use Rattle.bosh_history.specs.Words.{at, holds, is_among}
use Rattle.bosh_roll.specs.Upd.{is_busy}
use Rattle.bosh_rows.specs.Same.{same_inst, same_owner}
use Rattle.bosh_rows.specs.SoundSnapshot.{are_distinct}

-- what is known, and how each open call began
pub record Told : Type 0 where
  pub known : Known
  pub calls : ℕ → Option Begin
  -- the tasks up to this number were told by a snapshot, which tells nothing of what is left of an open one
  pub snapped : ℕ

-- a call that is not the task's
abbrev pub of_others : ℕ → Option Begin → Option Begin
of_others t call = option_and_then (λ b. if b.task == t then None else Some b) call

-- the open calls after one more entry
abbrev pub open_after : Entry → (ℕ → Option Begin) → ℕ → Option Begin
open_after (entries.Begin b) calls = at eqb b.n (Some b) calls
open_after (entries.End e) calls = at eqb e.n None calls
open_after (entries.TaskError e) calls = λ n. of_others e.task (calls n)
open_after (entries.Snapshot s) calls = λ n. None
open_after entry calls = calls

-- how many tasks were told by a snapshot, after one more entry
abbrev pub snapped_after : Entry → ℕ → ℕ
snapped_after (entries.Snapshot s) tasks = length s.tasks
snapped_after entry tasks = tasks

-- what is told after one more entry
abbrev pub telling : Told → Entry → Told
telling told e = record {
  known = learn told.known e;
  calls = open_after e told.calls;
  snapped = snapped_after e told.snapped;
}

-- no open call is the owner's
abbrev pub is_idle : Told → Owner → Bool
is_idle told owner =
    list_all (λ n. not (holds (λ b. same_owner owner b.owner) (told.calls n))) (numbers_to told.known.last_call)

-- .. of an instance
abbrev pub idle_in : Told → Inst → Bool
idle_in told i = is_idle told (Instance i)

-- an open task
abbrev pub is_going : Known → ℕ → Bool
is_going k t = nat_le 1 t && (nat_le t k.tasks && is_open k t)

-- what entries never tell otherwise: an open call has its number, began and is of an open task; a failed call began; and no
-- update is told to have failed
pub record TellsWell (told : Told) : Type 0 where
  pub number : (n : ℕ) (b : Begin) → told.calls n ≡ Some b → b.n ≡ n
  pub low : (n : ℕ) (b : Begin) → told.calls n ≡ Some b → 1 ≤ n
  pub past : (n : ℕ) (b : Begin) → told.calls n ≡ Some b → n ≤ told.known.last_call
  pub begun : (n : ℕ) (b : Begin) → told.calls n ≡ Some b → told.known.begun n ≡ Some b
  pub begun_past : (n : ℕ) (b : Begin) → told.known.begun n ≡ Some b → n ≤ told.known.last_call
  pub failed : (t : ℕ) (failure : Failure) → (told.known.task t).failed ≡ Some failure →
      is_some (told.known.begun (number_of failure)) ≡ true
  pub going : (n : ℕ) (b : Begin) → told.calls n ≡ Some b → is_going told.known b.task ≡ true
  -- no two open calls are of one owner, or compile one key
  pub one_owner : (c d : ℕ) (b e : Begin) → told.calls c ≡ Some b → told.calls d ≡ Some e →
      same_owner b.owner e.owner ≡ true → c ≡ d
  pub one_key : (c d : ℕ) (b e : Begin) (key : Key) → told.calls c ≡ Some b → told.calls d ≡ Some e →
      compiles key b.call ≡ true → compiles key e.call ≡ true → c ≡ d
  -- the instance of an open call is recorded
  pub recorded : (n : ℕ) (b : Begin) (i : Inst) → told.calls n ≡ Some b → b.owner ≡ Instance i →
      is_among same_inst i told.known.instances ≡ true
  -- no task counts more calls than there were, or lists a disk twice
  pub counted : (t c : ℕ) → (told.known.task t).calls ≡ Some c → c ≤ told.known.last_call
  pub disks_apart : (t : ℕ) → are_distinct eqb (told.known.task t).disks ≡ true
  pub updates : (t : ℕ) (i : Inst) →
      is_finished ((told.known.task t).upd i)
      ≡ (not (is_waiting ((told.known.task t).upd i)) && not (is_busy ((told.known.task t).upd i)))
