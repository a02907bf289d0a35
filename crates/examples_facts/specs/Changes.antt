-- States that are made up: a moment of a history in which one thing is otherwise.
use Rattle.std.specs.Prelude.{ℕ, Bool, false, eqb, Some, List, [], ◌∷◌, ◌++◌, map}
use Rattle.std.specs.Option.{option_map}
use Rattle.std.specs.Str.{bytes_eq}
use Rattle.bosh_base.specs.Inst.{inst_cmp}
use Rattle.bosh_base.specs.declared.call.Call.{Call}
use Rattle.bosh_base.specs.declared.entry.Begin.{Begin}
use Rattle.bosh_base.specs.declared.entry.Entry.{Entry}
use Rattle.bosh_base.specs.declared.entry.Entry.TheVariants as entries
use Rattle.bosh_base.specs.declared.goal.Goal.{Goal}
use Rattle.bosh_base.specs.declared.goal.GoalRow.{GoalRow}
use Rattle.bosh_base.specs.declared.inst.Inst.{Inst}
use Rattle.bosh_base.specs.declared.owner.Owner.{Owner}
use Rattle.bosh_base.specs.declared.owner.Owner.TheVariants.{Instance}
use Rattle.bosh_base.specs.declared.row.DiskRow.{DiskRow}
use Rattle.bosh_base.specs.declared.row.Role.TheVariants.{Active}
use Rattle.bosh_base.specs.declared.row.Row.{Row}
use Rattle.bosh_base.specs.declared.snapshot.Orphan.{Orphan}
use Rattle.laws_counts.specs.Courses.{Account, Course}
use Rattle.bosh_history.specs.Known.{Known, Slot, Task}
use Rattle.bosh_history.specs.Moments.{Moment, OpenCall, losing}
use Rattle.bosh_history.specs.Words.{at, inserted}
use Rattle.examples_histories.specs.Values.{disk, plain, z1}
use Rattle.bosh_rows.specs.Same.{same_inst}

-- what is otherwise
abbrev pub Change : Type 0
Change = Course → Course

-- one change, and then another
abbrev pub and_then : Change → Change → Change
and_then first second c = second (first c)

-- a change in the moment
abbrev pub in_moment : (Moment → Moment) → Change
in_moment change c = record c { moment = change c.moment }

-- .. in what is known
abbrev pub in_known : (Known → Known) → Change
in_known change = in_moment (λ m. record m { known = change m.known })

-- ---- what is recorded

-- another row of an instance
abbrev pub row_is : Inst → (Row → Row) → Change
row_is i change = in_known (λ k. record k { row = at same_inst i (change (k.row i)) k.row })

-- another task
abbrev pub task_is : ℕ → (Task → Task) → Change
task_is t change = in_known (λ k. record k { task = at eqb t (change (k.task t)) k.task })

-- another record of a compile machine
abbrev pub slot_is : ℕ → ℕ → (Slot → Slot) → Change
slot_is t s change =
    in_known (λ k. record k { slot = at eqb t (at eqb s (option_map change (k.slot t s)) (k.slot t)) k.slot })

-- .. of an orphaned disk
abbrev pub orphan_is : ℕ → (Orphan → Orphan) → Change
orphan_is d change = in_known (λ k. record k { orphan = at eqb d (option_map change (k.orphan d)) k.orphan })

-- another current goal
abbrev pub goal_is : List ℕ → (Goal → Goal) → Change
goal_is dep change = in_known (λ k. record k { goal = at bytes_eq dep (option_map change (k.goal dep)) k.goal })

-- the current goal, and that of a task
abbrev pub goals_are : List ℕ → ℕ → (Goal → Goal) → Change
goals_are dep t change =
    and_then (goal_is dep change) (task_is t (λ it. record it { goal = option_map change it.goal }))

-- another last call
abbrev pub last_call_is : ℕ → Change
last_call_is n = in_known (λ k. record k { last_call = n })

-- a row in doubt of this call
abbrev pub doubt_is : ℕ → Call → Row → Row
doubt_is n call row = record row { doubt = Some (record { n = n; call = call }) }

-- a row with other disks
abbrev pub disks_are : (List DiskRow → List DiskRow) → Row → Row
disks_are change row = record row { disks = change row.disks }

-- one more recorded instance
abbrev pub recorded_is : Inst → (Row → Row) → Change
recorded_is i change =
    in_known (λ k. record k {
      instances = inserted inst_cmp i k.instances;
      row = at same_inst i (change (k.row i)) k.row;
    })

-- ---- what was done

-- one more entry of the cloud
abbrev pub with_effect : Entry → Change
with_effect entry = in_moment (λ m. record m { effects = m.effects ++ entry ∷ [] })

-- one more effect for an owner
abbrev pub done_by : ℕ → Owner → List ℕ → Call → Change
done_by n owner dep call = with_effect (entries.Effect (record { n = n; owner = owner; dep = dep; call = call }))

-- .. for an instance
abbrev pub done_for : ℕ → Inst → Call → Change
done_for n i call = done_by n (Instance i) i.dep call

-- one more loss
abbrev pub is_lost : ℕ → Bool → Change
is_lost vm whole = in_moment (λ m. losing m (record { vm = vm; whole = whole }))

-- the same effect, for another deployment
abbrev pub for_deployment : List ℕ → Entry → Entry
for_deployment dep (entries.Effect e) = entries.Effect (record e { dep = dep })
for_deployment dep entry = entry

-- all was done for another deployment
abbrev pub done_for_another : List ℕ → Change
done_for_another dep = in_moment (λ m. record m { effects = map (for_deployment dep) m.effects })

-- ---- open calls

-- another open call
abbrev pub call_is : ℕ → (OpenCall → OpenCall) → Change
call_is n change = in_moment (λ m. record m { calls = at eqb n (option_map change (m.calls n)) m.calls })

-- .. that began otherwise
abbrev pub begin_is : (Begin → Begin) → OpenCall → OpenCall
begin_is change call = record call { begin = change call.begin }

-- ---- what is kept of a task

-- something else is kept of a task
abbrev pub account_is : ℕ → (Account → Account) → Change
account_is t change c = record c { account = at eqb t (change (c.account t)) c.account }

-- nobody asks whether it is within its budget
abbrev pub is_unclean : ℕ → Change
is_unclean t = account_is t (λ it. record it { is_clean = false })

-- ---- values

-- the items, the last first
abbrev pub turned : {A : Type 0} → List A → List A → List A
turned before [] = before
turned before (a ∷ items) = turned (a ∷ before) items

-- each address stands twice
abbrev pub with_nets_twice : GoalRow → GoalRow
with_nets_twice want = record want { make = record want.make { nets = want.make.nets ++ want.make.nets } }

-- each row is wanted at one address
abbrev pub wanted_at : ℕ → GoalRow → GoalRow
wanted_at n want = record want { make = plain z1 n }

-- each row of a goal is wanted there
abbrev pub wanting : ℕ → Goal → Goal
wanting n goal = record goal { rows = map (wanted_at n) goal.rows }

-- each row is wanted of a later call than this
abbrev pub wanted_after : ℕ → GoalRow → GoalRow
wanted_after n want = record want { fresh_after = n }

-- an active disk
abbrev pub as_active : DiskRow → DiskRow
as_active d = record d { role = Active }

-- a disk of another size
abbrev pub of_size : ℕ → DiskRow → DiskRow
of_size size d = record d { want = disk size }

-- the first row is wanted at another address, and the second at that of the first
abbrev pub exchanged : List GoalRow → List GoalRow
exchanged (a ∷ b ∷ rows) = record a { make = plain z1 12 } ∷ record b { make = a.make } ∷ rows
exchanged rows = rows
