-- What is left of a task.
use Rattle.std.specs.Prelude.{ℕ, Bool, true, false, ◌+◌, ◌-◌, Option, Some, None, min, nat_lt, option_map, slice_get}
use Rattle.std.specs.Prelude.{if◌then◌else◌}
use Rattle.std.specs.Option.{option_and_then, option_map_or}
use Rattle.bosh_base.specs.declared.task.TaskEnd.{TaskEnd}
use Rattle.bosh_base.specs.declared.task.TaskEnd.TheVariants.{Fault, Gone}
use Rattle.bosh_progress.specs.declared.rolling.Rolling.{Rolling}
use Rattle.bosh_work.specs.Line.{given_line, taken_line}
use Rattle.bosh_work.specs.Rolling.{at_change, begun, finished, given as given_roll, taken as taken_roll}
use Rattle.bosh_work.specs.declared.part.GroupPlace.{GroupPlace}
use Rattle.bosh_work.specs.declared.part.Places.{Places}
use Rattle.bosh_work.specs.declared.work.Work.{Work}

-- the rolling update of the group of a changed instance
abbrev pub roll_of : Work → Option GroupPlace → Option Rolling
roll_of work change =
    option_and_then (λ at. option_map (λ group. group.roll) (slice_get work.groups at.group)) change

-- the number of the call that ended a task, and 0 where none did
abbrev pub number_of : TaskEnd → ℕ
number_of (Fault n method owner) = n
number_of (Gone n method owner) = n
number_of end = 0

-- ---- what changes

-- somebody works on an owner that stands at these places
abbrev pub taken : Work → Places → Work
taken work places = record work {
  «open» = min (work.open + 1) 18446744073709551615;
  pings = taken_line work.pings places.part.ping;
  obsolete = taken_line work.obsolete places.part.leaving;
  sweep = taken_line work.sweep places.sweep;
  disks = taken_line work.disks places.deleting;
  groups = at_change taken_roll work.groups places.part.change;
}

-- nobody does any more
abbrev pub given : Work → Places → Work
given work places = record work {
  «open» = work.open - 1;
  pings = given_line work.pings places.part.ping;
  obsolete = given_line work.obsolete places.part.leaving;
  sweep = given_line work.sweep places.sweep;
  disks = given_line work.disks places.deleting;
  groups = at_change given_roll work.groups places.part.change;
}

-- the update of a changed instance begins
abbrev pub update_begun : Work → Option GroupPlace → Work
update_begun work change = record work { groups = at_change begun work.groups change }

-- it is done
abbrev pub update_finished : Work → Option GroupPlace → Work
update_finished work change = record work { groups = at_change finished work.groups change }

-- one of its compile machines is recorded from now on; it is for a key
abbrev pub with_machine : Work → Option ℕ → Work
with_machine work key = record work {
  machines = min (work.machines + 1) 18446744073709551615;
  keys = taken_line work.keys key;
}

-- one of its compile machines is not there any more; it was for a key
abbrev pub without_machine : Work → Option ℕ → Work
without_machine work key = record work {
  machines = work.machines - 1;
  keys = given_line work.keys key;
}

-- a call failed before another one, or where none has
abbrev pub is_less : Option TaskEnd → Option TaskEnd → Bool
is_less (Some one) other = option_map_or (λ it. nat_lt (number_of one) (number_of it)) other true
is_less None other = false

-- a call of it failed, where one did; the least number counts
abbrev pub failed_by : Work → Option TaskEnd → Work
failed_by work failed = record work { failed = if is_less failed work.failed then failed else work.failed }
