-- What changes in the rolling update of a group.
use Rattle.std.specs.Prelude.{ℕ, List, false, true, Option, Some, None, slice_get, slice_index_or, slice_set, if◌then◌else◌}
use Rattle.bosh_progress.specs.declared.rolling.Rolling.{Rolling}
use Rattle.bosh_work.specs.declared.part.GroupPlace.{GroupPlace}
use Rattle.bosh_work.specs.declared.groups.GroupWork.{GroupWork}

-- ---- at a place

abbrev pub taken : ℕ → Rolling → Rolling
taken place roll = record roll { idle = slice_set roll.idle place false }

-- it is idle again where it is busy
abbrev pub given : ℕ → Rolling → Rolling
given place roll = record roll {
  idle = if slice_index_or roll.busy place false then slice_set roll.idle place true else roll.idle;
}

abbrev pub begun : ℕ → Rolling → Rolling
begun place roll = record roll {
  waiting = slice_set roll.waiting place false;
  busy = slice_set roll.busy place true;
  idle = slice_set roll.idle place true;
}

abbrev pub finished : ℕ → Rolling → Rolling
finished place roll = record roll {
  waiting = slice_set roll.waiting place false;
  busy = slice_set roll.busy place false;
  idle = slice_set roll.idle place false;
}

-- ---- among the groups of a task, at the place of a changed instance, where one is told

abbrev pub with_roll : List GroupWork → ℕ → Option GroupWork → (Rolling → Rolling) → List GroupWork
with_roll groups at (Some group) change = slice_set groups at (record group { roll = change group.roll })
with_roll groups at None change = groups

abbrev pub at_change : (ℕ → Rolling → Rolling) → List GroupWork → Option GroupPlace → List GroupWork
at_change change groups (Some at) = with_roll groups at.group (slice_get groups at.group) (change at.place)
at_change change groups None = groups
