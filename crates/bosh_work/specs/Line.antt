-- What changes in a line of items.
use Rattle.std.specs.Prelude.{ℕ, false, true, Option, Some, None, slice_index_or, slice_set, if◌then◌else◌}
use Rattle.bosh_progress.specs.declared.queue.Queue.{Queue}
use Rattle.bosh_work.specs.declared.line.Line.{Line}

-- ---- at a place

abbrev pub taken : Queue → ℕ → Queue
taken queue place = record queue { free = slice_set queue.free place false }

-- it is free again where it is left
abbrev pub given : Queue → ℕ → Queue
given queue place = record queue {
  free = if slice_index_or queue.left place false then slice_set queue.free place true else queue.free;
}

abbrev pub finished : Queue → ℕ → Queue
finished queue place = record queue {
  left = slice_set queue.left place false;
  free = slice_set queue.free place false;
}

-- ---- where a place is told

abbrev pub taken_line : {T : Type 0} → Line T → Option ℕ → Line T
taken_line line (Some place) = record line { queue = taken line.queue place }
taken_line line None = line

abbrev pub given_line : {T : Type 0} → Line T → Option ℕ → Line T
given_line line (Some place) = record line { queue = given line.queue place }
given_line line None = line

abbrev pub finished_line : {T : Type 0} → Line T → Option ℕ → Line T
finished_line line (Some place) = record line { queue = finished line.queue place }
finished_line line None = line
