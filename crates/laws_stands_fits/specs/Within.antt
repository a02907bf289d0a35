-- Entries that come while tasks work: they open no task and end none, and do not tell all anew.
use Rattle.std.specs.Prelude.{Bool, false, true}
use Rattle.bosh_base.specs.declared.entry.Entry.{Entry}
use Rattle.bosh_base.specs.declared.entry.Entry.TheVariants.{Snapshot, TaskDone, TaskError, TaskOpen}

abbrev pub is_within : Entry → Bool
is_within (TaskOpen o) = false
is_within (TaskDone t) = false
is_within (TaskError e) = false
is_within (Snapshot s) = false
is_within entry = true
