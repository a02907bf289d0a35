-- Tasks that end because the director stopped.
use Rattle.std.specs.Prelude.{ℕ, List, filter, map}
use Rattle.bosh_base.specs.Cloud.{numbers_to}
use Rattle.bosh_base.specs.declared.entry.Entry.{Entry}
use Rattle.bosh_base.specs.declared.entry.Entry.TheVariants as entries
use Rattle.bosh_base.specs.declared.failure.Failure.TheVariants.{Interrupted}
use Rattle.bosh_history.specs.Held.{is_open}
use Rattle.bosh_history.specs.Known.{Known}

-- the end of a task that a stop interrupted
abbrev pub interruption : ℕ → Entry
interruption t = entries.TaskError (record { task = t; cause = Interrupted })

-- .. of several, one after the other
abbrev pub interruptions : List ℕ → List Entry
interruptions tasks = map interruption tasks

-- the tasks that are open, by number
abbrev pub open_at : Known → List ℕ
open_at k = filter (is_open k) (numbers_to k.tasks)
