use Rattle.std.proofs.Common.{◌≡◌, ◌++◌}
use Rattle.bosh_book.specs.Starts.{open_in}
use Rattle.bosh_book.proofs.starting.open_tasks.Given as goal

abbrev pub invariant-loop-task : goal.invariant-loop-task
invariant-loop-task l = l.tasks.items ++ open_in l.task-iterator ≡ open_in l.records.tasks.places.entries
