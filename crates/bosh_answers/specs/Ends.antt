-- How tasks that have ended are told (this project's profile).
use Rattle.std.specs.Prelude.{ℕ, codes, Option}
use Rattle.std.specs.Option.{option_and_then}
use Rattle.bosh_base.specs.declared.moves.Cause.{Cause}
use Rattle.bosh_base.specs.declared.moves.Cause.TheVariants as causes
use Rattle.bosh_base.specs.declared.reply.Reply.{Reply}
use Rattle.bosh_base.specs.declared.reply.Reply.TheVariants.{Refused, TaskFailed, TaskFinished, TaskGone}
use Rattle.bosh_base.specs.declared.task.TaskEnd.{TaskEnd}
use Rattle.bosh_base.specs.declared.task.TaskEnd.TheVariants as ends
use Rattle.bosh_records.specs.Readers.{task_at}
use Rattle.bosh_records.specs.declared.records.Records.{Records}
use Rattle.bosh_refusals.specs.Refused.{bare_refusal}

-- the refusal of a director that has stopped
abbrev pub stopped_reply : Reply
stopped_reply = Refused (bare_refusal (codes "book") (codes "Stopped"))

-- the end of a task
abbrev pub end_of : Records → ℕ → Option TaskEnd
end_of records task = option_and_then (λ row. row.end) (task_at records task)

abbrev pub told_end : ℕ → TaskEnd → Reply
told_end task ends.Finished = TaskFinished task
told_end task ends.Interrupted = stopped_reply
told_end task (ends.Fault n method owner) = TaskFailed (record { task = task; n = n; method = method; owner = owner })
told_end task (ends.Gone n method owner) = TaskGone (record { task = task; n = n; method = method; owner = owner })

-- how a halt is told of a task that it left without an end
abbrev pub told_halt : Cause → Reply
told_halt causes.Stop = stopped_reply
told_halt causes.Store = Refused (bare_refusal (codes "book") (codes "StoreFault"))
told_halt causes.CloudStore = Refused (bare_refusal (codes "world") (codes "CloudStore"))
