-- What is listed of what is recorded (this project's profile).
use Rattle.std.specs.Prelude.{◌≡◌, ℕ, List, codes, decimal, map, IsPermutation, Option, None, Some}
use Rattle.std.specs.List.Sorted.{IsSorted}
use Rattle.bosh_answers.specs.declared.kind.Listing.{Listing}
use Rattle.bosh_answers.specs.declared.kind.Listing.TheVariants as listings
use Rattle.bosh_base.specs.declared.reply.Reply.{Reply}
use Rattle.bosh_base.specs.declared.reply.Reply.TheVariants as replies
use Rattle.bosh_base.specs.declared.snapshot.BuiltKey.{BuiltKey}
use Rattle.bosh_base.specs.declared.task.TaskRow.{TaskRow}
use Rattle.bosh_records.specs.Keys.{built_of}
use Rattle.bosh_records.specs.Readers.{task_at}
use Rattle.bosh_records.specs.declared.records.Records.{Records}
use Rattle.bosh_refusals.specs.Refused.{refusal_with}
use Rattle.bosh_rows.specs.SoundSnapshot.{built_cmp}
use Rattle.bosh_shown.specs.Instances.{instance_lines}
use Rattle.bosh_shown.specs.Orphans.{orphan_lines}
use Rattle.bosh_shown.specs.Releases.{release_line}
use Rattle.bosh_shown.specs.Tasks.{task_detail, task_lines}

-- what is shown of a task
abbrev pub shown_task : ℕ → Option TaskRow → Reply
shown_task task (Some row) = replies.Task (task_detail row)
shown_task task None = replies.Refused (refusal_with (codes "session") (codes "NoTask") (decimal task))

-- the compiled packages are told, by name and key
abbrev pub TellsCompiled : Records → Reply → Type 0
TellsCompiled records reply =
    (keys : List BuiltKey) × (reply ≡ replies.Compiled keys) × IsPermutation (built_of records.keys.by_key.entries) keys
    × IsSorted built_cmp keys

-- the reply is the list that is asked for
abbrev pub IsListed : Listing → Records → Reply → Type 0
IsListed (listings.Instances dep) records reply =
    reply ≡ replies.Instances (instance_lines dep records.instances.by_inst.entries)
IsListed listings.OrphanedDisks records reply = reply ≡ replies.Orphans (orphan_lines records.orphans.places.entries)
IsListed listings.Tasks records reply = reply ≡ replies.Tasks (task_lines records.tasks.places.entries)
IsListed (listings.Task task) records reply = reply ≡ shown_task task (task_at records task)
IsListed listings.Releases records reply = reply ≡ replies.Releases (map release_line records.releases.items)
IsListed listings.Compiled records reply = TellsCompiled records reply
