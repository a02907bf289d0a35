-- What is listed of what is known, and of what is there in the cloud (bosh.io, "CLI v2"; !cloud and cloud-check by this
-- project's profile).
use Rattle.std.specs.Prelude.{ℕ, ◌&&◌, List, filter, is_some, map, nat_le, Option, Some, None, if◌then◌else◌}
use Rattle.std.specs.List.{filter_map}
use Rattle.std.specs.Str.{bytes_eq}
use Rattle.bosh_answers.specs.Checks.{no_deployment}
use Rattle.bosh_answers.specs.Listings.{shown_task}
use Rattle.bosh_base.specs.Cloud.{disk_of, disks_created, numbers_to}
use Rattle.bosh_base.specs.declared.entry.Entry.{Entry}
use Rattle.bosh_base.specs.declared.machine.Disk.{Disk}
use Rattle.bosh_base.specs.declared.reply.Reply.{Reply}
use Rattle.bosh_base.specs.declared.reply.Reply.TheVariants as replies
use Rattle.bosh_base.specs.declared.row.Row.{Row}
use Rattle.bosh_base.specs.declared.snapshot.Orphan.{Orphan}
use Rattle.bosh_base.specs.declared.task.TaskRow.{TaskRow}
use Rattle.bosh_cck.specs.Problems.{problems}
use Rattle.bosh_cck.specs.Tables.{all_there}
use Rattle.bosh_history.specs.Known.{Known}
use Rattle.bosh_history.specs.Snapshots.{task_row}
use Rattle.bosh_holdings.specs.Finding.{machines_in}
use Rattle.bosh_inventory.specs.Rows.{slots}
use Rattle.bosh_shown.specs.Cloud.{cloud_listing}
use Rattle.bosh_shown.specs.Instances.{instance_line}
use Rattle.bosh_shown.specs.Orphans.{orphan_line}
use Rattle.bosh_shown.specs.Releases.{release_line}
use Rattle.bosh_shown.specs.Tasks.{task_line}

-- ---- what is known

-- the recorded rows of a deployment, by group and index
abbrev pub rows_of : Known → List ℕ → List Row
rows_of k dep = map k.row (filter (λ i. bytes_eq i.dep dep) k.instances)

-- the orphaned disks, by number
abbrev pub orphans : Known → List Orphan
orphans k = filter_map k.orphan k.orphans

-- .. that were of a deployment
abbrev pub orphans_of : Known → List ℕ → List Orphan
orphans_of k dep = filter (λ it. bytes_eq it.inst.dep dep) (orphans k)

-- the tasks, by number
abbrev pub task_rows : Known → List TaskRow
task_rows k = map (task_row k) (numbers_to k.tasks)

-- a task, where it was opened
abbrev pub task_at : Known → ℕ → Option TaskRow
task_at k task = if nat_le 1 task && nat_le task k.tasks then Some (task_row k task) else None

-- ---- what is there, by number

-- the disks that are there
abbrev pub disks_in : List Entry → List (Option Disk)
disks_in effects = slots (disk_of effects) (disks_created effects)

-- ---- what is told

-- the instances of a deployment
abbrev pub instances_reply : Known → List ℕ → Reply
instances_reply k dep = replies.Instances (map instance_line (rows_of k dep))

-- the orphaned disks
abbrev pub orphans_reply : Known → Reply
orphans_reply k = replies.Orphans (map orphan_line (orphans k))

-- the tasks
abbrev pub tasks_reply : Known → Reply
tasks_reply k = replies.Tasks (map task_line (task_rows k))

-- one task
abbrev pub shown_task_reply : Known → ℕ → Reply
shown_task_reply k task = shown_task task (task_at k task)

-- the releases, as they were uploaded
abbrev pub releases_reply : Known → Reply
releases_reply k = replies.Releases (map release_line k.releases)

-- by name and key, the order in which they are known
abbrev pub compiled_reply : Known → Reply
compiled_reply k = replies.Compiled k.built

-- the machines and disks that are there
abbrev pub cloud_reply : List Entry → Reply
cloud_reply effects = replies.Cloud (cloud_listing (machines_in effects) (disks_in effects))

-- where the records of a deployment and the cloud differ
abbrev pub problems_reply : Known → List Entry → List ℕ → Reply
problems_reply k effects dep =
    replies.Problems (problems dep (rows_of k dep) (orphans_of k dep) (all_there (machines_in effects))
    (all_there (disks_in effects)))

-- .. of a deployment that is recorded
abbrev pub check_reply : Known → List Entry → List ℕ → Reply
check_reply k effects dep = if is_some (k.goal dep) then problems_reply k effects dep else no_deployment dep
