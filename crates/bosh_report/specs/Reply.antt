-- The text of each reply (this project's profile).
use Rattle.std.specs.Prelude.{ℕ, List, [], ◌++◌, codes, decimal, nat_eq, if◌then◌else◌}
use Rattle.std.specs.List.{ends_with, flat_map}
use Rattle.bosh_base.specs.declared.reply.Generated as generated
use Rattle.bosh_base.specs.declared.reply.Reply.{Reply}
use Rattle.bosh_base.specs.declared.reply.Reply.TheVariants.{ReleaseAdded, ReleaseThere, StemcellAdded, StemcellThere, ConfigUpdated, TaskFinished, TaskFailed, TaskGone, Instances, Orphans, Tasks, Task, Releases, Compiled, Cloud, Contents, Written, Restarted, Lost, Nothing, Generated, Problems, Refused}
use Rattle.bosh_report.specs.Cloud.{cloud_lines}
use Rattle.bosh_report.specs.Disk.{orphan_line}
use Rattle.bosh_report.specs.Instance.{instance_line}
use Rattle.bosh_report.specs.Problem.{problems_text}
use Rattle.bosh_report.specs.Refusal.{refusal_line}
use Rattle.bosh_report.specs.Release.{compiled_line, release_added, release_lines, release_there, stemcell_added, stemcell_there}
use Rattle.bosh_report.specs.Task.{task_detail, task_error, task_finished, task_line}

-- the text, with a line feed added where it does not end with one
abbrev pub contents_text : List ℕ → List ℕ
contents_text text = if ends_with nat_eq text (codes "\n") then text else text ++ codes "\n"

-- `generated N instances in G groups with C calls`
abbrev pub generated_line : generated.Generated → List ℕ
generated_line made =
    codes "generated " ++ decimal made.instances ++ codes " instances in " ++ decimal made.groups
    ++ codes " groups with " ++ decimal made.calls ++ codes " calls\n"

-- what is printed of a reply
abbrev pub text_of : Reply → List ℕ
text_of (ReleaseAdded release) = release_added release
text_of (ReleaseThere release) = release_there release
text_of (StemcellAdded stemcell) = stemcell_added stemcell
text_of (StemcellThere stemcell) = stemcell_there stemcell
text_of ConfigUpdated = codes "cloud config updated\n"
text_of (TaskFinished task) = task_finished task
text_of (TaskFailed call) = task_error call (codes " failed")
text_of (TaskGone call) = task_error call (codes " gone")
text_of (Instances lines) = flat_map instance_line lines
text_of (Orphans lines) = flat_map orphan_line lines
text_of (Tasks lines) = flat_map task_line lines
text_of (Task task) = task_detail task
text_of (Releases lines) = flat_map release_lines lines
text_of (Compiled keys) = flat_map compiled_line keys
text_of (Cloud listing) = cloud_lines listing
text_of (Contents text) = contents_text text
text_of Written = codes "written\n"
text_of Restarted = codes "restarted\n"
text_of Lost = codes "lost\n"
text_of Nothing = []
text_of (Generated made) = generated_line made
text_of (Problems problems) = problems_text problems
text_of (Refused refusal) = refusal_line refusal
