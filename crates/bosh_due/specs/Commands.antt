-- What comes of each command that is carried out alone, where what is known settles it (this project's profile;
-- bosh.io, "CLI v2"). The commands that read files have their own rules, and so have those that take others along or
-- stand for others.
use Rattle.std.specs.Prelude.{Bool, true, false, None, Result, Ok, Err, if◌then◌else◌}
use Rattle.bosh_asks.specs.Asked.{halting}
use Rattle.bosh_asks.specs.declared.ask.Ask.TheVariants as asks
use Rattle.bosh_base.specs.declared.reply.Reply.TheVariants as replies
use Rattle.bosh_base.specs.declared.state.State.TheVariants.{Running}
use Rattle.bosh_due.specs.Before.{Before}
use Rattle.bosh_due.specs.Jobs.{lose_outcome, read_outcome, show_outcome, write_outcome}
use Rattle.bosh_due.specs.Listed.{check_reply, cloud_reply, compiled_reply, instances_reply, orphans_reply, releases_reply}
use Rattle.bosh_due.specs.Listed.{shown_task_reply, tasks_reply}
use Rattle.bosh_due.specs.Openings.{planned_outcome}
use Rattle.bosh_due.specs.Outcomes.{Outcome, unless_halted}
use Rattle.bosh_due.specs.Outcomes.Outcome.{Answers, Refuses, Restarts}
use Rattle.bosh_due.specs.Plans.{alteration_plan, clean_up_plan, deletion_plan, disk_deletion_plan}
use Rattle.bosh_due.specs.Uploads.{stemcell_outcome}
use Rattle.bosh_goal.specs.declared.change.Change.TheVariants as changes
use Rattle.bosh_history.specs.Known.{Known}
use Rattle.bosh_line_words.specs.declared.fault.LineFault.{LineFault}
use Rattle.bosh_lines.specs.Tasks.{is_refused_on_a_halted_site}
use Rattle.bosh_lines.specs.declared.command.Command.{Command}
use Rattle.bosh_lines.specs.declared.command.Command.TheVariants as commands

-- ---- alone

-- it takes no others along, and stands for none
abbrev pub stands_alone : Command → Bool
stands_alone (commands.Together count) = false
stands_alone (commands.Generate instances) = false
stands_alone command = true

-- .. or is no command
abbrev pub asks_alone : Result Command LineFault → Bool
asks_alone (Ok command) = stands_alone command
asks_alone (Err fault) = true

-- ---- what comes of it

-- on a director that goes on
abbrev pub unhalted_outcome : Before → Known → Command → Outcome
unhalted_outcome b k (commands.UploadStemcell stemcell) = stemcell_outcome b stemcell
unhalted_outcome b k (commands.Instances dep) = Answers (instances_reply k dep)
unhalted_outcome b k (commands.Recreate inst) = planned_outcome b (asks.Recreate inst) (alteration_plan k inst changes.Fresh)
unhalted_outcome b k (commands.Start inst) = planned_outcome b (asks.Start inst) (alteration_plan k inst (changes.To Running))
unhalted_outcome b k (commands.Stop inst hard) = planned_outcome b (asks.Halt inst hard) (alteration_plan k inst (halting hard))
unhalted_outcome b k (commands.DeleteDeployment dep) = planned_outcome b (asks.DeleteDeployment dep) (deletion_plan k dep)
unhalted_outcome b k (commands.CloudCheck dep) = Answers (check_reply k b.moment.effects dep)
unhalted_outcome b k (commands.Resolve inst) = planned_outcome b (asks.Resolve inst) (alteration_plan k inst changes.Same)
unhalted_outcome b k commands.OrphanedDisks = Answers (orphans_reply k)
unhalted_outcome b k (commands.DeleteDisk disk) = planned_outcome b (asks.DeleteDisk disk) (disk_deletion_plan k disk)
unhalted_outcome b k commands.CleanUp = planned_outcome b asks.CleanUp (clean_up_plan k)
unhalted_outcome b k commands.Tasks = Answers (tasks_reply k)
unhalted_outcome b k (commands.Task task) = Answers (shown_task_reply k task)
unhalted_outcome b k commands.Releases = Answers (releases_reply k)
unhalted_outcome b k commands.Compiled = Answers (compiled_reply k)
unhalted_outcome b k commands.Restart = Restarts
unhalted_outcome b k (commands.Write inst text) = write_outcome b inst text
unhalted_outcome b k (commands.Read inst) = read_outcome b inst
unhalted_outcome b k (commands.Show inst path) = show_outcome b inst path
unhalted_outcome b k (commands.Lose inst how) = lose_outcome b inst how
unhalted_outcome b k commands.Cloud = Answers (cloud_reply b.moment.effects)
-- a block that is kept, and what is to fail or to stop, print nothing
unhalted_outcome b k (commands.File path) = Answers replies.Nothing
unhalted_outcome b k (commands.FailCall doom) = Answers replies.Nothing
unhalted_outcome b k (commands.FailStore how appends) = Answers replies.Nothing
unhalted_outcome b k (commands.StopCall stop) = Answers replies.Nothing
unhalted_outcome b k (commands.StopStore when appends) = Answers replies.Nothing
-- what files say, and commands that take others along or stand for others, are not settled here
unhalted_outcome b k command = Refuses None

-- a director that has halted refuses most commands before it looks at anything else
abbrev pub outcome_of : Before → Command → Outcome
outcome_of b command =
    if is_refused_on_a_halted_site command then unless_halted b (unhalted_outcome b b.moment.known command)
    else unhalted_outcome b b.moment.known command
