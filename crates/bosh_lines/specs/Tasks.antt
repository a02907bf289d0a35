-- Which commands open a task, and which a halted site refuses (this project's profile).
use Rattle.std.specs.Prelude.{Bool, true, false, not}
use Rattle.bosh_lines.specs.declared.command.Command.{Command}
use Rattle.bosh_lines.specs.declared.command.Command.TheVariants.{File, Deploy, Recreate, Start, Stop, DeleteDeployment, Resolve, DeleteDisk, CleanUp, Together, FailCall, FailStore, StopCall, StopStore, Restart, Generate}

-- it opens a task
abbrev pub opens_task : Command → Bool
opens_task (Deploy deploy) = true
opens_task (Recreate inst) = true
opens_task (Start inst) = true
opens_task (Stop inst hard) = true
opens_task (DeleteDeployment dep) = true
opens_task (Resolve inst) = true
opens_task (DeleteDisk disk) = true
opens_task CleanUp = true
opens_task command = false

-- a halted site carries it out, or each of the commands that it stands for is refused
abbrev pub is_answered_on_a_halted_site : Command → Bool
is_answered_on_a_halted_site (File path) = true
is_answered_on_a_halted_site (FailCall doom) = true
is_answered_on_a_halted_site (FailStore outcome appends) = true
is_answered_on_a_halted_site (StopCall stop) = true
is_answered_on_a_halted_site (StopStore when appends) = true
is_answered_on_a_halted_site (Together count) = true
is_answered_on_a_halted_site Restart = true
is_answered_on_a_halted_site (Generate instances) = true
is_answered_on_a_halted_site command = false

-- a halted site refuses it
abbrev pub is_refused_on_a_halted_site : Command → Bool
is_refused_on_a_halted_site command = not (is_answered_on_a_halted_site command)
