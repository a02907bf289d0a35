-- Two lines that are taken together: one opens a task, and one is none that does.
use Rattle.std.specs.Prelude.{ℕ, List, [], ◌∷◌, codes, Option, Some, None, Ok}
use Rattle.bosh_base.specs.declared.entry.Entry.TheVariants as entries
use Rattle.bosh_base.specs.declared.entry.TaskOpen.{TaskOpen}
use Rattle.bosh_base.specs.declared.moves.Move.{Move}
use Rattle.bosh_base.specs.declared.moves.Move.TheVariants.{Note}
use Rattle.bosh_base.specs.declared.reply.Refusal.{Refusal}
use Rattle.bosh_base.specs.declared.reply.Reply.{Reply}
use Rattle.bosh_base.specs.declared.task.TaskKind.TheVariants.{CleanUp}
use Rattle.bosh_due.specs.Generating.{said_reply}
use Rattle.bosh_due.specs.Together.{AreOpened, Numbered, Running}
use Rattle.bosh_due.specs.UnderWay.UnderWay.{idle}
use Rattle.bosh_lines.specs.declared.command.Command.{Command}
use Rattle.bosh_lines.specs.declared.command.Command.TheVariants as commands
use Rattle.bosh_refusals.specs.Refused.{bare_refusal}
use Rattle.examples_histories.specs.Scenes.{prepared}
use Rattle.examples_replies.specs.Replies.{bare}
use Rattle.examples_replies.specs.Scenes.{no_files, start}

abbrev pub asks : ℕ → Command → Numbered
asks number command = record { number = number; request = record { asked = Ok command; block = [] } }

abbrev pub both : List Numbered
both = asks 5 commands.CleanUp ∷ asks 6 commands.Tasks ∷ []

abbrev pub clean_up : TaskOpen
clean_up = record {
  task = 1;
  kind = CleanUp;
  dep = None;
  goal = None;
  changed = [];
  obsolete = [];
  disks = [];
  source = None;
}

abbrev pub refusal : Option Refusal
refusal = Some (bare_refusal (codes "lines") (codes "BadTogether"))

abbrev pub no_task : Reply
no_task = bare (codes "lines") (codes "BadTogether")

-- the first opens its task, and the second is refused at once
abbrev pub openings : List Move
openings = Note (entries.TaskOpen clean_up) ∷ said_reply 6 no_task ∷ []

abbrev pub AreOpenedSo : List Move → List Running → Type 0
AreOpenedSo segment running = AreOpened no_files (start prepared 2) both segment running idle
