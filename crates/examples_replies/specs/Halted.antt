-- A director that has halted, and what stays under way there.
use Rattle.std.specs.Prelude.{[]}
use Rattle.bosh_due.specs.Before.{Before}
use Rattle.bosh_due.specs.Due.{DueBy}
use Rattle.bosh_due.specs.UnderWay.{UnderWay}
use Rattle.bosh_due.specs.UnderWay.UnderWay.{appending}
use Rattle.bosh_lines.specs.declared.command.Command.TheVariants as commands
use Rattle.examples_histories.specs.Scenes.{config}
use Rattle.examples_replies.specs.Kept.{at_a_halt}
use Rattle.examples_replies.specs.Replies.{stopped_reply}
use Rattle.examples_replies.specs.Scenes.{no_files}

-- a config was noted as it halted
abbrev pub noting_config : Before
noting_config = record at_a_halt { under_way = appending config }

-- the tasks are asked for, and this stays under way
abbrev pub Stays : UnderWay → Type 0
Stays now = DueBy noting_config no_files commands.Tasks [] stopped_reply now
