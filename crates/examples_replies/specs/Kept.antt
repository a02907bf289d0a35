-- Files that blocks kept, and what is told where there are none.
use Rattle.std.specs.Prelude.{ℕ, true, List, [], codes}
use Rattle.bosh_answers.specs.declared.files.KeptFile.{KeptFile}
use Rattle.bosh_due.specs.Before.{Before}
use Rattle.bosh_due.specs.Due.{DueBy}
use Rattle.bosh_due.specs.UnderWay.UnderWay.{idle}
use Rattle.bosh_lines.specs.declared.command.Command.{Command}
use Rattle.examples_histories.specs.Scenes.{prepared}
use Rattle.examples_replies.specs.Replies.{bare}
use Rattle.examples_replies.specs.Scenes.{no_files, start}

abbrev pub file : List ℕ → List ℕ → KeptFile
file path text = record { path = path; text = text }

abbrev pub going_on : Before
going_on = start prepared 2

abbrev pub at_a_halt : Before
at_a_halt = start (record prepared { halted = true }) 2

-- that nothing is there is told of a director that goes on, and of one that has halted
pub record LooksForFirst (command : Command) : Type 0 where
  pub running : DueBy going_on no_files command [] (bare (codes "shelf") (codes "Absent")) idle
  pub halted : DueBy at_a_halt no_files command [] (bare (codes "shelf") (codes "Absent")) idle
