-- A director that notes the last entries for which it has room.
use Rattle.std.specs.Prelude.{ℕ, true, List, [], ◌∷◌, None, Some}
use Rattle.bosh_base.specs.declared.entry.Entry.{Entry}
use Rattle.bosh_base.specs.declared.moves.Cause.TheVariants.{Store}
use Rattle.bosh_base.specs.declared.moves.Move.{Move}
use Rattle.bosh_base.specs.declared.reply.Reply.{Reply}
use Rattle.bosh_due.specs.Before.{Before}
use Rattle.bosh_due.specs.Due.{DueBy}
use Rattle.bosh_due.specs.Restarting.{FindsDue}
use Rattle.bosh_due.specs.UnderWay.{UnderWay}
use Rattle.bosh_due.specs.UnderWay.UnderWay.{working}
use Rattle.bosh_lines.specs.declared.command.Command.TheVariants as commands
use Rattle.examples_histories.specs.Scenes.{prepared}
use Rattle.examples_replies.specs.InCalls.{begun}
use Rattle.examples_replies.specs.Others.{found}
use Rattle.examples_replies.specs.Scenes.{no_files, start}

-- the clean-up of a director that noted so many entries since it started makes these moves, and is told this
abbrev pub CleansUpAfter : ℕ → List Move → Reply → UnderWay → Type 0
CleansUpAfter noted more reply now = DueBy (start prepared noted) no_files commands.CleanUp more reply now

abbrev pub NeverCleansUpAfter : ℕ → List Move → Reply → Type 0
NeverCleansUpAfter noted more reply =
    (now : UnderWay) → DueBy (start prepared noted) no_files commands.CleanUp more reply now → ⊥

-- it has halted for its store, in the run of a task, whose first call is open
abbrev pub halted_after : ℕ → Before
halted_after noted = record (start (record begun { halted = true }) noted) {
  last_halt = Some Store;
  under_way = working (1 ∷ []);
}

-- .. and a restart finds this entry
abbrev pub FindsAfter : ℕ → Entry → Type 0
FindsAfter noted kept = FindsDue (halted_after noted) (found (Some kept) [] None)
