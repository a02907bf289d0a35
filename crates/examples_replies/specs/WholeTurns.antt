-- A whole turn: a line takes one other along, whose task opens, is carried out and told.
use Rattle.std.specs.Prelude.{ℕ, false, List, [], ◌∷◌}
use Rattle.bosh_base.specs.declared.entry.Entry.TheVariants as entries
use Rattle.bosh_base.specs.declared.moves.Move.{Move}
use Rattle.bosh_base.specs.declared.moves.Move.TheVariants.{Note}
use Rattle.bosh_base.specs.declared.reply.Reply.{Reply}
use Rattle.bosh_base.specs.declared.reply.Reply.TheVariants as replies
use Rattle.bosh_due.specs.Generating.{said_reply}
use Rattle.bosh_due.specs.Turns.{MakesTurn, TurnRead}
use Rattle.bosh_due.specs.UnderWay.UnderWay.{idle}
use Rattle.bosh_lines.specs.declared.command.Command.TheVariants as commands
use Rattle.examples_histories.specs.Scenes.{prepared}
use Rattle.examples_replies.specs.AtOnce.{asks, clean_up}
use Rattle.examples_replies.specs.Scenes.{no_files, start}

abbrev pub takes_one_along : TurnRead
takes_one_along = record {
  first = asks 4 (commands.Together 1);
  others = asks 5 commands.CleanUp ∷ [];
  is_end = false;
}

-- told this under a number
abbrev pub moves_told : ℕ → Reply → List Move
moves_told number reply =
    said_reply 4 replies.Nothing
    ∷ Note (entries.TaskOpen clean_up)
    ∷ Note (entries.TaskDone 1)
    ∷ said_reply number reply
    ∷ []

abbrev pub IsToldSo : ℕ → Reply → Type 0
IsToldSo number reply = MakesTurn (start prepared 2) no_files takes_one_along (moves_told number reply) idle
