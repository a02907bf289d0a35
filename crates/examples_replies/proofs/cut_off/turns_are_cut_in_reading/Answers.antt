use Rattle.std.proofs.Common.{◌≡◌, List, ◌∷◌, [], arith, refl}
use Rattle.bosh_base.specs.declared.moves.Move.{Move}
use Rattle.bosh_base.specs.declared.reply.Reply.TheVariants as replies
use Rattle.bosh_due.specs.Generating.{said_reply}
use Rattle.bosh_due.specs.Turns.MakesTurnUpTo.{in_openings, in_reading, in_run, told, untold}
use Rattle.bosh_due.specs.UnderWay.{UnderWay}
use Rattle.examples_replies.specs.CutOff.{IsCutInReading, clean_up_opened}
use Rattle.examples_replies.proofs.cut_off.turns_are_cut_in_reading.Goals as goal

alone : (segment : List Move) (now : UnderWay) → IsCutInReading segment now → segment ≡ said_reply 4 replies.Nothing ∷ []
alone segment now (told turn) = grind (arith, turn.takes.ends)
alone segment now (untold none makes) = grind (arith, none.none)
alone segment now (in_reading count reading) = reading.is
alone segment now (in_openings count asked takes opens) = grind (arith, asked, takes.ends)
alone segment now (in_run count asked takes runs) = grind (arith, asked, takes.ends)

pub returns-clause-read : goal.returns-clause-read
returns-clause-read c =
    in_reading 2
    (record {
      asked = refl;
      takes = record { few = omega arith; numbered = (refl, tt) };
      goes_on = refl;
      is = refl;
      stays = refl;
    })

pub returns-clause-opened : goal.returns-clause-opened
returns-clause-opened c now cut =
    let is = alone (said_reply 4 replies.Nothing ∷ clean_up_opened ∷ []) now cut
    in grind (arith, is)
