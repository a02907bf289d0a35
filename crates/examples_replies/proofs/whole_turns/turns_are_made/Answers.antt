use Rattle.std.proofs.Common.{[], ◌∷◌, arith, refl}
use Rattle.bosh_base.specs.declared.entry.Entry.TheVariants as entries
use Rattle.bosh_base.specs.declared.moves.Move.TheVariants.{Note}
use Rattle.bosh_due.specs.Outcomes.Outcome.{Opens}
use Rattle.bosh_due.specs.Together.Came.{Runs}
use Rattle.bosh_due.specs.Together.OpensOrTells.{opened}
use Rattle.bosh_due.specs.UnderWay.UnderWay.{idle}
use Rattle.examples_replies.specs.AtOnce.{clean_up}
use Rattle.examples_replies.specs.Others.{runs}
use Rattle.examples_replies.proofs.whole_turns.turns_are_made.Goals as goal

pub returns : goal.returns
returns c = record {
  takes = record { some = record { few = omega arith; numbered = (refl, tt) }; ends = refl };
  together = record {
    openings = Note (entries.TaskOpen clean_up) ∷ [];
    running = runs 5 1 ∷ [];
    opened_under_way = idle;
    run = Note (entries.TaskDone 1) ∷ [];
    opens = record {
      opened = record {
        outcome = Opens clean_up;
        came = Runs 1;
        first = Note (entries.TaskOpen clean_up) ∷ [];
        rest = [];
        others_running = [];
        comes = record { is = refl };
        opened = opened clean_up refl refl refl;
        others = (refl, refl, refl);
        is = refl;
        all_running = refl;
      };
      few_failures = omega arith;
    };
    is_its_run = refl;
    by_room = refl;
    leaves = refl;
    may_end = refl;
    ends_last = refl;
    settled = refl;
    is = refl;
  };
}
