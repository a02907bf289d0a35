use Rattle.std.proofs.Common.{refl}
use Rattle.std.specs.Prelude.{[], ◌∷◌}
use Rattle.bosh_base.specs.declared.entry.Entry.TheVariants as entries
use Rattle.bosh_base.specs.declared.moves.Move.TheVariants.{Note}
use Rattle.bosh_due.specs.Generating.{said_reply}
use Rattle.bosh_due.specs.Outcomes.Outcome.{Opens, Refuses}
use Rattle.bosh_due.specs.Together.Came.{Runs, Told}
use Rattle.bosh_due.specs.Together.OpensOrTells.{opened, refused}
use Rattle.examples_replies.specs.AtOnce.{clean_up, no_task, refusal}
use Rattle.examples_replies.proofs.together.tasks_open_in_order.Goals as goal

pub returns : goal.returns
returns c = record {
  outcome = Opens clean_up;
  came = Runs 1;
  first = Note (entries.TaskOpen clean_up) ∷ [];
  rest = said_reply 6 no_task ∷ [];
  others_running = [];
  comes = record { is = refl };
  opened = opened clean_up refl refl refl;
  others = record {
    outcome = Refuses refusal;
    came = Told no_task;
    first = [];
    rest = [];
    others_running = [];
    comes = record { is = refl };
    opened = refused refusal no_task refl refl refl refl;
    others = (refl, refl, refl);
    is = refl;
    all_running = refl;
  };
  is = refl;
  all_running = refl;
}
