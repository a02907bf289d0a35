use Rattle.std.proofs.Common.{[], ◌∷◌, arith, refl}
use Rattle.bosh_due.specs.Generating.{said_reply}
use Rattle.bosh_due.specs.Outcomes.Outcome.{Refuses}
use Rattle.bosh_due.specs.Together.Came.{Told}
use Rattle.bosh_due.specs.Together.OpensOrTells.{refused}
use Rattle.bosh_due.specs.Uploads.FromFiles.{unread}
use Rattle.bosh_ports.specs.declared.shelf.ShelfFault.TheVariants.{Failed}
use Rattle.bosh_refusals.specs.Told.{shelf_told}
use Rattle.examples_replies.specs.Shelves.{shelf_failed}
use Rattle.examples_replies.proofs.shelves.failures_are_counted.Goals as goal

pub returns-clause-twice : goal.returns-clause-twice
returns-clause-twice c = record {
  opened = record {
    outcome = Refuses (shelf_told Failed);
    came = Told shelf_failed;
    first = [];
    rest = said_reply 6 shelf_failed ∷ [];
    others_running = [];
    comes = unread Failed (omega arith) refl;
    opened = refused (shelf_told Failed) shelf_failed refl refl refl refl;
    others = record {
      outcome = Refuses (shelf_told Failed);
      came = Told shelf_failed;
      first = [];
      rest = [];
      others_running = [];
      comes = unread Failed (omega arith) refl;
      opened = refused (shelf_told Failed) shelf_failed refl refl refl refl;
      others = (refl, refl, refl);
      is = refl;
      all_running = refl;
    };
    is = refl;
    all_running = refl;
  };
  few_failures = omega arith;
}

pub returns-clause-too_often : goal.returns-clause-too_often
returns-clause-too_often c told = omega (arith, told.few_failures)
