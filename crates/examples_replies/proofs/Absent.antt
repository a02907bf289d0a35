-- That a file or a folder is not there is due.
use Rattle.std.proofs.Common.{refl}
use Rattle.std.specs.Prelude.{codes, Some, [], Result, Err}
use Rattle.bosh_due.specs.Before.{Before}
use Rattle.bosh_due.specs.Ends.{Meets}
use Rattle.bosh_due.specs.Outcomes.{Outcome}
use Rattle.bosh_due.specs.Outcomes.Outcome.{Refuses}
use Rattle.bosh_due.specs.Uploads.{FromFiles}
use Rattle.bosh_due.specs.Uploads.FromFiles.{unread}
use Rattle.bosh_ports.specs.declared.shelf.ShelfFault.{ShelfFault}
use Rattle.bosh_ports.specs.declared.shelf.ShelfFault.TheVariants.{Absent}
use Rattle.bosh_refusals.specs.Refused.{bare_refusal}
use Rattle.examples_replies.specs.Replies.{bare}

pub absent : {A : Type 0} (Reads : Result A ShelfFault → Type 0) (Next : A → Outcome → Type 0) (b : Before) →
    Reads (Err Absent) → Meets (FromFiles Reads Next) b [] (bare (codes "shelf") (codes "Absent")) b.under_way
absent Reads Next b is = record {
  outcome = Refuses (Some (bare_refusal (codes "shelf") (codes "Absent")));
  comes = unread Absent is refl;
  ends = record { ends = (refl, refl); is_left = refl };
}
