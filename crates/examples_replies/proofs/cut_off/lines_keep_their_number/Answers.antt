use Rattle.std.proofs.Common.{[], inl, inr, refl}
use Rattle.std.specs.Prelude.{Some, codes}
use Rattle.bosh_due.specs.Ends.Makes.{makes_none}
use Rattle.bosh_due.specs.Outcomes.Outcome.{Refuses}
use Rattle.bosh_refusals.specs.Refused.{bare_refusal}
use Rattle.examples_replies.proofs.Numbers as numbers
use Rattle.examples_replies.specs.Replies.{stopped_reply}
use Rattle.examples_replies.proofs.cut_off.lines_keep_their_number.Goals as goal

pub returns-clause-refused : goal.returns-clause-refused
returns-clause-refused c = record {
  carried_up_to = inr (record {
    outcome = Refuses (Some (bare_refusal (codes "book") (codes "Stopped")));
    more = [];
    reply = stopped_reply;
    rest = [];
    comes = refl;
    ends = (refl, refl);
    others = inl (makes_none refl refl);
    is = refl;
  });
}

pub returns-clause-other_number : goal.returns-clause-other_number
returns-clause-other_number c now told = numbers.other_number now told.carried_up_to
