use Rattle.std.proofs.Common.{[], arith, refl}
use Rattle.bosh_due.specs.Turns.MakesTurnUpTo.{told}
use Rattle.examples_replies.specs.Replies.{stopped_reply}
use Rattle.examples_replies.proofs.cut_off.outputs_fail_behind_texts.Goals as goal

pub returns-clause-written : goal.returns-clause-written
returns-clause-written c = record {
  makes = told (
    record { none = refl; goes_on = refl },
    record { more = []; reply = stopped_reply; is = refl; due = record { ends = (refl, refl); is_left = refl } },
  );
  told_last = refl;
}

pub returns-clause-no_lines : goal.returns-clause-no_lines
returns-clause-no_lines c cut = grind (arith, cut.told_last)

pub returns-clause-nothing : goal.returns-clause-nothing
returns-clause-nothing c cut = grind (arith, cut.told_last)
