use Rattle.std.proofs.Common.{[], arith, refl}
use Rattle.bosh_due.specs.Causes.{IsInCall}
use Rattle.bosh_base.specs.declared.entry.Begin.{Begin}
use Rattle.std.specs.Prelude.{ℕ}
use Rattle.bosh_due.specs.Turns.MakesTurnUpTo.{untold}
use Rattle.bosh_due.specs.UnderWay.UnderWay.{idle}
use Rattle.bosh_history.specs.Moments.{later, moment, nothing}
use Rattle.examples_replies.proofs.InCalls.{no_call}
use Rattle.examples_replies.proofs.Lines.{neither_asks, none_asks}
use Rattle.examples_replies.specs.Caused.{none_wait}
use Rattle.examples_replies.specs.CutOff.{clean_up_opened}
use Rattle.examples_replies.proofs.caused.want_of_memory_stops.Goals as goal

pub returns-clause-opened : goal.returns-clause-opened
returns-clause-opened c = record {
  read = refl;
  are = refl;
  makes = record {
    left = idle;
    waits = none_wait;
    goes_on = record { is_open = refl; has_number = refl; has_kept = refl; has_shelf = refl };
    cut_by = untold (record { none = refl; goes_on = refl })
        (record {
          may_make = record {
            is_due = refl;
            is_its_work = refl;
            by_room = refl;
            ends_last = refl;
            settled = refl;
          };
          is_left = refl;
        });
    causes = record { unread = tt; caused = (refl, refl) };
  };
  failed = record { shelf = omega arith; director = omega arith; cloud = omega arith };
}

none_open : {Is : ℕ → Begin → Type 0} → IsInCall Is (later (moment nothing []) clean_up_opened) → ⊥
none_open it = grind (arith, it.is_open)

pub returns-clause-not_stopped : goal.returns-clause-not_stopped
returns-clause-not_stopped c session = neither_asks none_asks none_open session.makes.causes.caused.1

pub returns-clause-not_failed : goal.returns-clause-not_failed
returns-clause-not_failed c session =
    neither_asks (λ failed. omega (arith, failed.0)) none_asks session.makes.causes.caused.1

pub returns-clause-not_at_the_end : goal.returns-clause-not_at_the_end
returns-clause-not_at_the_end c session = session.makes.cut_by

pub returns-clause-not_by_the_output : goal.returns-clause-not_by_the_output
returns-clause-not_by_the_output c session = grind (arith, session.makes.cut_by.told_last)

pub returns-clause-not_by_the_input : goal.returns-clause-not_by_the_input
returns-clause-not_by_the_input c session = grind (arith, session.makes.cut_by.reading.asked)

pub returns-clause-in_call : goal.returns-clause-in_call
returns-clause-in_call c = record { unread = tt; caused = refl }

pub returns-clause-no_call : goal.returns-clause-no_call
returns-clause-no_call c given_up = neither_asks none_asks no_call given_up.caused

pub returns-clause-in_restart : goal.returns-clause-in_restart
returns-clause-in_restart c = record { unread = tt; caused = (tt, refl) }

pub returns-clause-other_cause : goal.returns-clause-other_cause
returns-clause-other_cause c given_up = omega (arith, given_up.caused.0)
