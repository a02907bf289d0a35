use Rattle.std.proofs.Common.{[], arith, inl, refl}
use Rattle.bosh_due.specs.UnderWay.UnderWay.{appending}
use Rattle.examples_replies.proofs.HaltsFirst.{halts_first}
use Rattle.examples_replies.specs.Caused.{none_wait}
use Rattle.examples_replies.specs.TwoTurns.{stemcell, store_fault}
use Rattle.examples_replies.proofs.two_turns.unread_restarts_have_causes.Goals as goal

pub returns-clause-failed : goal.returns-clause-failed
returns-clause-failed c = record {
  read = refl;
  are = refl;
  makes = halts_first _ (record {
    left = appending stemcell;
    waits = none_wait;
    goes_on = record { is_open = refl; has_number = refl; has_kept = refl; has_shelf = refl };
    makes = (
      record { none = refl; goes_on = refl },
      record {
        more = [];
        reply = store_fault;
        is = refl;
        due = record { ends = inl refl; is_left = refl };
      },
    );
    causes = record { unread = (λ told. omega arith, λ told. grind (arith, told)); caused = refl };
    others = tt;
  });
  failed = record { shelf = omega arith; director = omega arith; cloud = omega arith };
}

pub returns-clause-not_failed : goal.returns-clause-not_failed
returns-clause-not_failed c session = omega (arith, session.makes.others.causes.unread.0 refl)

pub returns-clause-not_counted : goal.returns-clause-not_counted
returns-clause-not_counted c session = grind (arith, session.failed.director)
