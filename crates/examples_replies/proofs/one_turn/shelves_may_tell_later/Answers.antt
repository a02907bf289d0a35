use Rattle.std.proofs.Common.{[], arith, refl}
use Rattle.bosh_base.specs.declared.reply.Reply.TheVariants as replies
use Rattle.bosh_due.specs.UnderWay.UnderWay.{idle}
use Rattle.examples_replies.specs.Caused.{none_wait}
use Rattle.examples_replies.proofs.one_turn.shelves_may_tell_later.Goals as goal

pub returns-clause-later : goal.returns-clause-later
returns-clause-later c = record {
  read = refl;
  are = refl;
  makes = record {
    left = idle;
    waits = none_wait;
    goes_on = record { is_open = refl; has_number = refl; has_kept = refl; has_shelf = tt };
    makes = (
      record { none = refl; goes_on = refl },
      record {
        more = [];
        reply = replies.Tasks [];
        is = refl;
        due = record { ends = (refl, refl); is_left = refl };
      },
    );
    causes = record { unread = tt; caused = refl };
    others = tt;
  };
  failed = record { shelf = omega arith; director = omega arith; cloud = omega arith };
}

pub returns-clause-others : goal.returns-clause-others
returns-clause-others c session = grind (arith, session.makes.goes_on.has_shelf)
