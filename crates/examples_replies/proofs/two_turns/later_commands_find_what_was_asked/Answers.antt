use Rattle.std.proofs.Common.{[], ◌∷◌, arith, refl}
use Rattle.std.specs.Prelude.{None, Some}
use Rattle.bosh_base.specs.declared.reply.Reply.TheVariants as replies
use Rattle.bosh_due.specs.UnderWay.UnderWay.{idle}
use Rattle.examples_histories.specs.Scenes.{stop}
use Rattle.examples_replies.proofs.HaltsFirst.{halts_first}
use Rattle.examples_replies.proofs.Later.{not_found}
use Rattle.examples_replies.specs.Caused.{none_wait}
use Rattle.examples_replies.specs.TwoTurns.{stemcell}
use Rattle.examples_replies.proofs.two_turns.later_commands_find_what_was_asked.Goals as goal

pub returns-clause-asked : goal.returns-clause-asked
returns-clause-asked c = record {
  read = refl;
  are = refl;
  makes = halts_first _ (record {
    left = idle;
    waits = none_wait;
    goes_on = record { is_open = refl; has_number = refl; has_kept = refl; has_shelf = refl };
    makes = (
      record { none = refl; goes_on = refl },
      record {
        more = stop (Some stemcell) [] None ∷ [];
        reply = replies.Restarted;
        is = refl;
        due = record {
          ends = (record { asked = record { kept = refl; took = refl; wrote = tt; one_store = refl }; by_room = refl }, refl);
          is_left = refl;
        };
      },
    );
    causes = record { unread = tt; caused = (tt, refl) };
    others = tt;
  });
  failed = record { shelf = omega arith; director = omega arith; cloud = omega arith };
}

pub returns-clause-unasked : goal.returns-clause-unasked
returns-clause-unasked c = not_found
