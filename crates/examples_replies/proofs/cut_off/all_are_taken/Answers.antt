use Rattle.std.proofs.Common.{arith, refl}
use Rattle.examples_replies.proofs.cut_off.all_are_taken.Goals as goal

pub returns-clause-at_the_end : goal.returns-clause-at_the_end
returns-clause-at_the_end c = record {
  some = record { few = omega arith; numbered = (refl, tt) };
  ends = refl;
}

pub returns-clause-all : goal.returns-clause-all
returns-clause-all c = record { some = record { few = omega arith; numbered = (refl, tt) }; ends = refl }

pub returns-clause-too_few : goal.returns-clause-too_few
returns-clause-too_few c taken = grind (arith, taken.ends)

pub returns-clause-not_ended : goal.returns-clause-not_ended
returns-clause-not_ended c taken = grind (arith, taken.ends)

pub returns-clause-too_many : goal.returns-clause-too_many
returns-clause-too_many c taken = omega (arith, taken.some.few)
