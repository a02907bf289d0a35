use Rattle.std.proofs.Common.{arith, refl}
use Rattle.examples_replies.proofs.served.replies_are_noted.Goals as goal

pub returns-clause-noted : goal.returns-clause-noted
returns-clause-noted c = record { said = refl; unsaid = tt; stays = refl; may_find = λ idle. idle }

pub returns-clause-other_number : goal.returns-clause-other_number
returns-clause-other_number c noted = grind (arith, noted.said)

pub returns-clause-under_way : goal.returns-clause-under_way
returns-clause-under_way c noted = grind (arith, noted.stays)
