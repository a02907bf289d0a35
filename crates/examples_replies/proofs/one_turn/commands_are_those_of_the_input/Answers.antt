use Rattle.std.proofs.Common.{arith}
use Rattle.examples_replies.proofs.one_turn.commands_are_those_of_the_input.Goals as goal

pub returns-clause-none : goal.returns-clause-none
returns-clause-none c session = grind (arith, session.read)

pub returns-clause-other : goal.returns-clause-other
returns-clause-other c session = grind (arith, session.read)

pub returns-clause-more : goal.returns-clause-more
returns-clause-more c session = grind (arith, session.read)
