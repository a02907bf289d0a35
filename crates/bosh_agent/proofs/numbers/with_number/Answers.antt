use Rattle.std.proofs.Common.{arith, append_assoc}
use Rattle.bosh_agent.proofs.numbers.with_number.Goals as goal

pub returns : goal.returns
returns c = grind (arith, append_assoc)
