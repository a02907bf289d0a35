use Rattle.std.proofs.Common.{arith}
use Rattle.bosh_input.proofs.reader.Reader.new.Goals as goal

pub invariant_of-result : goal.invariant_of-result
invariant_of-result c = (record { within = omega arith; few_bytes = omega arith; few_commands = omega arith; one_end = λ is. cc }, omega (arith, c.in_ok-vec.field-0.ok, c.in_ok-vec.ensures.len))
