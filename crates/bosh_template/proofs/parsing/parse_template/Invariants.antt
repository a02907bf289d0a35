use Rattle.std.proofs.Common.{length}
use Rattle.bosh_template.proofs.PartLemmas.{IsReadTo}
use Rattle.bosh_template.proofs.parsing.parse_template.Given as goal

abbrev pub invariant-loop-rest : goal.invariant-loop-rest
invariant-loop-rest l = IsReadTo l.fn.text l.rest l.parts.items

abbrev pub decreases-loop-rest : goal.decreases-loop-rest
decreases-loop-rest l = length l.rest
