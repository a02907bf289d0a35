use Rattle.bosh_base.proofs.VersionLemmas.{IsReadTo}
use Rattle.bosh_base.proofs.version.read_dotted.Given as goal

abbrev pub invariant-loop-k : goal.invariant-loop-k
invariant-loop-k l = IsReadTo l.fn.text l.rest l.k l.numbers
