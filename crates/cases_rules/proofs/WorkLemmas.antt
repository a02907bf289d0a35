-- Works that need only works with lower ranks have no cycle.
use Rattle.std.proofs.Common.{◌<◌, List}
use Rattle.std.specs.List.{All}
use Rattle.std.proofs.lemmas.List.Elements.{All-contains}
use Rattle.bosh_base.specs.declared.key.KeyWork.{KeyWork}
use Rattle.bosh_compile.specs.Level.{IsAcyclic}
use Rattle.bosh_compile.proofs.LevelLemmas.{acyclic_by_rank}
use Rattle.cases_rules.specs.Works.{rank_of, NeedsLower}

pub acyclic : (works : List KeyWork) → All NeedsLower works → IsAcyclic works
acyclic works lower = acyclic_by_rank works (λ work. rank_of work.key) (λ work other listed _ needed.
    All-contains (λ key. rank_of key < rank_of work.key) work.deps other.key
    (All-contains NeedsLower works work lower listed) needed)
