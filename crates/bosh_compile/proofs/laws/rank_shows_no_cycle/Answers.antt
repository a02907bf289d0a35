use Rattle.bosh_compile.proofs.LevelLemmas.{acyclic_by_rank}
use Rattle.bosh_compile.proofs.laws.rank_shows_no_cycle.Goals as goal

pub returns : goal.returns
returns c = acyclic_by_rank
