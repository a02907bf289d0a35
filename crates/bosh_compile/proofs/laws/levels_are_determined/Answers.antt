use Rattle.bosh_compile.specs.Rounds.{last_level}
use Rattle.bosh_compile.proofs.LevelLemmas.{last_levels_are_levels, levels_agree}
use Rattle.bosh_compile.proofs.laws.levels_are_determined.Goals as goal

pub returns-clause-exist : goal.returns-clause-exist
returns-clause-exist c = λ works acyclic. (last_level works, last_levels_are_levels works acyclic)

pub returns-clause-agree : goal.returns-clause-agree
returns-clause-agree c = levels_agree
