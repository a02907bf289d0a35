use Rattle.laws_runs.proofs.RunLemmas.{compiles_run}
use Rattle.laws_runs.proofs.safe.no_package_is_compiled_twice.Goals as goal

pub returns : goal.returns
returns c = compiles_run
