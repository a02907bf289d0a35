use Rattle.std.proofs.Common.{refl, rules}
use Rattle.bosh_history.specs.Fit.{empty}
use Rattle.bosh_history.specs.Moments.{nothing}
use Rattle.bosh_history.specs.Permitted.{IsRun}
use Rattle.examples_histories.specs.Scenes.{Builder}
use Rattle.examples_histories.specs.Verdicts.{outside}
use Rattle.examples_moments.specs.Loads.{run}
use Rattle.examples_moments.proofs.LeftLemmas.{left_so}
use Rattle.examples_moments.proofs.loads.openings_fit.Goals as goal

none : (built : Builder) → IsRun (outside built) nothing (run 0)
none built = search rules

three : (built : Builder) → IsRun (outside built) nothing (run 3)
three built = search rules

five : (built : Builder) → IsRun (outside built) nothing (run 5)
five built = search rules

all : (built : Builder) → IsRun (outside built) nothing (run 25)
all built = search rules

pub returns-clause-nothing : goal.returns-clause-nothing
returns-clause-nothing c = λ built. empty

pub returns-clause-after_two_uploads : goal.returns-clause-after_two_uploads
returns-clause-after_two_uploads c = left_so (run 0) none refl refl

pub returns-clause-in_a_deploy : goal.returns-clause-in_a_deploy
returns-clause-in_a_deploy c = left_so (run 5) five refl refl

pub returns-clause-with_an_open_call : goal.returns-clause-with_an_open_call
returns-clause-with_an_open_call c = left_so (run 3) three refl refl

pub returns-clause-after_a_deploy : goal.returns-clause-after_a_deploy
returns-clause-after_a_deploy c = left_so (run 25) all refl refl
