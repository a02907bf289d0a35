use Rattle.std.proofs.Common.{inl, inr, refl, rules}
use Rattle.bosh_history.specs.Fit.{empty, left}
use Rattle.bosh_history.specs.Moments.{nothing}
use Rattle.bosh_history.specs.Permitted.{IsRun}
use Rattle.examples_histories.specs.Scenes.{Builder}
use Rattle.examples_histories.specs.Verdicts.{outside}
use Rattle.examples_moments.specs.Loads.{left_by, run}
use Rattle.examples_moments.proofs.LeftLemmas.{left_so}
use Rattle.examples_moments.proofs.loads.openings_are_reached.Goals as goal

eleven : (built : Builder) → IsRun (outside built) nothing (run 11)
eleven built = search rules

five : (built : Builder) → IsRun (outside built) nothing (run 5)
five built = search rules

pub returns-clause-shortened : goal.returns-clause-shortened
returns-clause-shortened c =
    λ built. record {
      is_run = eleven built;
      stopped = refl;
      entries = inr (inl refl);
      effects = refl;
      has_numbers = refl;
    }

pub returns-clause-after_a_session : goal.returns-clause-after_a_session
returns-clause-after_a_session c = λ built. left nothing (left_by (run 5)) (run 5) empty (left_so (run 5) five refl refl built)
