-- What a session leaves whose stores hold what it made durable, entry by entry.
use Rattle.std.proofs.Common.{◌≡◌, true, List, inl, refl}
use Rattle.bosh_base.specs.declared.moves.Move.{Move}
use Rattle.bosh_history.proofs.StoredLemmas.{stored_itself}
use Rattle.bosh_history.specs.Fit.{ends_stopped, has_numbers}
use Rattle.bosh_history.specs.Learn.{known_of}
use Rattle.bosh_history.specs.Moments.{durable, nothing}
use Rattle.bosh_history.specs.Permitted.{IsRun}
use Rattle.examples_histories.specs.Scenes.{Builder}
use Rattle.examples_histories.specs.Verdicts.{outside}
use Rattle.examples_moments.specs.Loads.{IsLeftBy, left_by}

pub left_so : (session : List Move) → ((built : Builder) → IsRun (outside built) nothing session)
    → ends_stopped session ≡ true → has_numbers (known_of (durable nothing session)) ≡ true
    → IsLeftBy session (left_by session)
left_so session run stopped numbers = λ built. record {
  is_run = run built;
  stopped = stopped;
  entries = inl (stored_itself (durable nothing session));
  effects = refl;
  has_numbers = numbers;
}
