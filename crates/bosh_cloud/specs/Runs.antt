-- Runs of calls on a cloud.
use Rattle.std.specs.Prelude.{ℕ, List, [], ◌∷◌, Option}
use Rattle.bosh_cloud.specs.CloudView.{CloudView}
use Rattle.bosh_cloud.specs.Loading.{IsKept}

-- each call of a run leaves a cloud of which a load finds what was done, where it found one
abbrev pub AllKeep : {L : Type 0} → (L → Option (List (List ℕ))) → CloudView L → List (CloudView L) → Type 0
AllKeep bodies first [] = Unit {0}
AllKeep bodies first (next ∷ run) = (IsKept bodies first → IsKept bodies next) × AllKeep bodies next run

-- the cloud after the run
abbrev pub after_run : {L : Type 0} → CloudView L → List (CloudView L) → CloudView L
after_run first [] = first
after_run first (next ∷ run) = after_run next run
