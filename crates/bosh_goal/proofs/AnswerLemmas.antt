-- Steps that end with a fault.
use Rattle.std.proofs.Common.{◌≡◌, Result, Ok, Err, ap}
use Rattle.bosh_manifest_names.specs.Answer.{◌>>=◌}
use Rattle.bosh_manifest_names.specs.declared.fault.GoalFault.{GoalFault}

-- the next step, where the first answers
pub then-ok : {A B : Type 0} (step : Result A GoalFault) (a : A) (next : A → Result B GoalFault) → step ≡ Ok a → (step >>= next) ≡ next a
then-ok step a next is = ap (λ s. s >>= next) is

-- the fault of the first
pub then-fault : {A B : Type 0} (step : Result A GoalFault) (fault : GoalFault) (next : A → Result B GoalFault) → step ≡ Err fault → (step >>= next) ≡ Err fault
then-fault step fault next is = ap (λ s. s >>= next) is
