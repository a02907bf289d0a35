-- Steps that may end with a fault, one after another, and what a call answers where memory may run out.
use Rattle.std.specs.Prelude.{◌≡◌, ◌⊎◌, Bool, true, List, [], ◌∷◌, Option, Some, None, Result, Ok, Err}
use Rattle.bosh_release_files.specs.declared.fault.ReleaseFault.{ReleaseFault}
use Rattle.bosh_release_files.specs.declared.fault.ReleaseFault.TheVariants.{Memory}

-- the next step, where there is no fault so far
infixl 10 ◌>>=◌
abbrev pub ◌>>=◌ : {A B : Type 0} → Result A ReleaseFault → (A → Result B ReleaseFault) → Result B ReleaseFault
(Ok a) >>= f = f a
(Err fault) >>= f = Err fault

-- the step for each of several, in their order, or the fault of the first that has one
abbrev pub each : {A B : Type 0} → (A → Result B ReleaseFault) → List A → Result (List B) ReleaseFault
each step [] = Ok []
each step (a ∷ more) = do
  first ← step a
  others ← each step more
  Ok (first ∷ others)

-- a test for each of several, in their order, up to the first fault
abbrev pub check_each : {A : Type 0} → (A → Result Bool ReleaseFault) → List A → Result Bool ReleaseFault
check_each test [] = Ok true
check_each test (a ∷ more) = do
  passed ← test a
  check_each test more

-- the value, or a fault where there is none
abbrev pub or_fault : {A : Type 0} → ReleaseFault → Option A → Result A ReleaseFault
or_fault fault (Some a) = Ok a
or_fault fault None = Err fault

-- a call's answer is the one that the rules give, or want of memory
abbrev pub IsAnswer : {A : Type 0} → Result A ReleaseFault → Result A ReleaseFault → Type 0
IsAnswer (Ok value) answer = answer ≡ Ok value
IsAnswer (Err fault) answer = (fault ≡ Memory) ⊎ (answer ≡ Err fault)

-- the same of a value that is seen by a view
abbrev pub IsAnswerSeen : {A B : Type 0} → (A → B) → Result A ReleaseFault → Result B ReleaseFault → Type 0
IsAnswerSeen view (Ok value) answer = answer ≡ Ok (view value)
IsAnswerSeen view (Err fault) answer = (fault ≡ Memory) ⊎ (answer ≡ Err fault)
