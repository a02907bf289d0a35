-- Steps that may end with a fault, one after another, and what a call answers where memory may run out.
use Rattle.std.specs.Prelude.{◌≡◌, ◌⊎◌, List, [], ◌∷◌, Option, Some, None, Result, Ok, Err}
use Rattle.bosh_manifest_names.specs.declared.fault.GoalFault.{GoalFault}
use Rattle.bosh_manifest_names.specs.declared.fault.GoalFault.TheVariants.{Memory}

-- the next step, where there is no fault so far
infixl 10 ◌>>=◌
abbrev pub ◌>>=◌ : {A B : Type 0} → Result A GoalFault → (A → Result B GoalFault) → Result B GoalFault
(Ok a) >>= f = f a
(Err fault) >>= f = Err fault

-- the step for each of several, in their order, or the fault of the first that has one
abbrev pub each : {A B : Type 0} → (A → Result B GoalFault) → List A → Result (List B) GoalFault
each step [] = Ok []
each step (a ∷ more) = do
  first ← step a
  others ← each step more
  Ok (first ∷ others)

-- the value, or a fault where there is none
abbrev pub or_fault : {A : Type 0} → GoalFault → Option A → Result A GoalFault
or_fault fault (Some a) = Ok a
or_fault fault None = Err fault

-- a fault of another layer is one of the goal
abbrev pub with_fault : {A F : Type 0} → (F → GoalFault) → Result A F → Result A GoalFault
with_fault of (Ok a) = Ok a
with_fault of (Err fault) = Err (of fault)

-- a call's answer is the one that the rules give, or want of memory
abbrev pub IsAnswer : {A : Type 0} → Result A GoalFault → Result A GoalFault → Type 0
IsAnswer (Ok value) answer = answer ≡ Ok value
IsAnswer (Err fault) answer = (fault ≡ Memory) ⊎ (answer ≡ Err fault)

-- the same of a value that is seen by a view
abbrev pub IsAnswerSeen : {A B : Type 0} → (A → B) → Result A GoalFault → Result B GoalFault → Type 0
IsAnswerSeen view (Ok value) answer = answer ≡ Ok (view value)
IsAnswerSeen view (Err fault) answer = (fault ≡ Memory) ⊎ (answer ≡ Err fault)

-- what the rules give is there, and a value stands for it
abbrev pub Stands : {A B : Type 0} → (A → B → Type 0) → Result A GoalFault → B → Type 0
Stands stands (Ok a) b = stands a b
Stands stands (Err fault) b = ⊥

-- the same of a value that stands for what the rules give
abbrev pub IsAnswerFor : {A B : Type 0} → (A → B → Type 0) → Result B GoalFault → Result A GoalFault → Type 0
IsAnswerFor stands (Ok value) answer = Stands stands answer value
IsAnswerFor stands (Err fault) answer = (fault ≡ Memory) ⊎ (answer ≡ Err fault)
