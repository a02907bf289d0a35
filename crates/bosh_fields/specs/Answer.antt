-- Reading that may end with a fault: one step after another, and what a call answers where memory may run out.
use Rattle.std.specs.Prelude.{◌≡◌, ◌⊎◌, Result, Ok, Err}
use Rattle.bosh_fields.specs.declared.fault.FieldFault.{FieldFault}
use Rattle.bosh_fields.specs.declared.fault.FieldFault.TheVariants.{Memory}

-- the next step, where there is no fault so far
infixl 10 ◌>>=◌
abbrev pub ◌>>=◌ : {A B : Type 0} → Result A FieldFault → (A → Result B FieldFault) → Result B FieldFault
(Ok a) >>= f = f a
(Err fault) >>= f = Err fault

-- two readings, one after the other
abbrev pub both : {A B : Type 0} → Result A FieldFault → Result B FieldFault → Result (A × B) FieldFault
both first second = do
  a ← first
  b ← second
  Ok (a, b)

-- a call's answer is the one that the rules give, or want of memory
abbrev pub IsAnswer : {A : Type 0} → Result A FieldFault → Result A FieldFault → Type 0
IsAnswer (Ok value) answer = answer ≡ Ok value
IsAnswer (Err fault) answer = (fault ≡ Memory) ⊎ (answer ≡ Err fault)

-- the same of a value that is seen by a view
abbrev pub IsAnswerSeen : {A B : Type 0} → (A → B) → Result A FieldFault → Result B FieldFault → Type 0
IsAnswerSeen view (Ok value) answer = answer ≡ Ok (view value)
IsAnswerSeen view (Err fault) answer = (fault ≡ Memory) ⊎ (answer ≡ Err fault)
