-- Filling that may be refused: one step after another, up to the first refusal; and what a function answers where memory may run out.
use Rattle.std.specs.Prelude.{◌≡◌, ℕ, List, ◌++◌, Result, Ok, Err}
use Rattle.bosh_vars.specs.declared.fault.VarsFault.{VarsFault}
use Rattle.bosh_vars.specs.declared.fault.VarsFault.TheVariants.{Unset, NotText, Memory}

infixl 10 ◌>>=◌
abbrev pub ◌>>=◌ : {A B : Type 0} → Result A VarsFault → (A → Result B VarsFault) → Result B VarsFault
(Ok x) >>= f = f x
(Err e) >>= f = Err e

-- a refusal is the one that is defined, unless memory ran out
abbrev pub Refuses : {B : Type 0} → VarsFault → Result B VarsFault → Type 0
Refuses Memory filled = Unit {0}
Refuses (Unset name) filled = filled ≡ Err (Unset name)
Refuses (NotText name) filled = filled ≡ Err (NotText name)

-- what a function answered, seen by a view, is what is defined, unless memory ran out
abbrev pub Gives : {A B : Type 0} → (A → B) → Result A VarsFault → Result B VarsFault → Type 0
Gives view (Ok x) filled = filled ≡ Ok (view x)
Gives view (Err e) filled = Refuses e filled

-- a text behind a front
abbrev pub with_front : List ℕ → Result (List ℕ) VarsFault → Result (List ℕ) VarsFault
with_front front filled = filled >>= λ s. Ok (front ++ s)
