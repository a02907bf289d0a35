-- What is read of a shelf (this project's profile).
use Rattle.std.specs.Prelude.{◌≡◌, ℕ, List, ◌++◌, Option, Some, IfSome, Result, Ok, Err, Vec}
use Rattle.std.specs.declared.alloc.Global.{Global}
use Rattle.bosh_answers.specs.Step.{◌>>=◌}
use Rattle.bosh_ports.specs.Faults.{NeverFalls}
use Rattle.bosh_ports.specs.Shelf.{AnswersFile, FailsByCount, file_at}
use Rattle.bosh_ports.specs.declared.shelf.ShelfFault.{ShelfFault}
use Rattle.bosh_ports.specs.declared.shelf.ShelfFault.TheVariants.{Absent, Failed, Memory, TooLarge}

-- the files of a shelf stay as they are
pub record KeepsShelf {F : Type 0}
    (files : F → Option (List (List ℕ × List ℕ))) (faults : F → ℕ) (before after : F) : Type 0 where
  pub count : NeverFalls (faults before) (faults after)
  pub same : IfSome (files before) (λ there. files after ≡ Some there)

-- the file at a path was read from a shelf
pub record IsShelved {F : Type 0}
    (files : F → Option (List (List ℕ × List ℕ))) (faults : F → ℕ) (path : List ℕ) (before : F)
    (result : Result (Vec ℕ Global) ShelfFault) (after : F) : Type 0 where
  pub keeps : KeepsShelf files faults before after
  pub answer : IfSome (files before) (λ there. AnswersFile result (file_at there path))
  pub failed : FailsByCount result (faults before) (faults after)

-- a file that a block kept is copied, unless memory ran out
abbrev pub IsKeptFile : List ℕ → Result (Vec ℕ Global) ShelfFault → Type 0
IsKeptFile text (Ok bytes) = bytes.items ≡ text
IsKeptFile text (Err fault) = fault ≡ Memory

-- a refusal is the one that is defined; a failure and want of memory come before it
abbrev pub IsRefused : {A : Type 0} → ShelfFault → Result A ShelfFault → Type 0
IsRefused Absent answer = answer ≡ Err Absent
IsRefused TooLarge answer = answer ≡ Err TooLarge
IsRefused Failed answer = Unit {0}
IsRefused Memory answer = Unit {0}

-- what was answered, seen by a view, is what is defined
abbrev pub Answers : {A B : Type 0} → (A → B) → Result A ShelfFault → Result B ShelfFault → Type 0
Answers view (Ok value) answer = answer ≡ Ok (view value)
Answers view (Err fault) answer = IsRefused fault answer

-- a list grew by what is defined
abbrev pub Adds : {U A : Type 0} → Result U ShelfFault → List A → List A → Result (List A) ShelfFault → Type 0
Adds (Ok done) before after answer = (answer >>= λ more. Ok (before ++ more)) ≡ Ok after
Adds (Err fault) before after answer = IsRefused fault answer
