-- A shelf in memory: its files, how many calls it had, and which call it fails.
use Rattle.std.specs.Prelude.{◌≡◌, ℕ, ◌+◌, List, map, Option, Some, Vec, Result, Err}
use Rattle.std.specs.declared.alloc.Global.{Global}
use Rattle.bosh_ports.specs.Faults.{count_with}
use Rattle.bosh_ports.specs.declared.shelf.ShelfFault.{ShelfFault}
use Rattle.bosh_ports.specs.declared.shelf.ShelfFault.TheVariants.{Failed}

-- the files in the byte order of their paths, the calls so far, the number of the call that fails, and the faults so
-- far
pub record ShelfState : Type 0 where
  pub files : List (List ℕ × List ℕ)
  pub calls : ℕ
  pub failing : Option ℕ
  pub faults : ℕ

-- the bytes of each path and each file
abbrev pub files_of : List (Vec ℕ Global × Vec ℕ Global) → List (List ℕ × List ℕ)
files_of entries = map (λ entry. (entry.0.items, entry.1.items)) entries

-- the faults after an answer: one more where it failed
abbrev pub faults_after : {T : Type 0} → ℕ → Result T ShelfFault → ℕ
faults_after faults (Err Failed) = count_with faults 1
faults_after faults answer = faults

-- the next call is the one that fails
abbrev pub IsFailing : ShelfState → Type 0
IsFailing shelf = shelf.failing ≡ Some (shelf.calls + 1)
