-- How many bytes of files a deployment may have: 1,048,576. What is above that is counted and not kept.
use Rattle.std.specs.Prelude.{◌≡◌, ◌⊎◌, ℕ, ◌+◌, ◌<◌, Bool, true, false, List, ◌++◌, Result, Ok, Err, sum_by}
use Rattle.bosh_files.specs.declared.budget.Budget.{Budget}
use Rattle.bosh_files.specs.declared.budget.Budget.TheVariants.{Left, Spent}

-- so many bytes were taken
abbrev pub Counts : Budget → ℕ → Type 0
Counts (Left bytes) taken = taken + bytes ≡ 1048576
Counts Spent taken = 1048576 < taken

abbrev pub is_kept : Budget → Bool
is_kept (Left bytes) = true
is_kept Spent = false

-- things of some sizes are taken and, where the bytes of all are within the limit, kept behind others
pub record AreTaken {A : Type 0} (size : A → ℕ) (before after : Budget) (old new things : List A) : Type 0 where
  pub counted : (taken : ℕ) → Counts before taken → Counts after (taken + sum_by size things)
  pub kept : is_kept after ≡ true → new ≡ old ++ things

-- a call takes what the rules give, or answers their fault, or wants memory
abbrev pub Takes : {T A F : Type 0} → F → (A → ℕ) → Result T F → Budget → Budget → List A → List A → Result (List A) F → Type 0
Takes memory size (Ok done) before after old new (Ok things) = AreTaken size before after old new things
Takes memory size (Ok done) before after old new (Err fault) = ⊥
Takes memory size (Err fault) before after old new answer = (fault ≡ memory) ⊎ (answer ≡ Err fault)
