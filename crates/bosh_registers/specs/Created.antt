-- What a call created: a machine has the number of that call as its agent, a disk as its tag
-- (this project's profile).
use Rattle.std.specs.Prelude.{◌≡◌, ℕ, ◌==◌, Bool, false, List, Option, Some, None, find, length}
use Rattle.bosh_agent.specs.Slots.{at}
use Rattle.bosh_base.specs.Cloud.{numbers_to}
use Rattle.bosh_key_index.specs.Listed.{is_listed}

-- it is there, and this call created it
abbrev pub is_created_by : {T : Type 0} → (T → ℕ) → ℕ → Option T → Bool
is_created_by call n (Some thing) = call thing == n
is_created_by call n None = false

-- the least number of a thing that is there and that a call created
abbrev pub least_created : {T : Type 0} → (T → ℕ) → List (Option T) → ℕ → Option ℕ
least_created call things n = find (λ number. is_created_by call n (at things number)) (numbers_to (length things))

-- the numbers stand under the calls that created the things
abbrev pub AreIndexed : {T : Type 0} → (T → ℕ) → List (Option T) → List (ℕ × ℕ) → Type 0
AreIndexed call things index =
    (n number : ℕ) → is_listed index n number ≡ is_created_by call n (at things number)
