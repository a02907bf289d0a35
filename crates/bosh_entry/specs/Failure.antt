-- How the causes of failed tasks are spelled.
use Rattle.std.specs.Prelude.{ℕ, Bool, true, List, ◌&&◌, [], ◌∷◌}
use Rattle.bosh_base.specs.declared.failure.Failure.{Failure}
use Rattle.bosh_base.specs.declared.failure.Failure.TheVariants.{Interrupted, Call, Gone}
use Rattle.bosh_entry.specs.declared.format.Format.{Format}
use Rattle.bosh_entry.specs.Reading.{Reader, making, one_of_at, ◌with◌}
use Rattle.bosh_entry.specs.Number.{number, is_number, number_at}
use Rattle.bosh_entry.specs.Later.{is_present, present_at}

-- why a task ended without being done; the older format has not the last
unfoldable pub failure : Failure → List ℕ
failure Interrupted = 0 ∷ []
failure (Call n) = 1 ∷ number n
failure (Gone n) = 2 ∷ number n

unfoldable pub is_failure : Format → Failure → Bool
is_failure format Interrupted = true
is_failure format (Call n) = is_number n
is_failure format (Gone n) = is_present format && is_number n

abbrev pub failures : Format → List (Reader Failure)
failures format =
    making Interrupted
    ∷ making Call with number_at
    ∷ present_at format (making Gone with number_at)
    ∷ []

unfoldable pub failure_at : Format → Reader Failure
failure_at format = one_of_at (failures format)
