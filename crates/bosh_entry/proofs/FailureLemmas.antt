-- What is read is what was spelled.
use Rattle.std.proofs.Common.{◌≡◌, ℕ, true, List, ◌++◌, Some, refl}
use Rattle.bosh_base.specs.declared.failure.Failure.{Failure}
use Rattle.bosh_base.specs.declared.failure.Failure.TheVariants.{Interrupted, Call, Gone}
use Rattle.bosh_entry.specs.declared.format.Format.{Format}
use Rattle.bosh_entry.specs.declared.format.Format.TheVariants.{Older, Present}
use Rattle.bosh_entry.specs.Reading.{one_of_at}
use Rattle.bosh_entry.specs.Later.{present_at}
use Rattle.bosh_entry.specs.Failure.{failure, is_failure, failure_at, failures}
use Rattle.bosh_entry.proofs.CodingLemmas.{IsCoding, making_law, ◌and◌}
use Rattle.bosh_entry.proofs.VariantLemmas.{AreVariants, variant_law, one_of_law}
use Rattle.bosh_entry.proofs.NumberLemmas.{number_law}
use Rattle.bosh_entry.proofs.LaterLemmas.{present_law}

failure_again : (x : Failure) (format : Format) (rest : List ℕ) → is_failure format x ≡ true → one_of_at (failures format) (failure x ++ rest) ≡ Some (x, rest)
unfolding failure is_failure present_at
failure_again Interrupted format rest h = (making_law Interrupted).again tt rest h
failure_again (Call n) format rest h = (making_law Call and number_law).again (tt, n) rest h
failure_again (Gone n) Older rest h = absurd cc
failure_again (Gone n) Present rest h = (making_law Gone and number_law).again (tt, n) rest h

failures_are : (format : Format) → AreVariants failure (is_failure format) 0 (failures format)
unfolding failure is_failure
failures_are format = (
  variant_law (making_law Interrupted) (λ p. refl) (λ p. refl),
  (
    variant_law (making_law Call and number_law) (λ p. refl) (λ p. refl),
    (present_law format (λ e. variant_law (making_law Gone and number_law) (λ p. refl) (λ p. rw e refl)), tt),
  ),
)

pub failure_law : (format : Format) → IsCoding failure (is_failure format) (failure_at format)
unfolding failure_at
failure_law format = one_of_law (failures format) (failures_are format) (λ x. failure_again x format)
