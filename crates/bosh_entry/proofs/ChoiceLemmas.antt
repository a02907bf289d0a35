-- Truth values and options are read as they were spelled.
use Rattle.std.proofs.Common.{◌≡◌, ℕ, Bool, true, false, List, ◌++◌, Option, Some, None, refl}
use Rattle.bosh_entry.specs.Reading.{Reader, one_of_at}
use Rattle.bosh_entry.specs.Choice.{flag, is_flag, flags, flag_at, option, is_option, options, option_at}
use Rattle.bosh_entry.proofs.CodingLemmas.{IsCoding, making_law, ◌and◌}
use Rattle.bosh_entry.proofs.VariantLemmas.{variant_law, one_of_law}

flag_again : (b : Bool) (rest : List ℕ) → is_flag b ≡ true → one_of_at flags (flag b ++ rest) ≡ Some (b, rest)
flag_again false rest h = refl
flag_again true rest h = refl

pub flag_law : IsCoding flag is_flag flag_at
unfolding flag_at
flag_law = one_of_law flags (
  variant_law (making_law false) (λ p. refl) (λ p. refl),
  (variant_law (making_law true) (λ p. refl) (λ p. refl), tt),
)
    flag_again

option_again : {A : Type 0} {s : A → List ℕ} {f : A → Bool} {r : Reader A} → IsCoding s f r → (o : Option A) (rest : List ℕ) → is_option f o ≡ true → one_of_at (options r) (option s o ++ rest) ≡ Some (o, rest)
option_again law None rest h = refl
option_again law (Some a) rest h = (making_law Some and law).again (tt, a) rest h

pub option_law : {A : Type 0} {s : A → List ℕ} {f : A → Bool} {r : Reader A} → IsCoding s f r → IsCoding (option s) (is_option f) (option_at r)
unfolding option_at
option_law {A} {s} {f} {r} law = one_of_law (options r) (
  variant_law (making_law None) (λ p. refl) (λ p. refl),
  (variant_law (making_law Some and law) (λ p. refl) (λ p. refl), tt),
)
    (option_again law)
