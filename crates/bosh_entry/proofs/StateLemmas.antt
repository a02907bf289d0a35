-- What is read is what was spelled.
use Rattle.std.proofs.Common.{◌≡◌, ℕ, true, List, ◌++◌, Some, refl}
use Rattle.bosh_base.specs.declared.state.State.{State}
use Rattle.bosh_base.specs.declared.state.State.TheVariants.{Running, Stopped, Detached}
use Rattle.bosh_entry.specs.Reading.{one_of_at}
use Rattle.bosh_entry.specs.State.{state, is_state, state_at, states}
use Rattle.bosh_entry.proofs.CodingLemmas.{IsCoding, making_law}
use Rattle.bosh_entry.proofs.VariantLemmas.{AreVariants, variant_law, one_of_law}

state_again : (x : State) (rest : List ℕ) → is_state x ≡ true → one_of_at states (state x ++ rest) ≡ Some (x, rest)
unfolding state is_state
state_again Running rest h = (making_law Running).again tt rest h
state_again Stopped rest h = (making_law Stopped).again tt rest h
state_again Detached rest h = (making_law Detached).again tt rest h

states_are : AreVariants state is_state 0 states
unfolding state is_state
states_are = (
  variant_law (making_law Running) (λ p. refl) (λ p. refl),
  (
    variant_law (making_law Stopped) (λ p. refl) (λ p. refl),
    (variant_law (making_law Detached) (λ p. refl) (λ p. refl), tt),
  ),
)

pub state_law : IsCoding state is_state state_at
unfolding state_at
state_law = one_of_law states states_are (λ x. state_again x)
