-- How states of instances are spelled.
use Rattle.std.specs.Prelude.{ℕ, Bool, true, List, [], ◌∷◌}
use Rattle.bosh_base.specs.declared.state.State.{State}
use Rattle.bosh_base.specs.declared.state.State.TheVariants.{Running, Stopped, Detached}
use Rattle.bosh_entry.specs.Reading.{Reader, making, one_of_at}

-- how an instance is to stand
unfoldable pub state : State → List ℕ
state Running = 0 ∷ []
state Stopped = 1 ∷ []
state Detached = 2 ∷ []

unfoldable pub is_state : State → Bool
is_state x = true

abbrev pub states : List (Reader State)
states =
    making Running
    ∷ making Stopped
    ∷ making Detached
    ∷ []

unfoldable pub state_at : Reader State
state_at = one_of_at states
