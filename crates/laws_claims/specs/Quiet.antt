-- What a task waits for: its own calls, and the calls of others that compile what it has machines for.
use Rattle.std.specs.Prelude.{◌≡◌, ℕ, Bool, true, false, not, ◌&&◌, ◌||◌, ◌==◌, Option, Some, is_some, List, [], ◌∷◌}
use Rattle.std.specs.Prelude.{length}
use Rattle.std.specs.List.{list_all, list_any}
use Rattle.std.specs.Option.{option_and_then}
use Rattle.bosh_base.specs.Cloud.{numbers_to}
use Rattle.bosh_base.specs.declared.key.Key.{Key}
use Rattle.bosh_base.specs.declared.owner.Owner.{Owner}
use Rattle.bosh_base.specs.declared.owner.Owner.TheVariants.{Compile}
use Rattle.bosh_history.specs.Claim.{Claimed, Waits}
use Rattle.bosh_history.specs.Items.{items, slots_of}
use Rattle.bosh_history.specs.Moments.{Moment, OpenCall}
use Rattle.bosh_history.specs.Slots.{is_compiled}
use Rattle.bosh_history.specs.Steps.{compiles, has_no_call, is_compiling}
use Rattle.bosh_history.specs.Words.{holds, numbers_below}
use Rattle.laws_items.specs.Lists.{IsIn}

-- an entry is given, or the task is over
abbrev pub is_given : Claimed → Bool
is_given Waits = false
is_given claimed = true

-- the key that a compile machine of the task is for
abbrev pub key_of : Moment → ℕ → ℕ → Option Key
key_of m t s = option_and_then (λ it. it.key) (m.known.slot t s)

-- it is not compiled, and an open call compiles it
abbrev pub is_in_the_making : Moment → Key → Bool
is_in_the_making m key = not (is_compiled m.known key) && is_compiling m key

-- an owner is a compile machine of the task, whose key is in the making
abbrev pub is_held_up : Moment → ℕ → Owner → Bool
is_held_up m t (Compile task s) = task == t && holds (is_in_the_making m) (key_of m t s)
is_held_up m t owner = false

-- something is left, and all of it is held up
abbrev pub are_held_up : Moment → ℕ → List Owner → Bool
are_held_up m t [] = false
are_held_up m t (owner ∷ owners) = list_all (is_held_up m t) (owner ∷ owners)

-- no open call is the task's, and not all that is left of the present phase is held up by the calls of others
abbrev pub is_quiet : Moment → ℕ → Bool
is_quiet m t = has_no_call m t && not (are_held_up m t (items m.known t))

-- the call is the task's, or it compiles the key of one of its machines
abbrev pub is_awaited_by : Moment → ℕ → OpenCall → Bool
is_awaited_by m t call =
    call.begin.task == t
    || list_any (λ s. holds (λ key. compiles key call.begin.call) (key_of m t s))
    (numbers_below (length (slots_of (m.known.task t).goal)))

-- some call is open
abbrev pub is_call_open : Moment → Bool
is_call_open m = list_any (λ n. is_some (m.calls n)) (numbers_to m.known.last_call)

-- an open call that the task waits for
pub record Awaits (m : Moment) (t : ℕ) : Type 0 where
  pub n : ℕ
  pub call : OpenCall
  pub is_numbered : IsIn n (numbers_to m.known.last_call)
  pub is_open : m.calls n ≡ Some call
  pub is_awaited : is_awaited_by m t call ≡ true
