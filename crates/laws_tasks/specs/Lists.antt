-- The fact on what tasks list.
use Rattle.std.specs.Prelude.{◌≡◌, ℕ, true}
use Rattle.bosh_history.specs.Moments.{Moment}
use Rattle.laws_facts.specs.Owners.{works}
use Rattle.laws_facts.specs.Tasks.{lists_well}

-- a task that works lists what its kind and its goal ask for
abbrev pub ListWell : Moment → Type 0
ListWell m = (t : ℕ) → works m t ≡ true → lists_well (m.known.task t) ≡ true
