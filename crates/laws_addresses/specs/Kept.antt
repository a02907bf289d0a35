-- The facts on the places of instances in tasks, and on addresses, each of all its subjects.
use Rattle.std.specs.Prelude.{◌≡◌, ℕ, true}
use Rattle.bosh_base.specs.declared.inst.Inst.{Inst}
use Rattle.bosh_history.specs.Addresses.{are_apart, possible_machines}
use Rattle.bosh_history.specs.Moments.{Moment}
use Rattle.laws_facts.specs.Facts.{Holds}
use Rattle.laws_facts.specs.Owners.{works}
use Rattle.laws_facts.specs.Tasks.{has_place, is_addressed}

-- while a task works that is of no single instance, each recorded instance of its deployment is of its goal, or is to
-- go
abbrev pub HavePlaces : Moment → Type 0
HavePlaces m = (t : ℕ) → works m t ≡ true → (i : Inst) → has_place m.known (m.known.task t) i ≡ true

-- while a task works that is of one instance, no row that is not of its goal has an address of that instance, unless
-- the instance is to be detached
abbrev pub AreAddressed : Moment → Type 0
AreAddressed m = (t : ℕ) → works m t ≡ true → is_addressed m.known (m.known.task t) ≡ true

-- no two machines that are there, or that open calls may be making, share an address
abbrev pub AreMachinesApart : Type 0
AreMachinesApart = (m : Moment) → Holds m → are_apart (possible_machines m) ≡ true
