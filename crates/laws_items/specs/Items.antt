-- The facts on what is left of tasks, each of all its subjects.
use Rattle.std.specs.Prelude.{◌≡◌, ℕ, true, Some}
use Rattle.bosh_base.specs.declared.inst.Inst.{Inst}
use Rattle.bosh_history.specs.Moments.{Moment, OpenCall}
use Rattle.laws_facts.specs.OpenCalls.{is_call_of_item}
use Rattle.laws_facts.specs.Owners.{works}
use Rattle.laws_facts.specs.Tasks.{can_be_asked}

-- the owner of an open call is an item of the present phase of its task, and is asked just where it is to be asked
abbrev pub AreOfItems : Moment → Type 0
AreOfItems m = (n : ℕ) (call : OpenCall) → m.calls n ≡ Some call → is_call_of_item m call.begin ≡ true

-- a row that is to be asked has a machine, is not lost, and its instance is not through
abbrev pub CanBeAsked : Moment → Type 0
CanBeAsked m = (t : ℕ) (i : Inst) → works m t ≡ true → can_be_asked m.known (m.known.task t) i ≡ true
