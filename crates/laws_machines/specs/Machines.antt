-- The facts on compile machines and their calls, each of all its subjects.
use Rattle.std.specs.Prelude.{◌≡◌, ℕ, true, Some}
use Rattle.bosh_history.specs.Known.{Known}
use Rattle.bosh_history.specs.Moments.{Moment, OpenCall}
use Rattle.laws_facts.specs.CompileMachines.{is_deleted_compiled, is_slot_alone, is_slot_doubt_open}
use Rattle.laws_facts.specs.CompileMachines.{is_slot_its_tasks}
use Rattle.laws_facts.specs.OpenCalls.{compiles_alone, compiles_new}
use Rattle.laws_row_facts.specs.Words.{where_any}
use Rattle.laws_slots.specs.Slots.{has_shape}

-- a compile machine without a number is in doubt of its creation, and one with a number of nothing or of its deletion
abbrev pub AreShaped : Known → Type 0
AreShaped k = (t s : ℕ) → where_any has_shape (k.slot t s) ≡ true

-- a compile machine of a task that works is one of the slots of its goal
abbrev pub AreOfGoals : Moment → Type 0
AreOfGoals m = (t s : ℕ) → is_slot_its_tasks m t s ≡ true

-- the doubt of a compile machine is that of an open call, where its task works and no call of it failed
abbrev pub AreDoubtsOpen : Moment → Type 0
AreDoubtsOpen m = (t s : ℕ) → is_slot_doubt_open m t s ≡ true

-- no two compile machines of a task that works are for one key
abbrev pub AreAlone : Moment → Type 0
AreAlone m = (t s other : ℕ) → is_slot_alone m t s other ≡ true

-- a compile machine of a task that works is deleted only once its key is compiled
abbrev pub AreDeletedCompiled : Moment → Type 0
AreDeletedCompiled m = (t s : ℕ) → is_deleted_compiled m t s ≡ true

-- the key that an open call compiles is not compiled
abbrev pub AreCompiledNew : Moment → Type 0
AreCompiledNew m =
    (n : ℕ) (call : OpenCall) → m.calls n ≡ Some call → compiles_new m.known call.begin.call ≡ true

-- no two open calls compile one key
abbrev pub AreCompiledAlone : Moment → Type 0
AreCompiledAlone m =
    (n : ℕ) (call : OpenCall) → m.calls n ≡ Some call → (other : ℕ) → compiles_alone m call other ≡ true
