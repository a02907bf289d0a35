-- What tasks have heard of machines, each fact of all its subjects, and what that rests on beside all facts.
use Rattle.std.specs.Prelude.{◌≡◌, ℕ, Bool, true, not, ◌||◌, Some, is_some}
use Rattle.bosh_base.specs.declared.inst.Inst.{Inst}
use Rattle.bosh_base.specs.declared.row.Row.{Row}
use Rattle.bosh_history.specs.Moments.{Moment, OpenCall}
use Rattle.bosh_history.specs.Notes.{Outside}
use Rattle.bosh_rows.specs.Tied.{is_named_lost}
use Rattle.laws_facts.specs.CallFacts.{is_call_heard_of}
use Rattle.laws_facts.specs.Facts.{Holds}
use Rattle.laws_facts.specs.Owners.{works}
use Rattle.laws_facts.specs.Tasks.{is_heard_of}
use Rattle.laws_moves.specs.Parts.{after_part, MayHappen, Part}
use Rattle.laws_row_facts.specs.Words.{implies}

-- ---- what it rests on

-- a machine was lost before a task heard of it only where a loss named it
abbrev pub is_loss_real : Moment → ℕ → ℕ → Bool
is_loss_real m t v = implies (m.early t v) (is_named_lost m.effects v)

-- a row without a machine has no spec
abbrev pub has_spec_of_machine : Row → Bool
has_spec_of_machine row = is_some row.vm || not (is_some row.spec)

-- what hearing rests on
pub record HearingFacts (m : Moment) : Type 0 where
  pub losses_real : (t v : ℕ) → is_loss_real m t v ≡ true
  pub specs_of_machines : (i : Inst) → has_spec_of_machine (m.known.row i) ≡ true

-- the fact holds after each part of a move, where all facts and these held before it
abbrev pub IsKeptInHearing : (Moment → Type 0) → Type 0
IsKeptInHearing Fact =
    (outside : Outside) (m : Moment) (part : Part) → MayHappen outside m part → Holds m → HearingFacts m →
    Fact (after_part m part)

-- ---- what tasks have heard

-- a task that works has heard of the machines that it asks, but for those that it is still to ask
abbrev pub AreHeardOf : Moment → Type 0
AreHeardOf m = (t : ℕ) (i : Inst) → works m t ≡ true → is_heard_of m t i ≡ true

-- .. also of what an answer leaves
abbrev pub AreAnswersHeardOf : Moment → Type 0
AreAnswersHeardOf m = (n : ℕ) (call : OpenCall) → m.calls n ≡ Some call → is_call_heard_of m call ≡ true
