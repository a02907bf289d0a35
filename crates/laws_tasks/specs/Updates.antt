-- The facts on updates, each of all its subjects (bosh.io, "Deployment manifest", "update": of each group only as many
-- instances as its plan says are updated at once, and the canaries before all others).
use Rattle.std.specs.Prelude.{◌≡◌, ℕ, true}
use Rattle.bosh_base.specs.declared.inst.Inst.{Inst}
use Rattle.bosh_history.specs.Known.{Known}
use Rattle.bosh_history.specs.Moments.{Moment}
use Rattle.laws_facts.specs.Numbers.{none_opened_since}
use Rattle.laws_facts.specs.Owners.{works}
use Rattle.laws_facts.specs.Tasks.{is_in_turn, is_within_limits}

-- each group of an open task is within its limit
abbrev pub AreWithinLimits : Known → Type 0
AreWithinLimits k = (t : ℕ) (i : Inst) → is_within_limits k t i ≡ true

-- an instance whose update began is a canary, or all canaries are done
abbrev pub AreInTurn : Moment → Type 0
AreInTurn m = (t : ℕ) (i : Inst) → works m t ≡ true → is_in_turn (m.known.task t) i ≡ true

-- while a task is left that a stop interrupted, none was opened since
abbrev pub AreRecovered : Moment → Type 0
AreRecovered m = none_opened_since m ≡ true
