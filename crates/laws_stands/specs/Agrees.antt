-- What is told, beside a moment of a history: the same is known, and the same calls are open, but for those that a stop
-- forgot, whose tasks are still to be interrupted.
use Rattle.std.specs.Prelude.{◌≡◌, ℕ, ◌≤◌, Some, None}
use Rattle.bosh_base.specs.declared.entry.Begin.{Begin}
use Rattle.bosh_claim.specs.declared.choice.Choice as choice
use Rattle.bosh_claim.specs.declared.choice.Choice.TheVariants as choices
use Rattle.bosh_history.specs.Claim.{Claimed, Noted, Over, Waits}
use Rattle.bosh_history.specs.Moments.{Moment, OpenCall}
use Rattle.laws_stands.specs.Told.{Told}

-- what is told agrees with a moment
pub record Agrees (m : Moment) (told : Told) : Type 0 where
  pub known_is : told.known ≡ m.known
  -- what a snapshot told was told before the last stop
  pub snapped : told.snapped ≤ m.stopped
  -- an open call is told
  pub live : (n : ℕ) (call : OpenCall) → m.calls n ≡ Some call → told.calls n ≡ Some call.begin
  -- a call that is told, and not open, is of a task that was opened before the last stop
  pub left : (n : ℕ) (b : Begin) → told.calls n ≡ Some b → m.calls n ≡ None → b.task ≤ m.stopped

-- a choice of the records, as a claim at a moment
abbrev pub claimed_of : choice.Choice → Claimed
claimed_of (choices.Noted entry) = Noted entry
claimed_of choices.Waits = Waits
claimed_of choices.Over = Over
