-- What a worker notes by what it claims.
use Rattle.std.specs.Prelude.{◌≡◌, ℕ, Option, Some, None, true}
use Rattle.bosh_base.specs.declared.entry.Entry.{Entry}
use Rattle.bosh_base.specs.declared.entry.Entry.TheVariants as entries
use Rattle.bosh_base.specs.declared.failure.Failure.{Failure}
use Rattle.bosh_base.specs.declared.moves.Move.TheVariants.{Note}
use Rattle.bosh_history.specs.Claim.{Claimed, Noted, Over, Waits, claim_at}
use Rattle.bosh_history.specs.Moments.{Moment}
use Rattle.bosh_history.specs.Notes.{Outside}
use Rattle.bosh_history.specs.Permitted.{IsPermitted}
use Rattle.laws_claims.specs.Quiet.{is_call_open}

-- a task that is over is done, or failed by the least call of it that did
abbrev pub ending : ℕ → Option Failure → Entry
ending t None = entries.TaskDone t
ending t (Some cause) = entries.TaskError (record { task = t; cause = cause })

-- the entry that is claimed, or the end of the task
abbrev pub noted_by : ℕ → Option Failure → Claimed → Option Entry
noted_by t failed (Noted entry) = Some entry
noted_by t failed Over = Some (ending t failed)
noted_by t failed Waits = None

-- what is claimed is permitted, a task that is over may end, and who waits waits for a call
abbrev pub IsLawful : Outside → Moment → ℕ → Claimed → Type 0
IsLawful outside m t (Noted entry) = IsPermitted outside m (Note entry)
IsLawful outside m t Over = IsPermitted outside m (Note (ending t (m.known.task t).failed))
IsLawful outside m t Waits = is_call_open m ≡ true

-- a worker of the task has an entry to note, and may note it
pub record GoesOn (outside : Outside) (m : Moment) (t worker : ℕ) : Type 0 where
  pub entry : Entry
  pub is_claimed : noted_by t (m.known.task t).failed (claim_at m t worker) ≡ Some entry
  pub is_permitted : IsPermitted outside m (Note entry)
