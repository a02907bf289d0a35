-- At each moment, what the claim gives is permitted.
use Rattle.std.specs.Prelude.{◌≡◌, ℕ, Bool, true, nat_lt, if◌then◌else◌, Option, Some, None, is_some}
use Rattle.std.specs.Prelude.{List, [], ◌∷◌, filter}
use Rattle.std.specs.List.{list_any}
use Rattle.bosh_base.specs.Cloud.{numbers_to}
use Rattle.bosh_base.specs.declared.entry.Entry.TheVariants.{TaskDone, TaskError}
use Rattle.bosh_base.specs.declared.failure.Failure.{Failure}
use Rattle.bosh_base.specs.declared.moves.Move.{Move}
use Rattle.bosh_base.specs.declared.moves.Move.TheVariants.{Note}
use Rattle.bosh_base.specs.declared.task.TaskEnd.{TaskEnd}
use Rattle.bosh_history.specs.Claim.{claim_at, Claimed, Noted, Waits, Over}
use Rattle.bosh_history.specs.Moments.{Moment, later}
use Rattle.bosh_history.specs.Notes.{Outside}
use Rattle.bosh_history.specs.Permitted.{IsPermitted}
use Rattle.examples_histories.specs.Scenes.{Builder, History}
use Rattle.examples_histories.specs.Verdicts.{outside}

-- a task that is over has its end, or may have it
abbrev pub MayEnd : Outside → Moment → ℕ → Option TaskEnd → Option Failure → Type 0
MayEnd outside m t (Some end) failed = Unit {0}
MayEnd outside m t None (Some cause) = IsPermitted outside m (Note (TaskError (record { task = t; cause = cause })))
MayEnd outside m t None None = IsPermitted outside m (Note (TaskDone t))

abbrev pub is_call_open : Moment → Bool
is_call_open m = list_any (λ n. is_some (m.calls n)) (numbers_to m.known.last_call)

-- an entry may be noted, a task that is over may end, and a worker waits only beside an open call
abbrev pub IsClaimPermitted : Outside → Moment → ℕ → Claimed → Type 0
IsClaimPermitted outside m t (Noted entry) = IsPermitted outside m (Note entry)
IsClaimPermitted outside m t Waits = is_call_open m ≡ true
IsClaimPermitted outside m t Over = MayEnd outside m t (m.known.task t).end (m.known.task t).failed

-- the tasks that were opened since the last stop, where nothing was halted since
abbrev pub tasks_at : Moment → List ℕ
tasks_at m = if m.halted then [] else filter (λ t. nat_lt m.stopped t) (numbers_to m.known.tasks)

abbrev pub EachTask : Outside → Moment → List ℕ → Type 0
EachTask outside m [] = Unit {0}
EachTask outside m (t ∷ tasks) = IsClaimPermitted outside m t (claim_at m t 0) × EachTask outside m tasks

abbrev pub EachMoment : Outside → Moment → List Move → Type 0
EachMoment outside m [] = EachTask outside m (tasks_at m)
EachMoment outside m (move ∷ history) = EachTask outside m (tasks_at m) × EachMoment outside (later m move) history

abbrev pub AreClaimsPermitted : Moment → History → Type 0
AreClaimsPermitted m history = (built : Builder) → EachMoment (outside built) m (history built)
