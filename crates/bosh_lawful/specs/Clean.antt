-- Deploys that nothing befell: each of their calls succeeds, and they make no more than their budget (this project's
-- profile).
use Rattle.std.specs.Prelude.{◌≡◌, ℕ, Bool, true, false, not, ◌&&◌, ◌||◌, ◌==◌, if◌then◌else◌, Option, is_some, List, [], ◌∷◌}
use Rattle.std.specs.List.{list_all, list_any}
use Rattle.bosh_base.specs.CallStep.{found_vm}
use Rattle.bosh_base.specs.Cloud.{is_silent}
use Rattle.bosh_base.specs.declared.answer.Answer.{Answer}
use Rattle.bosh_base.specs.declared.answer.Answer.TheVariants as answers
use Rattle.bosh_base.specs.declared.call.Call.{Call}
use Rattle.bosh_base.specs.declared.call.Call.TheVariants.{CreateVm}
use Rattle.bosh_base.specs.declared.entry.Entry.{Entry}
use Rattle.bosh_base.specs.declared.entry.Entry.TheVariants as entries
use Rattle.bosh_base.specs.declared.entry.TaskOpen.{TaskOpen}
use Rattle.bosh_base.specs.declared.moves.Move.{Move}
use Rattle.bosh_base.specs.declared.moves.Move.TheVariants as moves
use Rattle.bosh_base.specs.declared.row.Doubt.{Doubt}
use Rattle.bosh_base.specs.declared.row.Row.{Row}
use Rattle.bosh_base.specs.declared.task.TaskKind.{TaskKind}
use Rattle.bosh_base.specs.declared.task.TaskKind.TheVariants.{Fix}
use Rattle.bosh_history.specs.Budget.{is_within_budget}
use Rattle.bosh_history.specs.Known.{Known}
use Rattle.bosh_history.specs.Moments.{Moment, Opening, beginning, later}
use Rattle.bosh_history.specs.Openings.{deploys}
use Rattle.bosh_history.specs.Tasks.{is_of_dep}
use Rattle.bosh_history.specs.Words.{holds}
use Rattle.bosh_rows.specs.Tied.{is_spoiled}

-- ---- when it opens

abbrev pub creates_silent : List Entry → ℕ → Call → Bool
creates_silent effects n (CreateVm make disks) = holds (is_silent effects) (found_vm effects n)
creates_silent effects n call = false

-- a machine that the call in doubt made is silent
abbrev pub is_silent_creation : List Entry → Option Doubt → Bool
is_silent_creation effects doubt = holds (λ d. creates_silent effects d.n d.call) doubt

-- a deploy that asks its machines finds those that were lost
abbrev pub may_be_spoiled : TaskKind → Bool
may_be_spoiled Fix = true
may_be_spoiled kind = false

-- the task can find out what is wrong with the row
abbrev pub is_found_out : List Entry → TaskKind → Row → Bool
is_found_out effects kind row =
    (may_be_spoiled kind || not (is_spoiled effects row)) && not (is_silent_creation effects row.doubt)

-- it can find out what is wrong with each row of its deployment
abbrev pub are_found_out : Moment → TaskOpen → Bool
are_found_out m o =
    list_all (λ i. not (is_of_dep o.dep i) || is_found_out m.effects o.kind (m.known.row i)) m.known.instances

-- ---- while it works

abbrev pub is_failed : Answer → Bool
is_failed answers.Failed = true
is_failed answer = false

-- no call fails by the move, nothing is lost, and nothing halts or stops
abbrev pub is_clean : Move → Bool
is_clean (moves.Did d) = not (is_failed d.answer)
is_clean (moves.Halt cause) = false
is_clean (moves.Stop s) = false
is_clean (moves.Lost loss) = false
is_clean move = true

-- a task that is clean so far: how it opened, and what was known then
pub record CleanTask : Type 0 where
  pub opened : Known
  pub opening : TaskOpen

abbrev pub with_opened : Moment → Entry → List CleanTask → List CleanTask
with_opened m (entries.TaskOpen o) tasks =
    if deploys o.kind && are_found_out m o then record { opened = m.known; opening = o } ∷ tasks else tasks
with_opened m entry tasks = tasks

abbrev pub with_noted : Moment → Move → List CleanTask → List CleanTask
with_noted m (moves.Note entry) tasks = with_opened m entry tasks
with_noted m move tasks = tasks

-- the tasks that are clean after one more move, the latest first
abbrev pub clean_after : Moment → Move → List CleanTask → List CleanTask
clean_after m move tasks = if is_clean move then with_noted m move tasks else []

abbrev pub clean_tasks : Moment → List CleanTask → List Move → List CleanTask
clean_tasks m tasks [] = tasks
clean_tasks m tasks (move ∷ moves) = clean_tasks (later m move) (clean_after m move tasks) moves

-- The task is a deploy that could find out what was wrong when it opened, and since then no call failed, nothing was
-- lost, and nothing halted.
abbrev pub IsCleanTask : Opening → List Move → ℕ → Type 0
IsCleanTask o moves t = list_any (λ it. it.opening.task == t) (clean_tasks (beginning o) [] moves) ≡ true

-- ---- what is promised of it

-- no call of the task failed, and those that began are within its budget
abbrev pub is_bounded : Known → CleanTask → Bool
is_bounded k it = not (is_some (k.task it.opening.task).failed) && is_within_budget it.opened k it.opening

abbrev pub AreBoundedFrom : Moment → List CleanTask → List Move → Type 0
AreBoundedFrom m tasks [] = list_all (is_bounded m.known) tasks ≡ true
AreBoundedFrom m tasks (move ∷ moves) =
    (list_all (is_bounded m.known) tasks ≡ true) × AreBoundedFrom (later m move) (clean_after m move tasks) moves

-- at each moment, each task that is clean so far has no failed call and is within its budget
abbrev pub AreCleanTasksBounded : Opening → List Move → Type 0
AreCleanTasksBounded o moves = AreBoundedFrom (beginning o) [] moves
