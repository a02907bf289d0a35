-- No call of a clean task fails: what holds of such a task while it works, and what that says of a history.
use Rattle.std.specs.Prelude.{◌≡◌, ℕ, Bool, true, false, not, is_some, List, [], ◌∷◌}
use Rattle.std.specs.List.{list_all}
use Rattle.bosh_base.specs.declared.inst.Inst.{Inst}
use Rattle.bosh_base.specs.declared.moves.Move.{Move}
use Rattle.bosh_history.specs.Known.{Known}
use Rattle.bosh_history.specs.Moments.{Moment, Opening, beginning, later}
use Rattle.bosh_history.specs.Openings.{deploys}
use Rattle.bosh_lawful.specs.Clean.{CleanTask, clean_after}
use Rattle.laws_facts.specs.Clean.{is_call_clean, is_row_clean}
use Rattle.laws_counts.specs.Courses.{Course}
use Rattle.laws_facts.specs.Owners.{works}
use Rattle.laws_row_facts.specs.Words.{where_any}

-- ---- one task

-- The task is a deploy, nothing is wrong with its rows that it cannot find out, its open calls were answered cleanly,
-- and none failed.
pub record UnfailedFacts (m : Moment) (t : ℕ) : Type 0 where
  pub deploy : deploys (m.known.task t).kind ≡ true
  pub rows : (i : Inst) → is_row_clean m (m.known.task t) i ≡ true
  pub calls : (n : ℕ) → where_any (is_call_clean m t) (m.calls n) ≡ true
  pub none_failed : is_some (m.known.task t).failed ≡ false

-- ---- a course

-- all this holds of each clean task that works
abbrev pub AreUnfailed : Course → Type 0
AreUnfailed c = (t : ℕ) → works c.moment t ≡ true → (c.account t).is_clean ≡ true → UnfailedFacts c.moment t

-- ---- a history

-- no call of the task failed
abbrev pub is_unfailed : Known → CleanTask → Bool
is_unfailed k it = not (is_some (k.task it.opening.task).failed)

-- at each moment, no call failed of each task that is clean so far
abbrev pub AreUnfailedFrom : Moment → List CleanTask → List Move → Type 0
AreUnfailedFrom m tasks [] = list_all (is_unfailed m.known) tasks ≡ true
AreUnfailedFrom m tasks (move ∷ moves) =
    (list_all (is_unfailed m.known) tasks ≡ true) × AreUnfailedFrom (later m move) (clean_after m move tasks) moves

-- no call of a clean task fails, at any moment of the history
abbrev pub AreCleanTasksUnfailed : Opening → List Move → Type 0
AreCleanTasksUnfailed o moves = AreUnfailedFrom (beginning o) [] moves
