-- What the end of a task that settles something needs of what was told before it.
use Rattle.std.specs.Prelude.{◌≡◌, ◌≤◌, ℕ, List, Some, false, map, true}
use Rattle.std.specs.Str.{bytes_eq}
use Rattle.bosh_base.specs.declared.goal.Goal.{Goal}
use Rattle.bosh_base.specs.declared.inst.Inst.{Inst}
use Rattle.bosh_history.specs.Words.{is_among}
use Rattle.bosh_rows.specs.Same.{same_inst}
use Rattle.bosh_rows.specs.SoundSnapshot.{are_distinct}
use Rattle.laws_stands.specs.Told.{Told}

-- the task was opened, its goal is the current one of its deployment, which is recorded, once, and the goal wants
-- instances of this deployment alone
pub record Settles (told : Told) (t : ℕ) (dep : List ℕ) (goal : Goal) : Type 0 where
  pub low : 1 ≤ t
  pub high : t ≤ told.known.tasks
  pub dep_is : (told.known.task t).dep ≡ Some dep
  pub goal_is : (told.known.task t).goal ≡ Some goal
  pub current : told.known.goal dep ≡ Some goal
  pub listed : is_among bytes_eq dep told.known.deployments ≡ true
  pub apart : are_distinct bytes_eq told.known.deployments ≡ true
  pub wants_own : (i : Inst) → bytes_eq dep i.dep ≡ false →
      is_among same_inst i (map (λ want. want.inst) goal.rows) ≡ false
