-- All facts on one task.
use Rattle.std.specs.Prelude.{◌≡◌, ℕ, Bool, true, false, ◌&&◌, ◌==◌, Some, List, [], ◌++◌, codes}
use Rattle.std.specs.Cmp.Lexicographic.{pointwise}
use Rattle.std.specs.List.{list_all}
use Rattle.std.specs.Option.{option_eq}
use Rattle.std.specs.Str.{bytes_eq}
use Rattle.bosh_base.specs.Cloud.{numbers_to}
use Rattle.bosh_base.specs.declared.goal.Goal.{Goal}
use Rattle.bosh_base.specs.declared.goal.GoalRow.{GoalRow}
use Rattle.bosh_base.specs.declared.inst.Inst.{Inst}
use Rattle.bosh_base.specs.declared.key.KeyWork.{KeyWork}
use Rattle.bosh_compile.specs.Readiness.{same_key}
use Rattle.laws_facts.specs.Owners.{works}
use Rattle.laws_facts.specs.Tasks.{can_be_asked, has_another_lock, has_place, is_addressed, is_disk_to_delete}
use Rattle.laws_facts.specs.Tasks.{is_heard_of, is_in_turn, is_update_listed, is_within_limits, lists_well}
use Rattle.laws_facts.specs.Tasks.{stands_where_through}
use Rattle.laws_facts.specs.Words.{unless}
use Rattle.laws_row_facts.specs.Words.{where_any}
use Rattle.bosh_history.specs.Goals.{instances_of}
use Rattle.bosh_history.specs.Known.{Known, Task}
use Rattle.bosh_history.specs.Moments.{Moment}
use Rattle.bosh_history.specs.Sound.{is_alike, same_offer, same_plan}
use Rattle.bosh_rows.specs.Same.{same_make, same_state, same_tie}

-- of one that works, by what entries tell
pub record WorkFacts (m : Moment) (t : ℕ) : Type 0 where
  -- its goal is the current one of its deployment
  pub current : (dep : List ℕ) → (m.known.task t).dep ≡ Some dep → m.known.goal dep ≡ (m.known.task t).goal
  -- it lists what its kind and its goal ask for
  pub lists_well : lists_well (m.known.task t) ≡ true
  -- a recorded row of the deployment is of the goal or is to go
  pub has_place : (i : Inst) → has_place m.known (m.known.task t) i ≡ true
  -- an instance whose update began, or is done, is one of those that change
  pub update_listed : (i : Inst) → is_update_listed (m.known.task t) i ≡ true
  -- an instance whose update began is a canary, or all canaries are done
  pub in_turn : (i : Inst) → is_in_turn (m.known.task t) i ≡ true
  -- a row that is to be asked has a machine
  pub can_be_asked : (i : Inst) → can_be_asked m.known (m.known.task t) i ≡ true
  -- no row that is to go has an address of its one instance
  pub is_addressed : is_addressed m.known (m.known.task t) ≡ true

-- .. by what the cloud has
pub record OutcomeFacts (m : Moment) (t : ℕ) : Type 0 where
  -- an instance that is through stands
  pub stands : (i : Inst) → stands_where_through m.known (m.known.task t) i ≡ true
  -- a listed disk is orphaned, or is not there any more
  pub to_delete : (d : ℕ) → is_disk_to_delete m (m.known.task t) d ≡ true
  -- the task has heard of the machines that it asks
  pub is_heard_of : (i : Inst) → is_heard_of m t i ≡ true

-- the facts on one task, by what entries tell
pub record TaskFacts (m : Moment) (t : ℕ) : Type 0 where
  -- another open task has another lock
  pub another_lock : (other : ℕ) → has_another_lock m.known t other ≡ true
  -- each group is within its limit
  pub within_limits : (i : Inst) → is_within_limits m.known t i ≡ true
  -- the rest
  pub working : works m t ≡ true → WorkFacts m t

-- ---- the tests

-- the test of equal rows of goals
abbrev pub same_row : GoalRow → GoalRow → Bool
same_row a b = is_alike a b && (same_state a.state b.state && a.fresh_after == b.fresh_after)

-- .. of equal keys
abbrev pub same_work : KeyWork → KeyWork → Bool
same_work a b = bytes_eq a.name b.name && (same_key a.key b.key && pointwise same_key a.deps b.deps)

-- .. of equal goals
abbrev pub same_goal : Goal → Goal → Bool
same_goal a b =
    bytes_eq a.dep b.dep
    && (pointwise same_row a.rows b.rows
    && (pointwise same_plan a.groups b.groups
    && (pointwise same_tie a.ties b.ties
    && (pointwise same_work a.keys b.keys
    && (pointwise same_make a.slots b.slots && pointwise same_offer a.offers b.offers)))))

-- the test of a current goal
abbrev pub is_current : Known → Task → Bool
is_current k t = where_any (λ dep. option_eq same_goal (k.goal dep) t.goal) t.dep

-- the instances that may be of interest to a task
abbrev pub instances_at : Known → Task → List Inst
instances_at k t = k.instances ++ instances_of t.goal ++ t.to_ping ++ t.obsolete ++ t.changed

-- the tags of those that do not hold of a task that works
abbrev pub work_broken : Moment → ℕ → Task → List (List ℕ)
work_broken m t task =
    unless (codes "goal current") (is_current m.known task)
    ++ unless (codes "lists well") (lists_well task)
    ++ unless (codes "has place") (list_all (has_place m.known task) (instances_at m.known task))
    ++ unless (codes "stands where through") (list_all (stands_where_through m.known task) (instances_at m.known task))
    ++ unless (codes "update listed") (list_all (is_update_listed task) (instances_at m.known task))
    ++ unless (codes "updates in turn") (list_all (is_in_turn task) (instances_at m.known task))
    ++ unless (codes "can be asked") (list_all (can_be_asked m.known task) (instances_at m.known task))
    ++ unless (codes "disks to delete") (list_all (is_disk_to_delete m task) task.disks)
    ++ unless (codes "addressed") (is_addressed m.known task)
    ++ unless (codes "machine heard of") (list_all (is_heard_of m t) (instances_at m.known task))

-- nothing is asked of one that does not
abbrev pub where_it_works : Bool → List (List ℕ) → List (List ℕ)
where_it_works true tags = tags
where_it_works false tags = []

-- the tags of those that do not hold of a task
abbrev pub task_broken : Moment → ℕ → List (List ℕ)
task_broken m t =
    unless (codes "another lock") (list_all (has_another_lock m.known t) (numbers_to m.known.tasks))
    ++ unless (codes "within limits") (list_all (is_within_limits m.known t) (m.known.task t).changed)
    ++ where_it_works (works m t) (work_broken m t (m.known.task t))
