-- What a task that opens reads of the records, as what is known.
use Rattle.std.specs.Prelude.{◌≡◌, ◌&&◌, ◌||◌, ℕ, Bool, List, Option, Some, eqb, filter, find, is_none, map}
use Rattle.std.specs.Option.{option_eq}
use Rattle.std.specs.Str.{bytes_eq}
use Rattle.bosh_asks.specs.Changed.{changed_of, obsolete_of}
use Rattle.bosh_asks.specs.Known as asks
use Rattle.bosh_asks.specs.Recorded.{first_consumer, loose}
use Rattle.bosh_base.specs.Cloud.{numbers_to}
use Rattle.bosh_base.specs.declared.goal.Goal.{Goal}
use Rattle.bosh_base.specs.declared.goal.GoalRow.{GoalRow}
use Rattle.bosh_base.specs.declared.inst.Inst.{Inst}
use Rattle.bosh_history.specs.Goals.{does_not_stand, inst_of, is_in, out_of_goal}
use Rattle.bosh_history.specs.Held.{is_open}
use Rattle.bosh_history.specs.Known.{Known}
use Rattle.bosh_history.specs.Openings.{is_recorded, withdraws_nothing}
use Rattle.bosh_history.specs.Words.{is_among}
use Rattle.bosh_records.specs.Readers.{goal_of}
use Rattle.bosh_records.specs.declared.records.Records.{Records}

-- the task is open and has the lock: that of a deployment, or that of the tasks that delete disks
abbrev pub has_lock : Known → Option (List ℕ) → ℕ → Bool
has_lock k dep t = is_open k t && option_eq bytes_eq (k.task t).dep dep

pub record AreReadAsKnown (k : Known) (records : Records) : Type 0 where
  -- the current goal of a deployment
  pub goals : (dep : List ℕ) → goal_of records dep ≡ k.goal dep
  -- the first open task that has a lock
  pub locks : (dep : Option (List ℕ)) → asks.lock_holder records dep ≡ find (has_lock k dep) (numbers_to k.tasks)
  -- whether a deployment is recorded
  pub recorded : (dep : List ℕ) → asks.is_recorded records dep ≡ is_recorded k dep
  -- whether the current goal of its deployment wants an instance
  pub wanted : (i : Inst) → asks.is_wanted records i ≡ is_in (k.goal i.dep) i
  -- whether a disk belongs to no instance any more, and all that do not
  pub orphaned : (d : ℕ) → asks.is_orphaned records d ≡ is_among eqb d k.orphans
  pub loose : loose records.orphans.places.entries ≡ k.orphans
  -- which instances of a goal change: all, or those that do not stand
  pub changed : (every : Bool) (wants : List GoalRow) →
      changed_of every wants (asks.rows_at records wants)
      ≡ map inst_of (filter (λ want. every || does_not_stand k want) wants)
  -- which recorded instances a goal does not want
  pub obsolete : (goal : Goal) → obsolete_of goal records.instances.by_inst.entries ≡ out_of_goal k goal.dep (Some goal)
  -- whether another deployment uses a link that a goal withdraws
  pub consumers : (goal : Goal) →
      is_none (first_consumer goal records.deployments.places.entries) ≡ withdraws_nothing k goal
