-- The tasks that open in worked histories.
use Rattle.std.specs.Prelude.{ℕ, [], List, codes, Some}
use Rattle.bosh_base.specs.declared.goal.Goal.{Goal}
use Rattle.bosh_base.specs.declared.inst.Inst.{Inst}
use Rattle.bosh_base.specs.declared.task.TaskKind.TheVariants as kinds
use Rattle.bosh_due.specs.Outcomes.{Outcome}
use Rattle.bosh_due.specs.Outcomes.Outcome.{Opens}
use Rattle.examples_histories.specs.Scenes.{sourced}

-- a deploy that changes these instances
abbrev pub deploys : ℕ → Goal → List Inst → Outcome
deploys task goal changed =
    Opens
    (record {
      task = task;
      kind = kinds.Deploy;
      dep = Some (codes "dep");
      goal = Some goal;
      changed = changed;
      obsolete = [];
      disks = [];
      source = sourced;
    })
