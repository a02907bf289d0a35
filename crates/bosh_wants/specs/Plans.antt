-- How the groups of a deployment are updated (bosh.io, "Deployment manifest": `update`, with `serial`).
use Rattle.std.specs.Prelude.{ℕ, ◌+◌, ◌-◌, Bool, false, ◌&&◌, not, List, [], ◌∷◌, if◌then◌else◌}
use Rattle.bosh_base.specs.declared.goal.GroupPlan.{GroupPlan}
use Rattle.bosh_manifest.specs.declared.group.Group.{Group}
use Rattle.bosh_roll.specs.Limit.{limit_of}

-- whole numbers, or shares of the instances; at least one instance may be in flight
abbrev pub plan_of : ℕ → Group → GroupPlan
plan_of stage group = record {
  name = group.name;
  canaries = limit_of group.update.canaries group.instances 0;
  limit = limit_of group.update.limit group.instances 1;
  stage = stage;
}

abbrev pub is_concurrent : Group → Bool
is_concurrent group = not group.update.serial

-- the stage of a group, where there are so many stages so far: that of the group before it where both are concurrent,
-- and else the next
abbrev pub stage_of : ℕ → Bool → Group → ℕ
stage_of count before group = if before && is_concurrent group then count - 1 else count

abbrev pub plans_after : ℕ → Bool → List Group → List GroupPlan
plans_after count before [] = []
plans_after count before (group ∷ groups) =
    plan_of (stage_of count before group) group
    ∷ plans_after (stage_of count before group + 1) (is_concurrent group) groups

-- stages are counted from 0
abbrev pub plans : List Group → List GroupPlan
plans = plans_after 0 false
