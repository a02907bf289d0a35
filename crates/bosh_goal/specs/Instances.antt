-- The instances of a deployment: for every group in the order of the manifest, each index below their number.
use Rattle.std.specs.Prelude.{◌≡◌, ℕ, List, map}
use Rattle.std.specs.List.{flat_map}
use Rattle.bosh_base.specs.declared.goal.Goal.{Goal}
use Rattle.bosh_base.specs.declared.goal.GoalRow.{GoalRow}
use Rattle.bosh_base.specs.declared.inst.Inst.{Inst}
use Rattle.bosh_manifest.specs.declared.group.Group.{Group}
use Rattle.bosh_manifest.specs.declared.manifest.Contents.{Contents}
use Rattle.bosh_wants.specs.Wants.{below}
use Rattle.bosh_wants.specs.Zones.{inst_of}

abbrev pub group_instances : List ℕ → Group → List Inst
group_instances dep group = map (inst_of dep group) (below group.instances)

abbrev pub instances : Contents → List Inst
instances manifest = flat_map (group_instances manifest.name) manifest.groups

abbrev pub row_inst : GoalRow → Inst
row_inst row = row.inst

-- a goal has a row for each of them, in their order, and no other
abbrev pub HasInstances : Contents → Goal → Type 0
HasInstances manifest goal = map row_inst goal.rows ≡ instances manifest
