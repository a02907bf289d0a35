-- How each instance of a deployment is to stand: for every group in the order of the manifest, and for every index below
-- the number of its instances.
use Rattle.std.specs.Prelude.{ℕ, List, [], ◌∷◌, Result, Ok, Err, map, nat_le, sum_by, if◌then◌else◌}
use Rattle.bosh_base.specs.declared.goal.GoalRow.{GoalRow}
use Rattle.bosh_base.specs.declared.spec.Placed.{Placed}
use Rattle.bosh_base.specs.declared.view.View.{View}
use Rattle.bosh_files.specs.Files.{FiledJob, bytes_of, files}
use Rattle.bosh_files.specs.Gathered.{gather}
use Rattle.bosh_offers.specs.Sited.{Sited, gateway_addr}
use Rattle.bosh_offers.specs.Tied.{Offered, job_links}
use Rattle.bosh_wants.specs.Wants.{below}
use Rattle.bosh_wants.specs.Zones.{inst_of, zone_of}
use Rattle.bosh_manifest_names.specs.Answer.{◌>>=◌, with_fault}
use Rattle.bosh_manifest_names.specs.Used.{UsedGroup, UsedJob}
use Rattle.bosh_manifest_names.specs.declared.fault.GoalFault.{GoalFault}
use Rattle.bosh_manifest_names.specs.declared.fault.GoalFault.TheVariants.{Limit, Template}
use Rattle.bosh_instances.specs.Applied.{job_marks, package_marks}
use Rattle.bosh_instances.specs.Machines.{make_of, own_addrs, state_of}

-- what the rows of a deployment depend on beside its groups
pub record Scene : Type 0 where
  pub dep : List ℕ
  pub offered : Offered
  pub view : View
  -- a machine that was created by this call or an earlier one is made anew
  pub fresh_after : ℕ

-- what the templates of a job look up in any instance of its group
abbrev pub filed : Scene → List ℕ → UsedJob → FiledJob
filed scene group used = record {
  name = used.job.name;
  templates = used.spec.templates;
  env = record {
    dep = scene.dep;
    group = group;
    declared = used.spec.properties;
    given = used.job.properties;
    links = job_links scene.offered scene.dep group used;
  };
}

abbrev pub filed_jobs : Scene → UsedGroup → List FiledJob
filed_jobs scene used = map (filed scene used.group.name) used.jobs

abbrev pub zone : Scene → Sited → ℕ → List ℕ
zone scene group index = zone_of scene.dep scene.view.rows group.used.group index

abbrev pub goal_row : Scene → Sited → ℕ → List Placed → GoalRow
goal_row scene group index placed = record {
  inst = inst_of scene.dep group.used.group index;
  make = make_of group.used (zone scene group index) (own_addrs group index);
  spec = record { jobs = job_marks group.used.jobs; packages = package_marks group.used.jobs; files = placed };
  disk = group.used.disk;
  state = state_of scene.view.goal (inst_of scene.dep group.used.group index);
  fresh_after = scene.fresh_after;
}

abbrev pub row_with : Scene → Sited → ℕ → Result (List Placed) GoalFault → Result (List GoalRow) GoalFault
row_with scene group index (Ok placed) = Ok (goal_row scene group index placed ∷ [])
row_with scene group index (Err fault) = Err fault

-- the files of an instance
abbrev pub placed : Scene → Sited → List FiledJob → ℕ → Result (List Placed) GoalFault
placed scene group jobs index = with_fault Template
    (files index (zone scene group index) (gateway_addr group.used.group (own_addrs group index)) jobs)

abbrev pub instance_row : Scene → Sited → List FiledJob → ℕ → Result (List GoalRow) GoalFault
instance_row scene group jobs index = row_with scene group index (placed scene group jobs index)

abbrev pub group_rows : Scene → Sited → Result (List GoalRow) GoalFault
group_rows scene group =
    gather (instance_row scene group (filed_jobs scene group.used)) (below group.used.group.instances)

-- the bytes of the files of an instance
abbrev pub row_bytes : GoalRow → ℕ
row_bytes row = sum_by bytes_of row.spec.files

-- the files of a deployment have together at most 1,048,576 bytes
abbrev pub bounded_rows : List GoalRow → Result (List GoalRow) GoalFault
bounded_rows rows = if nat_le (sum_by row_bytes rows) 1048576 then Ok rows else Err Limit

abbrev pub rows : Scene → List Sited → Result (List GoalRow) GoalFault
rows scene groups = gather (group_rows scene) groups >>= bounded_rows
