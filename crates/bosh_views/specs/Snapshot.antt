-- All that is recorded, as one entry tells it.
use Rattle.std.specs.Prelude.{◌≡◌, ℕ, List, Option, IsPermutation, map}
use Rattle.std.specs.List.{filter_map}
use Rattle.std.specs.List.Sorted.{IsSorted}
use Rattle.bosh_base.specs.declared.inst.Inst.{Inst}
use Rattle.bosh_base.specs.declared.row.Row.{Row}
use Rattle.bosh_base.specs.declared.snapshot.CompileRow.{CompileRow}
use Rattle.bosh_base.specs.declared.snapshot.Orphan.{Orphan}
use Rattle.bosh_base.specs.declared.snapshot.Snapshot.{Snapshot}
use Rattle.bosh_rows.specs.SoundSnapshot.{built_cmp}
use Rattle.bosh_records.specs.Keys.{built_of}
use Rattle.bosh_records.specs.Table.{things}
use Rattle.bosh_records.specs.declared.instances.Instance.{Instance}
use Rattle.bosh_records.specs.declared.machines.Machine.{Machine}
use Rattle.bosh_work.specs.declared.part.MachineName.{MachineName}
use Rattle.bosh_records.specs.declared.orphans.LooseDisk.{LooseDisk}
use Rattle.bosh_records.specs.declared.records.Records.{Records}

-- what is recorded of instances, in their order
abbrev pub recorded_rows : List (Inst × Instance) → List Row
recorded_rows entries = filter_map (λ entry. entry.1.row) entries

-- the compile machines that are recorded, by task and slot
abbrev pub compile_rows : List (MachineName × Option Machine) → List CompileRow
compile_rows places = map (λ machine. machine.row) (things places)

-- the disks that belong to no instance, by number
abbrev pub loose_disks : List (ℕ × Option LooseDisk) → List Orphan
loose_disks places = map (λ loose. loose.orphan) (things places)

-- a snapshot tells all that is recorded, the compiled keys by name and key
pub record IsSnapshot (records : Records) (snapshot : Snapshot) : Type 0 where
  pub releases : snapshot.releases ≡ records.releases.items
  pub stemcells : snapshot.stemcells ≡ records.stemcells.items
  pub config : snapshot.config ≡ records.config
  pub deployments : snapshot.deployments ≡ things records.deployments.places.entries
  pub rows : snapshot.rows ≡ recorded_rows records.instances.by_inst.entries
  pub compile_rows : snapshot.compile_rows ≡ compile_rows records.machines.places.entries
  pub orphans : snapshot.orphans ≡ loose_disks records.orphans.places.entries
  pub built_keys : IsPermutation (built_of records.keys.by_key.entries) snapshot.built_keys
  pub order : IsSorted built_cmp snapshot.built_keys
  pub tasks : snapshot.tasks ≡ things records.tasks.places.entries
  pub last_call : snapshot.last_call ≡ records.last_call
