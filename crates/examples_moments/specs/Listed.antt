-- Snapshots, and whether a store may begin with them.
use Rattle.std.specs.Prelude.{◌≡◌, ℕ, Bool, codes, Some, None, List, []}
use Rattle.bosh_base.specs.declared.key.Key.{Key}
use Rattle.bosh_base.specs.declared.row.Row.{Row}
use Rattle.bosh_base.specs.declared.snapshot.BuiltKey.{BuiltKey}
use Rattle.bosh_base.specs.declared.snapshot.CompileRow.{CompileRow}
use Rattle.bosh_base.specs.declared.snapshot.DepRow.{DepRow}
use Rattle.bosh_base.specs.declared.snapshot.Orphan.{Orphan}
use Rattle.bosh_base.specs.declared.snapshot.Snapshot.{Snapshot}
use Rattle.bosh_history.specs.Known.{nothing_known}
use Rattle.bosh_history.specs.Moments.{Moment}
use Rattle.bosh_history.specs.Snapshots.{snapshot_of}
use Rattle.examples_histories.specs.Scenes.{Builder, History}
use Rattle.examples_histories.specs.Values.{digest, disk, goal, key_p, plain, web, z1}
use Rattle.examples_histories.specs.Verdicts.{after}
use Rattle.bosh_rows.specs.SoundSnapshot.{is_sound_snapshot}

abbrev pub IsSoundSnapshot : Snapshot → Bool → Type 0
IsSoundSnapshot s is = is_sound_snapshot s ≡ is

-- what a history leaves after so many moves
abbrev pub LeavesSound : Moment → ℕ → History → Bool → Type 0
LeavesSound m k history is =
    (built : Builder) → is_sound_snapshot (snapshot_of (after m k (history built)).known) ≡ is

abbrev pub nothing : Snapshot
nothing = snapshot_of nothing_known

abbrev pub with_rows : List Row → Snapshot
with_rows rows = record nothing { rows = rows }

abbrev pub compile_row : ℕ → ℕ → CompileRow
compile_row task slot = record {
  task = task;
  slot = slot;
  dep = codes "dep";
  make = plain z1 10;
  vm = Some (record { vm = 1; agent = 1 });
  doubt = None;
}

abbrev pub with_machines : List CompileRow → Snapshot
with_machines rows = record nothing { compile_rows = rows }

abbrev pub orphan : ℕ → Orphan
orphan number = record { disk = number; want = disk 10; inst = web 0; doubt = None }

abbrev pub with_orphans : List Orphan → Snapshot
with_orphans orphans = record nothing { orphans = orphans }

abbrev pub built_key : List ℕ → Key → BuiltKey
built_key name key = record { name = name; key = key; digest = digest 9 }

abbrev pub with_keys : List BuiltKey → Snapshot
with_keys keys = record nothing { built_keys = keys }

abbrev pub other_key : Key
other_key = record key_p { fingerprint = digest 2 }

abbrev pub dep_row : List ℕ → DepRow
dep_row dep = record { dep = dep; goal = goal dep [] [] [] [] [] []; shared = [] }

abbrev pub with_deployments : List DepRow → Snapshot
with_deployments rows = record nothing { deployments = rows }
