-- How snapshots are spelled.
use Rattle.std.specs.Prelude.{ℕ, Bool, List, ◌&&◌, [], ◌++◌}
use Rattle.bosh_base.specs.Name.{is_name}
use Rattle.bosh_base.specs.declared.snapshot.DepRow.{DepRow}
use Rattle.bosh_base.specs.declared.snapshot.CompileRow.{CompileRow}
use Rattle.bosh_base.specs.declared.snapshot.Orphan.{Orphan}
use Rattle.bosh_base.specs.declared.snapshot.BuiltKey.{BuiltKey}
use Rattle.bosh_base.specs.declared.snapshot.Snapshot.{Snapshot}
use Rattle.bosh_entry.specs.declared.format.Format.{Format}
use Rattle.bosh_entry.specs.Reading.{Reader, making, ◌with◌}
use Rattle.bosh_entry.specs.Number.{number, is_number, number_at, small_at, is_small}
use Rattle.bosh_entry.specs.List.{text, is_text, text_at, list, is_list, list_at}
use Rattle.bosh_entry.specs.Plain.{name_at, digest, is_digest, digest_at}
use Rattle.bosh_entry.specs.Choice.{option, is_option, option_at}
use Rattle.bosh_entry.specs.Later.{later, is_later, later_at, is_nil}
use Rattle.bosh_entry.specs.Inst.{inst, is_inst, inst_at}
use Rattle.bosh_entry.specs.DiskWant.{disk_want, is_disk_want, disk_want_at}
use Rattle.bosh_entry.specs.Make.{make, is_make, make_at}
use Rattle.bosh_entry.specs.Key.{key, is_key, key_at}
use Rattle.bosh_entry.specs.Stemcell.{stemcell, is_stemcell, stemcell_at}
use Rattle.bosh_entry.specs.Release.{release, is_release, release_at}
use Rattle.bosh_entry.specs.Offer.{offer, is_offer, offer_at}
use Rattle.bosh_entry.specs.Goal.{goal, is_goal, goal_at}
use Rattle.bosh_entry.specs.Task.{task_row, is_task_row, task_row_at}
use Rattle.bosh_entry.specs.Row.{vm, is_vm, vm_at, doubt, is_doubt, doubt_at, row, is_row, row_at}

-- what is recorded of a deployment; the older format has nothing shared
unfoldable pub dep_row : Format → DepRow → List ℕ
dep_row format d = text d.dep ++ goal format d.goal ++ later (list offer) format d.shared

unfoldable pub is_dep_row : Format → DepRow → Bool
is_dep_row format d =
    is_name d.dep
    && is_goal format d.goal
    && is_later is_nil (is_list is_offer) format d.shared

unfoldable pub dep_row_at : Format → Reader DepRow
dep_row_at format =
    making (λ dep goal shared. record {
      dep = dep;
      goal = goal;
      shared = shared;
    })
    with name_at
    with goal_at format
    with later_at [] (list_at offer_at) format

-- what is recorded of a compile machine
unfoldable pub compile_row : CompileRow → List ℕ
compile_row c =
    number c.task
    ++ number c.slot
    ++ text c.dep
    ++ make c.make
    ++ option vm c.vm
    ++ option doubt c.doubt

unfoldable pub is_compile_row : CompileRow → Bool
is_compile_row c =
    is_number c.task
    && is_small c.slot
    && is_name c.dep
    && is_make c.make
    && is_option is_vm c.vm
    && is_option is_doubt c.doubt

unfoldable pub compile_row_at : Reader CompileRow
compile_row_at =
    making (λ task slot dep make vm doubt. record {
      task = task;
      slot = slot;
      dep = dep;
      make = make;
      vm = vm;
      doubt = doubt;
    })
    with number_at
    with small_at
    with name_at
    with make_at
    with option_at vm_at
    with option_at doubt_at

-- a disk that belongs to no instance any more
unfoldable pub orphan : Orphan → List ℕ
orphan o = number o.disk ++ disk_want o.want ++ inst o.inst ++ option doubt o.doubt

unfoldable pub is_orphan : Orphan → Bool
is_orphan o =
    is_number o.disk
    && is_disk_want o.want
    && is_inst o.inst
    && is_option is_doubt o.doubt

unfoldable pub orphan_at : Reader Orphan
orphan_at =
    making (λ disk want inst doubt. record {
      disk = disk;
      want = want;
      inst = inst;
      doubt = doubt;
    })
    with number_at
    with disk_want_at
    with inst_at
    with option_at doubt_at

-- a package that is compiled
unfoldable pub built_key : BuiltKey → List ℕ
built_key b = text b.name ++ key b.key ++ digest b.digest

unfoldable pub is_built_key : BuiltKey → Bool
is_built_key b = is_name b.name && is_key b.key && is_digest b.digest

unfoldable pub built_key_at : Reader BuiltKey
built_key_at =
    making (λ name key digest. record {
      name = name;
      key = key;
      digest = digest;
    })
    with name_at
    with key_at
    with digest_at

-- all that entries stand for
unfoldable pub snapshot : Format → Snapshot → List ℕ
snapshot format s =
    list release s.releases
    ++ list stemcell s.stemcells
    ++ option text s.config
    ++ list (dep_row format) s.deployments
    ++ list (row format) s.rows
    ++ list compile_row s.compile_rows
    ++ list orphan s.orphans
    ++ list built_key s.built_keys
    ++ list (task_row format) s.tasks
    ++ number s.last_call

unfoldable pub is_snapshot : Format → Snapshot → Bool
is_snapshot format s =
    is_list is_release s.releases
    && is_list is_stemcell s.stemcells
    && is_option is_text s.config
    && is_list (is_dep_row format) s.deployments
    && is_list (is_row format) s.rows
    && is_list is_compile_row s.compile_rows
    && is_list is_orphan s.orphans
    && is_list is_built_key s.built_keys
    && is_list (is_task_row format) s.tasks
    && is_number s.last_call

unfoldable pub snapshot_at : Format → Reader Snapshot
snapshot_at format =
    making (λ releases stemcells config deployments rows compile_rows orphans built_keys tasks last_call. record {
      releases = releases;
      stemcells = stemcells;
      config = config;
      deployments = deployments;
      rows = rows;
      compile_rows = compile_rows;
      orphans = orphans;
      built_keys = built_keys;
      tasks = tasks;
      last_call = last_call;
    })
    with list_at release_at
    with list_at stemcell_at
    with option_at text_at
    with list_at (dep_row_at format)
    with list_at (row_at format)
    with list_at compile_row_at
    with list_at orphan_at
    with list_at built_key_at
    with list_at (task_row_at format)
    with number_at
