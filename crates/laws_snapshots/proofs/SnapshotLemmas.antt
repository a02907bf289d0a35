-- A snapshot of what is known is such as a store may begin with, in the older format too.
use Rattle.std.proofs.Common.{◌≡◌, ◌∙◌, ℕ, true, ◌&&◌, ◌||◌, ◌==◌, List, [], ◌∷◌, Option, Some, None}
use Rattle.std.proofs.Common.{ap, arith, map, refl, sym}
use Rattle.std.specs.Prelude.{◌+◌, ◌≤◌, count_by, is_none, is_some, nat_le, not}
use Rattle.std.specs.List.{list_all, list_any}
use Rattle.std.specs.Option.{option_map}
use Rattle.std.specs.Ordering.{nat_cmp}
use Rattle.std.proofs.lemmas.Bool.{and_from, and_parts, false≢true}
use Rattle.std.proofs.lemmas.Bool.Decides.{eqb_tells}
use Rattle.bosh_base.specs.Inst.{inst_cmp}
use Rattle.bosh_base.specs.declared.call.Call.{Call}
use Rattle.bosh_base.specs.declared.call.Call.TheVariants.{CreateVm}
use Rattle.bosh_base.specs.declared.inst.Inst.{Inst}
use Rattle.bosh_base.specs.declared.make.Make.{Make}
use Rattle.bosh_base.specs.declared.row.DiskRow.{DiskRow}
use Rattle.bosh_base.specs.declared.row.Doubt.{Doubt}
use Rattle.bosh_base.specs.declared.row.Row.{Row}
use Rattle.bosh_base.specs.declared.row.Vm.{Vm}
use Rattle.bosh_base.specs.declared.snapshot.CompileRow.{CompileRow}
use Rattle.bosh_base.specs.declared.snapshot.Orphan.{Orphan}
use Rattle.bosh_base.specs.declared.snapshot.Snapshot.{Snapshot}
use Rattle.bosh_base.specs.declared.task.TaskRow.{TaskRow}
use Rattle.bosh_history.specs.Fit.{plain, plain_row}
use Rattle.bosh_history.specs.Known.{Known, Slot, SlotName}
use Rattle.bosh_history.specs.Moments.{Moment}
use Rattle.bosh_history.specs.Orders.{slot_cmp}
use Rattle.bosh_history.specs.Snapshots.{compile_row, known_by, snapshot_of}
use Rattle.bosh_rows.specs.CallOf.{is_doubt_on_machine}
use Rattle.bosh_rows.specs.Disks.{is_active}
use Rattle.bosh_rows.specs.SoundSnapshot.{are_distinct, are_in_order, are_numbered, has_lock, have_locks_of_their_own}
use Rattle.bosh_rows.specs.SoundSnapshot.{is_built_before, is_compile_row_before, is_listed_well, is_orphan_before}
use Rattle.bosh_rows.specs.SoundSnapshot.{is_row_before, is_sound_machine, is_sound_row, is_sound_snapshot}
use Rattle.bosh_rows.specs.SoundSnapshot.{same_built_key, same_deployment, same_disk}
use Rattle.laws_facts.specs.KnownFacts.{KnownFacts}
use Rattle.laws_row_facts.specs.Words.{are_ascending, where_any}
use Rattle.laws_rows.specs.SoundDisks as sound
use Rattle.laws_slots.specs.Slots.{has_shape, is_creation_of, is_shaped_by}
use Rattle.laws_runs.proofs.RestLemmas.{Outlasts}
use Rattle.laws_runs.proofs.SnapshotLemmas.{snapshot_outlasts}
use Rattle.laws_snapshots.proofs.ListedLemmas.{ordered_named}
use Rattle.laws_snapshots.proofs.TaskLemmas.{locks_apart}
use Rattle.laws_stands_snapshots.proofs.CanReadLemmas.{all_mapped, all_recorded, deployments_apart, tasks_numbered}

-- ---- one row, and one compile machine

-- no disk stands twice, told by numbers or by rows
disks_apart : (disks : List DiskRow) → are_distinct same_disk disks ≡ sound.are_distinct disks
disks_apart [] = refl
disks_apart (d ∷ disks) = λ i. not (any_disk d disks i) && disks_apart disks i
  where
    any_disk : (d : DiskRow) (disks : List DiskRow)
        → list_any (same_disk d) disks ≡ list_any (λ (it : DiskRow). it.disk == d.disk) disks
    any_disk d [] = refl
    any_disk d (it ∷ disks) = λ i. flipped d.disk it.disk i || any_disk d disks i
      where
        flipped : (a b : ℕ) → (a == b) ≡ (b == a)
        flipped a b = grind (arith, eqb_tells a b, eqb_tells b a)

-- a creation is no call on a machine
created : (make : Make) (n : ℕ) (call : Call) → is_creation_of make call ≡ true
    → not (is_doubt_on_machine (Some (record { n = n; call = call }))) ≡ true
created make n (CreateVm other disks) is = refl
created make n call is = absurd (false≢true is)

-- a compile machine of such a shape is there, or in doubt of its creation
shaped : (make : Make) (vm : Option Vm) (doubt : Option Doubt) → is_shaped_by make vm doubt ≡ true
    → (is_some vm || (is_some doubt && not (is_doubt_on_machine doubt))) ≡ true
shaped make (Some vm) doubt is = refl
shaped make None (Some d) is = created make d.n d.call is
shaped make None None is = absurd (false≢true is)

-- ---- what is known

module _ (m : Moment) (h : KnownFacts m) where
  abbrev k : Known
  k = m.known

  -- a snapshot lists just the names that are listed
  lasts : Outlasts k (known_by (snapshot_of k))
  lasts = snapshot_outlasts m h.lists

  -- instances

  rows_in_order : are_in_order is_row_before (snapshot_of k).rows ≡ true
  rows_in_order =
      ordered_named inst_cmp (λ (it : Row). it.inst) (snapshot_of k).rows
      ∙ ap (are_ascending inst_cmp) lasts.instances
      ∙ h.lists.instances_in_order

  -- compile machines

  machines_in_order : are_in_order is_compile_row_before (snapshot_of k).compile_rows ≡ true
  machines_in_order =
      ordered_named slot_cmp (λ (it : CompileRow). record { task = it.task; slot = it.slot }) (snapshot_of k).compile_rows
      ∙ ap (are_ascending slot_cmp) lasts.machines
      ∙ h.lists.machines_in_order

  abbrev slot_with : SlotName → Slot → CompileRow
  slot_with name it =
      record { task = name.task; slot = name.slot; dep = it.dep; make = it.make; vm = it.vm; doubt = it.doubt }

  machine_sound : (name : SlotName) (r : CompileRow) → compile_row k name ≡ Some r → is_sound_machine r ≡ true
  machine_sound name r is = by (k.slot name.task name.slot) is (h.shapes name.task name.slot)
    where
      by : (slot : Option Slot) → option_map (slot_with name) slot ≡ Some r → where_any has_shape slot ≡ true
          → is_sound_machine r ≡ true
      by (Some it) is shape =
          let e : slot_with name it ≡ r = cc in
          ap is_sound_machine (sym e) ∙ shaped it.make it.vm it.doubt shape
      by None is shape = absurd cc

  -- orphaned disks

  orphans_in_order : are_in_order is_orphan_before (snapshot_of k).orphans ≡ true
  orphans_in_order =
      ordered_named nat_cmp (λ (it : Orphan). it.disk) (snapshot_of k).orphans
      ∙ ap (are_ascending nat_cmp) lasts.orphans
      ∙ h.lists.orphans_in_order

  -- all

  row_sound : (row : Row) → sound.are_sound row.disks ≡ true
      → (is_some row.vm || (not row.lost && not (is_doubt_on_machine row.doubt))) ≡ true → is_sound_row row ≡ true
  row_sound row disks machine =
      let (apart, one) = and_parts (sound.are_distinct row.disks) (sound.has_one_active row.disks) disks in
      and_from (is_some row.vm || (not row.lost && not (is_doubt_on_machine row.doubt)))
      (are_distinct same_disk row.disks && nat_le (count_by is_active row.disks) 1) machine
      (and_from (are_distinct same_disk row.disks) (nat_le (count_by is_active row.disks) 1)
      (disks_apart row.disks ∙ apart) one)

  pub snapshot_sound : ((i : Inst) → sound.are_sound (k.row i).disks ≡ true) → are_in_order is_built_before k.built ≡ true
      → are_distinct same_built_key k.built ≡ true → is_sound_snapshot (snapshot_of k) ≡ true
  snapshot_sound disks order apart =
      and_from (is_listed_well (snapshot_of k)) _ listed_well
      (and_from (list_all is_sound_row (snapshot_of k).rows) _
      (all_mapped is_sound_row k.row (λ inst. row_sound (k.row inst) (disks inst) (h.machines inst)) k.instances)
      (and_from (list_all is_sound_machine (snapshot_of k).compile_rows) _
      (all_recorded is_sound_machine (compile_row k) machine_sound k.machines)
      (and_from (are_numbered 0 (snapshot_of k).tasks) _ (tasks_numbered k k.tasks)
      (locks_apart k (λ t other. (h.tasks t).another_lock other) k.tasks (let e : k.tasks ≤ k.tasks = omega arith in e)))))
    where
      listed_well : is_listed_well (snapshot_of k) ≡ true
      listed_well =
          and_from (are_distinct same_deployment (snapshot_of k).deployments) _ (deployments_apart m h)
          (and_from (are_in_order is_row_before (snapshot_of k).rows) _ rows_in_order
          (and_from (are_in_order is_compile_row_before (snapshot_of k).compile_rows) _ machines_in_order
          (and_from (are_in_order is_orphan_before (snapshot_of k).orphans) _ orphans_in_order
          (and_from (are_in_order is_built_before k.built) (are_distinct same_built_key k.built) order apart))))

-- ---- the older format

pub plain_numbered : (last : ℕ) (rows : List TaskRow) → are_numbered last (map plain_row rows) ≡ are_numbered last rows
plain_numbered last [] = refl
plain_numbered last (row ∷ rows) = ap (λ b. (row.task == last + 1) && b) (plain_numbered row.task rows)

plain_locks : (rows : List TaskRow) → have_locks_of_their_own (map plain_row rows) ≡ have_locks_of_their_own rows
plain_locks [] = refl
plain_locks (row ∷ rows) = λ i. not (is_none row.end && any_lock row.dep rows i) && plain_locks rows i
  where
    any_lock : (dep : Option (List ℕ)) (rows : List TaskRow)
        → list_any (has_lock dep) (map plain_row rows) ≡ list_any (has_lock dep) rows
    any_lock dep [] = refl
    any_lock dep (other ∷ rows) = ap (λ b. has_lock dep other || b) (any_lock dep rows)

-- the sources of tasks and the counts of their calls make no difference
pub plain_sound : (s : Snapshot) → is_sound_snapshot (plain s) ≡ is_sound_snapshot s
plain_sound s =
    λ i. is_listed_well s
    && (list_all is_sound_row s.rows
    && (list_all is_sound_machine s.compile_rows && (plain_numbered 0 s.tasks i && plain_locks s.tasks i)))
