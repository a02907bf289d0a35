-- What a call names, by what it is a call of: a row, a compile machine, or an orphaned disk.
use Rattle.std.proofs.Common.{◌≡◌, ◌∙◌, ℕ, Bool, true, false, Option, Some, None, List, [], ◌∷◌}
use Rattle.std.proofs.Common.{ap, refl, sym}
use Rattle.std.specs.List.{list_all}
use Rattle.std.specs.Option.{option_map}
use Rattle.std.proofs.lemmas.Bool.{and_from, and_parts, eq-eqb, eqb-true, false≢true}
use Rattle.bosh_base.specs.Cloud.{disk_creation, is_disk_there, vm_creation}
use Rattle.bosh_base.specs.declared.call.Call.{Call}
use Rattle.bosh_base.specs.declared.call.Call.TheVariants as calls
use Rattle.bosh_base.specs.declared.entry.Effect as effect
use Rattle.bosh_base.specs.declared.entry.Entry.{Entry}
use Rattle.bosh_base.specs.declared.goal.GoalRow.{GoalRow}
use Rattle.bosh_base.specs.declared.make.Make.{Make}
use Rattle.bosh_base.specs.declared.owner.Owner.{Owner}
use Rattle.bosh_base.specs.declared.owner.Owner.TheVariants.{Instance}
use Rattle.bosh_base.specs.declared.row.DiskRow.{DiskRow}
use Rattle.bosh_base.specs.declared.row.Row.{Row}
use Rattle.bosh_base.specs.declared.row.Vm.{Vm}
use Rattle.bosh_history.specs.Known.{Slot}
use Rattle.bosh_rows.specs.After.{leaves_doubt}
use Rattle.bosh_rows.specs.CallOf.{next_call}
use Rattle.bosh_rows.specs.Same.{same_owner}
use Rattle.bosh_rows.specs.Tied.{is_disk_kept, is_made, is_made_for, was_made, was_provided}
use Rattle.laws_answered_rows.proofs.OwnLemmas.{created_parts, same_instance}
use Rattle.laws_cloud.proofs.DiskLemmas.{recorded_in}
use Rattle.laws_effects.specs.Holders.{JoinsBy, disk_owner, vm_owner}
use Rattle.laws_effects.specs.Orderly.{vms_named_by}
use Rattle.laws_facts.specs.OpenCalls.{fits_slot, is_on_orphan}
use Rattle.laws_kept_facts.proofs.CallCases.{by_all}
use Rattle.laws_row_facts.specs.Calls.{row_before}
use Rattle.laws_row_facts.specs.Rows.{RowFacts}
use Rattle.laws_row_frames.specs.Others.{is_owned_by}
use Rattle.laws_rows.proofs.ListLemmas.{IsIn, all_in}
use Rattle.laws_rows.proofs.StepCases.{Cases}
use Rattle.laws_rows.specs.Rightful.{fits, is_machine}
use Rattle.laws_rows.specs.SoundDisks.{is_recorded}

-- ---- calls of a row

-- one in doubt of which the row is
pub fits_names : (row : Row) (call : Call) → fits row call ≡ true → list_all (is_machine row.vm) (vms_named_by call) ≡ true
fits_names row (calls.DeleteVm v) is = and_from (is_machine row.vm v) true is refl
fits_names row (calls.CreateDisk want v) is = and_from (is_machine row.vm v) true is refl
fits_names row (calls.AttachDisk v d) is = and_from (is_machine row.vm v) true (and_parts (is_machine row.vm v) _ is).0 refl
fits_names row (calls.DetachDisk v d) is = and_from (is_machine row.vm v) true (and_parts (is_machine row.vm v) _ is).0 refl
fits_names row (calls.Apply v spec) is = and_from (is_machine row.vm v) true is refl
fits_names row (calls.Start v) is = and_from (is_machine row.vm v) true is refl
fits_names row (calls.Drain v) is = and_from (is_machine row.vm v) true is refl
fits_names row (calls.Stop v) is = and_from (is_machine row.vm v) true is refl
fits_names row (calls.MountDisk v d) is = and_from (is_machine row.vm v) true (and_parts (is_machine row.vm v) _ is).0 refl
fits_names row (calls.UnmountDisk v d) is = and_from (is_machine row.vm v) true (and_parts (is_machine row.vm v) _ is).0 refl
fits_names row (calls.MigrateDisk v from to) is = absurd (false≢true is)
fits_names row call is = refl

-- a migration is on the machine of the row
abbrev pub MigratesOwn : Row → Call → Type 0
MigratesOwn row (calls.MigrateDisk v from to) = is_machine row.vm v ≡ true
MigratesOwn row call = Unit {0}

pub migrates_own : (want : Option GoalRow) (row : Row) (call : Call) → next_call want row ≡ Some call
    → MigratesOwn row call
migrates_own want row call next =
    by_all (MigratesOwn row) want row
    (record {
      known = λ found known. known_own;
      deletes = λ it lost has. tt;
      there = λ it m v has doubts. tt;
      finds_vm = λ m make hint found doubts. tt;
      finds_disk = λ m wanted v doubts. tt;
      lists = λ it m v x found has doubts. tt;
      shows = λ it m v x found has doubts. tt;
      tells = λ it m c found has doubts state. tt;
    }) call next
  where
    known_own : Cases (MigratesOwn row) want row
    known_own = record {
      remove_drain = λ it has away runs off. tt;
      remove_stop = λ it has away runs off. tt;
      remove_unmount = λ it d has away rests first. tt;
      remove_detach = λ it d has away rests none first. tt;
      remove_delete = λ it has away rests none too. tt;
      create = λ w wants none here. tt;
      tend_drain = λ w it wants has stays runs halts off. tt;
      tend_stop = λ w it wants has stays runs halts off. tt;
      clear_unmount = λ w it d wants tended first. tt;
      clear_detach = λ w it d wants tended none first. tt;
      release_unmount = λ w it d wants cleared nothing first. tt;
      release_detach = λ w it d wants cleared nothing none first. tt;
      provide = λ w it wanted wants cleared disk none. tt;
      place_attach = λ w it wanted old wants cleared disk was off. tt;
      place_mount = λ w it wanted old wants cleared disk was on off. tt;
      replace_create = λ w it wanted old wants replaced none. tt;
      replace_attach = λ w it wanted old new wants replaced comes off. tt;
      replace_mount = λ w it wanted old new wants replaced comes on off. tt;
      replace_migrate = λ w it wanted old new wants replaced comes on up.
          (λ j. is_machine (replaced.cleared.tended.has j) it.vm) ∙ eq-eqb it.vm it.vm refl;
      apply = λ w it wants cleared differs. tt;
      start = λ w it wants cleared disks spec runs rests. tt;
    }

pub all_each : {X : Type 0} (p q : X → Bool) → ((x : X) → p x ≡ true → q x ≡ true) → (xs : List X)
    → list_all p xs ≡ true → list_all q xs ≡ true
all_each p q goes [] all = refl
all_each p q goes (x ∷ xs) all =
    let parts : (p x ≡ true) × (list_all p xs ≡ true) = and_parts (p x) (list_all p xs) all in
    and_from (q x) (list_all q xs) (goes x parts.0) (all_each p q goes xs parts.1)

-- the machine that is made as it is recorded is of its owner
pub made_for : (effects : List Entry) (owner : Owner) (make : Option Make) (vm : Option Vm)
    → ((it : Vm) → vm ≡ Some it → was_made owner it.agent make (vm_creation effects it.vm) ≡ true) → (v : ℕ)
    → is_machine vm v ≡ true → is_owned_by effects owner v ≡ true
made_for effects owner make (Some it) made v is =
    ap (is_owned_by effects owner) (sym (eqb-true it.vm v is)) ∙ by (vm_creation effects it.vm) (made it refl)
  where
    by : (o : Option effect.Effect) → was_made owner it.agent make o ≡ true → is_made_for owner o ≡ true
    by (Some e) was = (and_parts (same_owner e.owner owner) _ was).0
    by None was = was
made_for effects owner make None made v is = absurd (false≢true is)

module _ (effects : List Entry) (row : Row) (facts : RowFacts effects row) where
  pub owned : (v : ℕ) → is_machine row.vm v ≡ true → is_owned_by effects (Instance row.inst) v ≡ true
  owned =
      made_for effects (Instance row.inst) row.make row.vm
      (λ it has. sym (λ j. is_made effects row (has j)) ∙ (created_parts effects row facts.created).made)

  -- a disk of the row was made for its instance
  provided : (d : ℕ) → is_recorded row.disks d ≡ true → disk_owner effects d ≡ Some (Instance row.inst)
  provided d has =
      let it : (x : DiskRow) × (IsIn x row.disks) × (x.disk ≡ d) = recorded_in row.disks d has in
      ap (disk_owner effects) (sym it.2)
      ∙ by (disk_creation effects it.0.disk) it.0
      (and_parts (is_disk_there effects it.0.disk) _
      (all_in (is_disk_kept effects row) it.0 row.disks (created_parts effects row facts.created).kept it.1)).1
    where
      by : (o : Option effect.Effect) (x : DiskRow) → was_provided (Instance row.inst) x.tag x.want o ≡ true
          → option_map (λ (e : effect.Effect). e.owner) o ≡ Some (Instance row.inst)
      by (Some e) x was = ap Some (same_instance e.owner row.inst (and_parts (same_owner e.owner (Instance row.inst)) _ was).0)
      by None x was = absurd (false≢true was)

  vm_of : (v : ℕ) → is_machine row.vm v ≡ true → vm_owner effects v ≡ Some (Instance row.inst)
  vm_of v is = by (vm_creation effects v) (owned v is)
    where
      by : (o : Option effect.Effect) → is_made_for (Instance row.inst) o ≡ true
          → option_map (λ (e : effect.Effect). e.owner) o ≡ Some (Instance row.inst)
      by (Some e) was = ap Some (same_instance e.owner row.inst was)
      by None was = absurd (false≢true was)

  pub fits_joins : (call : Call) → fits row call ≡ true → JoinsBy effects call
  fits_joins (calls.AttachDisk v d) is =
      let parts : (is_machine row.vm v ≡ true) × _ = and_parts (is_machine row.vm v) _ is in
      vm_of v parts.0 ∙ sym (provided d (and_parts (is_recorded row.disks d) _ parts.1).0)
  fits_joins call is = tt

-- ---- calls that leave no doubt

pub migrates_before : (call : Call) (row : Row) → MigratesOwn (row_before call row) call → MigratesOwn row call
migrates_before (calls.MigrateDisk v from to) row is = is
migrates_before call row is = tt

pub quiet_names : (row : Row) (call : Call) → leaves_doubt call ≡ false → MigratesOwn row call
    → list_all (is_machine row.vm) (vms_named_by call) ≡ true
quiet_names row (calls.DeleteVm v) none own = absurd (false≢true (sym none))
quiet_names row (calls.CreateDisk want v) none own = absurd (false≢true (sym none))
quiet_names row (calls.AttachDisk v d) none own = absurd (false≢true (sym none))
quiet_names row (calls.DetachDisk v d) none own = absurd (false≢true (sym none))
quiet_names row (calls.Apply v spec) none own = absurd (false≢true (sym none))
quiet_names row (calls.Start v) none own = absurd (false≢true (sym none))
quiet_names row (calls.Drain v) none own = absurd (false≢true (sym none))
quiet_names row (calls.Stop v) none own = absurd (false≢true (sym none))
quiet_names row (calls.MountDisk v d) none own = absurd (false≢true (sym none))
quiet_names row (calls.UnmountDisk v d) none own = absurd (false≢true (sym none))
quiet_names row (calls.MigrateDisk v from to) none own = and_from (is_machine row.vm v) true own refl
quiet_names row call none own = refl

pub quiet_joins : (effects : List Entry) (call : Call) → leaves_doubt call ≡ false → JoinsBy effects call
quiet_joins effects (calls.AttachDisk v d) none = absurd (false≢true (sym none))
quiet_joins effects call none = tt

-- ---- calls of others

pub slot_names : (n : ℕ) (call : Call) (it : Slot) → fits_slot n call it ≡ true
    → list_all (is_machine it.vm) (vms_named_by call) ≡ true
slot_names n (calls.CreateVm make disks) it is = refl
slot_names n (calls.DeleteVm v) it is = and_from (is_machine it.vm v) true (and_parts (is_machine it.vm v) _ is).0 refl
slot_names n (calls.FindVm agent) it is = refl
slot_names n (calls.HasVm v) it is = refl
slot_names n (calls.CompilePackage v work deps) it is = refl
slot_names n call it is = absurd (false≢true is)

pub slot_joins : (effects : List Entry) (n : ℕ) (call : Call) (it : Slot) → fits_slot n call it ≡ true
    → JoinsBy effects call
slot_joins effects n (calls.AttachDisk v d) it is = absurd (false≢true is)
slot_joins effects n call it is = tt

pub disk_names : (test : ℕ → Bool) (call : Call) (d : ℕ) → is_on_orphan call d ≡ true
    → list_all test (vms_named_by call) ≡ true
disk_names test (calls.DeleteDisk disk) d is = refl
disk_names test (calls.HasDisk disk) d is = refl
disk_names test call d is = absurd (false≢true is)

pub disk_joins : (effects : List Entry) (call : Call) (d : ℕ) → is_on_orphan call d ≡ true → JoinsBy effects call
disk_joins effects (calls.AttachDisk v x) d is = absurd (false≢true is)
disk_joins effects call d is = tt
