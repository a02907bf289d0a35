-- The call of the next step of a row, case by case: each rule of the step, with what it found.
use Rattle.std.proofs.Common.{◌≡◌, ℕ, Bool, true, false, Option, Some, None, [], ◌∷◌, refl, sym, ◌∙◌, ap, subst}
use Rattle.std.specs.Prelude.{◌&&◌, not, if◌then◌else◌}
use Rattle.std.specs.Option.{option_and_then, option_map}
use Rattle.std.proofs.lemmas.Bool.{and_parts, not-true}
use Rattle.std.proofs.lemmas.Option.{same_Some}
use Rattle.bosh_base.specs.Cloud.{when}
use Rattle.bosh_base.specs.declared.call.Call.{Call}
use Rattle.bosh_base.specs.declared.call.Call.TheVariants as calls
use Rattle.bosh_base.specs.declared.disk_want.DiskWant.{DiskWant}
use Rattle.bosh_base.specs.declared.goal.GoalRow.{GoalRow}
use Rattle.bosh_base.specs.declared.method.Method.TheVariants.{CreateVm, DeleteVm, CreateDisk, AttachDisk, DetachDisk, Apply, Start, Drain, Stop, MountDisk, UnmountDisk, MigrateDisk}
use Rattle.bosh_base.specs.declared.row.DiskRow.{DiskRow}
use Rattle.bosh_base.specs.declared.row.Row.{Row}
use Rattle.bosh_base.specs.declared.row.Vm as vm
use Rattle.bosh_rows.specs.CallOf.{call_of, next_call, on_both, on_machine}
use Rattle.bosh_rows.specs.Disks.{active, active_disks, coming, is_active, is_detached, is_right, is_running, is_spare, least}
use Rattle.bosh_rows.specs.NextStep.{applying, clearing, disk_step, first_of, has_to_go, has_to_stop, known_step, lost_step, machine_step, next_step, on, pausing, plain, providing, releasing, removal, replacing, spec_differs, starting, tending, with_disk}
use Rattle.bosh_rows.specs.declared.step.Step.{Step}

-- nobody wants the machine
abbrev pub goes : Option GoalRow → Row → vm.Vm → Bool
goes None row it = true
goes (Some want) row it = has_to_go want row it

abbrev pub least_of : (DiskRow → Bool) → Row → Option DiskRow
least_of test row = least test row.disks

abbrev pub is_mounted : DiskRow → Bool
is_mounted d = d.mounted

abbrev pub is_attached : DiskRow → Bool
is_attached d = d.attached

-- the disks that are let go of before anything is done with the active one
abbrev pub is_spare_mounted : GoalRow → Row → DiskRow → Bool
is_spare_mounted want row d = is_spare want.disk row.disks d && d.mounted

abbrev pub is_spare_attached : GoalRow → Row → DiskRow → Bool
is_spare_attached want row d = is_spare want.disk row.disks d && d.attached

-- the machine is the right one, and no running job sees what is done
pub record IsTended (want : GoalRow) (row : Row) (it : vm.Vm) : Type 0 where
  pub has : row.vm ≡ Some it
  pub stays : has_to_go want row it ≡ false
  pub rests : (row.running && has_to_stop want row) ≡ false

-- .. and its spare disks are let go of
pub record IsCleared (want : GoalRow) (row : Row) (it : vm.Vm) : Type 0 where
  pub tended : IsTended want row it
  pub unmounted : least_of (is_spare_mounted want row) row ≡ None
  pub detached : least_of (is_spare_attached want row) row ≡ None

-- .. and a disk is wanted, and the active one is not right, but at its place
pub record IsReplaced (want : GoalRow) (row : Row) (it : vm.Vm) (wanted : DiskWant) (old : DiskRow) : Type 0 where
  pub cleared : IsCleared want row it
  pub wants : want.disk ≡ Some wanted
  pub is_active : active row.disks ≡ Some old
  pub attached : old.attached ≡ true
  pub mounted : old.mounted ≡ true
  pub wrong : is_right wanted old ≡ false

-- what is to be shown of each call
pub record Cases (P : Call → Type 0) (want : Option GoalRow) (row : Row) : Type 0 where
  pub remove_drain :
      (it : vm.Vm) → row.vm ≡ Some it → goes want row it ≡ true → row.running ≡ true → row.drained ≡ false →
      P (calls.Drain it.vm)
  pub remove_stop :
      (it : vm.Vm) → row.vm ≡ Some it → goes want row it ≡ true → row.running ≡ true →
      (row.running && not row.drained) ≡ false → P (calls.Stop it.vm)
  pub remove_unmount :
      (it : vm.Vm) (d : DiskRow) → row.vm ≡ Some it → goes want row it ≡ true → row.running ≡ false →
      least_of is_mounted row ≡ Some d → P (calls.UnmountDisk it.vm d.disk)
  pub remove_detach :
      (it : vm.Vm) (d : DiskRow) → row.vm ≡ Some it → goes want row it ≡ true → row.running ≡ false →
      least_of is_mounted row ≡ None → least_of is_attached row ≡ Some d → P (calls.DetachDisk it.vm d.disk)
  pub remove_delete :
      (it : vm.Vm) → row.vm ≡ Some it → goes want row it ≡ true → row.running ≡ false →
      least_of is_mounted row ≡ None → least_of is_attached row ≡ None → P (calls.DeleteVm it.vm)
  pub create :
      (w : GoalRow) → want ≡ Some w → row.vm ≡ None → is_detached w.state ≡ false →
      P (calls.CreateVm w.make (active_disks row.disks))
  pub tend_drain :
      (w : GoalRow) (it : vm.Vm) → want ≡ Some w → row.vm ≡ Some it → has_to_go w row it ≡ false →
      row.running ≡ true → has_to_stop w row ≡ true → row.drained ≡ false → P (calls.Drain it.vm)
  pub tend_stop :
      (w : GoalRow) (it : vm.Vm) → want ≡ Some w → row.vm ≡ Some it → has_to_go w row it ≡ false →
      row.running ≡ true → has_to_stop w row ≡ true → row.drained ≡ true → P (calls.Stop it.vm)
  pub clear_unmount :
      (w : GoalRow) (it : vm.Vm) (d : DiskRow) → want ≡ Some w → IsTended w row it →
      least_of (is_spare_mounted w row) row ≡ Some d → P (calls.UnmountDisk it.vm d.disk)
  pub clear_detach :
      (w : GoalRow) (it : vm.Vm) (d : DiskRow) → want ≡ Some w → IsTended w row it →
      least_of (is_spare_mounted w row) row ≡ None → least_of (is_spare_attached w row) row ≡ Some d →
      P (calls.DetachDisk it.vm d.disk)
  pub release_unmount :
      (w : GoalRow) (it : vm.Vm) (d : DiskRow) → want ≡ Some w → IsCleared w row it → w.disk ≡ None →
      least_of (λ d. is_active d && d.mounted) row ≡ Some d → P (calls.UnmountDisk it.vm d.disk)
  pub release_detach :
      (w : GoalRow) (it : vm.Vm) (d : DiskRow) → want ≡ Some w → IsCleared w row it → w.disk ≡ None →
      least_of (λ d. is_active d && d.mounted) row ≡ None → least_of (λ d. is_active d && d.attached) row ≡ Some d →
      P (calls.DetachDisk it.vm d.disk)
  pub provide :
      (w : GoalRow) (it : vm.Vm) (wanted : DiskWant) → want ≡ Some w → IsCleared w row it → w.disk ≡ Some wanted →
      active row.disks ≡ None → P (calls.CreateDisk wanted it.vm)
  pub place_attach :
      (w : GoalRow) (it : vm.Vm) (wanted : DiskWant) (old : DiskRow) → want ≡ Some w → IsCleared w row it →
      w.disk ≡ Some wanted → active row.disks ≡ Some old → old.attached ≡ false →
      P (calls.AttachDisk it.vm old.disk)
  pub place_mount :
      (w : GoalRow) (it : vm.Vm) (wanted : DiskWant) (old : DiskRow) → want ≡ Some w → IsCleared w row it →
      w.disk ≡ Some wanted → active row.disks ≡ Some old → old.attached ≡ true → old.mounted ≡ false →
      P (calls.MountDisk it.vm old.disk)
  pub replace_create :
      (w : GoalRow) (it : vm.Vm) (wanted : DiskWant) (old : DiskRow) → want ≡ Some w →
      IsReplaced w row it wanted old → coming (Some wanted) row.disks ≡ None → P (calls.CreateDisk wanted it.vm)
  pub replace_attach :
      (w : GoalRow) (it : vm.Vm) (wanted : DiskWant) (old new : DiskRow) → want ≡ Some w →
      IsReplaced w row it wanted old → coming (Some wanted) row.disks ≡ Some new → new.attached ≡ false →
      P (calls.AttachDisk it.vm new.disk)
  pub replace_mount :
      (w : GoalRow) (it : vm.Vm) (wanted : DiskWant) (old new : DiskRow) → want ≡ Some w →
      IsReplaced w row it wanted old → coming (Some wanted) row.disks ≡ Some new → new.attached ≡ true →
      new.mounted ≡ false → P (calls.MountDisk it.vm new.disk)
  pub replace_migrate :
      (w : GoalRow) (it : vm.Vm) (wanted : DiskWant) (old new : DiskRow) → want ≡ Some w →
      IsReplaced w row it wanted old → coming (Some wanted) row.disks ≡ Some new → new.attached ≡ true →
      new.mounted ≡ true → P (calls.MigrateDisk it.vm old.disk new.disk)
  pub apply :
      (w : GoalRow) (it : vm.Vm) → want ≡ Some w → IsCleared w row it → spec_differs w row ≡ true →
      P (calls.Apply it.vm w.spec)
  pub start :
      (w : GoalRow) (it : vm.Vm) → want ≡ Some w → IsCleared w row it → disk_step w row w.disk ≡ None →
      spec_differs w row ≡ false → is_running w.state ≡ true → row.running ≡ false → P (calls.Start it.vm)

-- the call tends a machine that stays
abbrev pub is_tending : Call → Bool
is_tending (calls.CreateDisk wanted v) = true
is_tending (calls.AttachDisk v d) = true
is_tending (calls.DetachDisk v d) = true
is_tending (calls.Apply v spec) = true
is_tending (calls.Start v) = true
is_tending (calls.Drain v) = true
is_tending (calls.Stop v) = true
is_tending (calls.MountDisk v d) = true
is_tending (calls.UnmountDisk v d) = true
is_tending call = false

-- what holds of each of them is to be shown of the others alone: a deletion, a creation and a migration
pub telling_cases : (P : Call → Type 0) (want : Option GoalRow) (row : Row) →
    ((call : Call) → is_tending call ≡ true → P call) →
    ((it : vm.Vm) → row.vm ≡ Some it → least_of is_attached row ≡ None → P (calls.DeleteVm it.vm)) →
    ((w : GoalRow) → want ≡ Some w → row.vm ≡ None → P (calls.CreateVm w.make (active_disks row.disks))) →
    ((v old new : ℕ) → P (calls.MigrateDisk v old new)) → Cases P want row
telling_cases P want row tends deletes creates migrates = record {
  remove_drain = λ it has away runs off. tends (calls.Drain it.vm) refl;
  remove_stop = λ it has away runs off. tends (calls.Stop it.vm) refl;
  remove_unmount = λ it d has away rests first. tends (calls.UnmountDisk it.vm d.disk) refl;
  remove_detach = λ it d has away rests none first. tends (calls.DetachDisk it.vm d.disk) refl;
  remove_delete = λ it has away rests none too. deletes it has too;
  create = λ w wants none here. creates w wants none;
  tend_drain = λ w it wants has stays runs halts off. tends (calls.Drain it.vm) refl;
  tend_stop = λ w it wants has stays runs halts off. tends (calls.Stop it.vm) refl;
  clear_unmount = λ w it d wants tended first. tends (calls.UnmountDisk it.vm d.disk) refl;
  clear_detach = λ w it d wants tended none first. tends (calls.DetachDisk it.vm d.disk) refl;
  release_unmount = λ w it d wants cleared nothing first. tends (calls.UnmountDisk it.vm d.disk) refl;
  release_detach = λ w it d wants cleared nothing none first. tends (calls.DetachDisk it.vm d.disk) refl;
  provide = λ w it wanted wants cleared disk none. tends (calls.CreateDisk wanted it.vm) refl;
  place_attach = λ w it wanted old wants cleared disk was off. tends (calls.AttachDisk it.vm old.disk) refl;
  place_mount = λ w it wanted old wants cleared disk was on off. tends (calls.MountDisk it.vm old.disk) refl;
  replace_create = λ w it wanted old wants replaced none. tends (calls.CreateDisk wanted it.vm) refl;
  replace_attach = λ w it wanted old new wants replaced comes off. tends (calls.AttachDisk it.vm new.disk) refl;
  replace_mount = λ w it wanted old new wants replaced comes on off. tends (calls.MountDisk it.vm new.disk) refl;
  replace_migrate = λ w it wanted old new wants replaced comes on up. migrates it.vm old.disk new.disk;
  apply = λ w it wants cleared differs. tends (calls.Apply it.vm w.spec) refl;
  start = λ w it wants cleared disks spec runs rests. tends (calls.Start it.vm) refl;
}

-- the step of a row that is not lost and not in doubt is that of its machine
pub step_known : (want : Option GoalRow) (row : Row) → row.lost ≡ false → row.doubt ≡ None →
    next_step want row ≡ machine_step want row row.vm
step_known want row found known =
    ap (λ lost. if lost then Some (lost_step row.doubt) else known_step want row row.doubt) found
    ∙ ap (known_step want row) known

-- the call of a step
abbrev pub called : Option GoalRow → Row → Option Step → Option Call
called want row step = option_and_then (λ it. call_of it want row) step

-- a call that is found is the one that is there
found : (P : Call → Type 0) (o : Option Call) (c call : Call) → o ≡ Some c → P c → o ≡ Some call → P call
found P o c call is shown next = subst P (same_Some c call (sym is ∙ next)) shown

with_vm : (row : Row) (it : vm.Vm) (call : ℕ → Call) → row.vm ≡ Some it → on_machine row call ≡ Some (call it.vm)
with_vm row it call has = ap (option_map (λ v. call v.vm)) has

removes : (P : Call → Type 0) (want : Option GoalRow) (row : Row) → Cases P want row → (it : vm.Vm) →
    row.vm ≡ Some it → goes want row it ≡ true → (call : Call) → called want row (removal row) ≡ Some call → P call
removes P want row cases it has away call next =
    by_found (row.running && not row.drained) refl row.running refl (least_of is_mounted row) refl
    (least_of is_attached row) refl next
  where
    by_found : (drains : Bool) → (row.running && not row.drained) ≡ drains → (runs : Bool) → row.running ≡ runs →
        (m : Option DiskRow) → least_of is_mounted row ≡ m → (a : Option DiskRow) → least_of is_attached row ≡ a →
        called want row (first_of
        (when drains (plain Drain) ∷ when runs (plain Stop) ∷ on UnmountDisk m ∷ on DetachDisk a ∷ Some (plain DeleteVm)
        ∷ []))
        ≡ Some call → P call
    by_found true drains runs running m mounted a attached next =
        let both : (row.running ≡ true) × (not row.drained ≡ true) = and_parts row.running (not row.drained) drains in
        found P _ (calls.Drain it.vm) call (with_vm row it calls.Drain has)
        (cases.remove_drain it has away both.0 (not-true row.drained both.1)) next
    by_found false drains true running m mounted a attached next =
        found P _ (calls.Stop it.vm) call (with_vm row it calls.Stop has)
        (cases.remove_stop it has away running drains) next
    by_found false drains false running (Some d) mounted a attached next =
        found P _ (calls.UnmountDisk it.vm d.disk) call (with_vm row it (λ v. calls.UnmountDisk v d.disk) has)
        (cases.remove_unmount it d has away running mounted) next
    by_found false drains false running None mounted (Some d) attached next =
        found P _ (calls.DetachDisk it.vm d.disk) call (with_vm row it (λ v. calls.DetachDisk v d.disk) has)
        (cases.remove_detach it d has away running mounted attached) next
    by_found false drains false running None mounted None attached next =
        found P _ (calls.DeleteVm it.vm) call (with_vm row it calls.DeleteVm has)
        (cases.remove_delete it has away running mounted attached) next

-- ---- a machine that stays

pauses : (P : Call → Type 0) (w : GoalRow) (row : Row) → Cases P (Some w) row → (it : vm.Vm) → row.vm ≡ Some it →
    has_to_go w row it ≡ false → (call : Call) → called (Some w) row (pausing w row) ≡ Some call → P call
pauses P w row cases it has stays call next =
    by_found (row.running && has_to_stop w row) refl row.drained refl next
  where
    by_found : (b : Bool) → (row.running && has_to_stop w row) ≡ b → (drained : Bool) → row.drained ≡ drained →
        called (Some w) row
        (if b then first_of (when (not drained) (plain Drain) ∷ Some (plain Stop) ∷ []) else None)
        ≡ Some call → P call
    by_found true stops false drained next =
        let both : (row.running ≡ true) × (has_to_stop w row ≡ true) = and_parts row.running (has_to_stop w row) stops
        in
        found P _ (calls.Drain it.vm) call (with_vm row it calls.Drain has)
        (cases.tend_drain w it refl has stays both.0 both.1 drained) next
    by_found true stops true drained next =
        let both : (row.running ≡ true) × (has_to_stop w row ≡ true) = and_parts row.running (has_to_stop w row) stops
        in
        found P _ (calls.Stop it.vm) call (with_vm row it calls.Stop has)
        (cases.tend_stop w it refl has stays both.0 both.1 drained) next
    by_found false stops d drained next = absurd cc

-- where nothing is paused no running job sees what is done
pub rests_then : (w : GoalRow) (row : Row) → pausing w row ≡ None → (row.running && has_to_stop w row) ≡ false
rests_then w row none = by_found (row.running && has_to_stop w row) (not row.drained) none
  where
    by_found : (b drains : Bool) →
        (if b then first_of (when drains (plain Drain) ∷ Some (plain Stop) ∷ []) else None) ≡ None → b ≡ false
    by_found true true none = absurd cc
    by_found true false none = absurd cc
    by_found false drains none = refl

clears : (P : Call → Type 0) (w : GoalRow) (row : Row) → Cases P (Some w) row → (it : vm.Vm) → IsTended w row it →
    (call : Call) → called (Some w) row (clearing w row) ≡ Some call → P call
clears P w row cases it tended call next =
    by_found (least_of (is_spare_mounted w row) row) refl (least_of (is_spare_attached w row) row) refl next
  where
    by_found : (m : Option DiskRow) → least_of (is_spare_mounted w row) row ≡ m → (a : Option DiskRow) →
        least_of (is_spare_attached w row) row ≡ a →
        called (Some w) row (first_of (on UnmountDisk m ∷ on DetachDisk a ∷ [])) ≡ Some call → P call
    by_found (Some d) mounted a attached next =
        found P _ (calls.UnmountDisk it.vm d.disk) call (with_vm row it (λ v. calls.UnmountDisk v d.disk) tended.has)
        (cases.clear_unmount w it d refl tended mounted) next
    by_found None mounted (Some d) attached next =
        found P _ (calls.DetachDisk it.vm d.disk) call (with_vm row it (λ v. calls.DetachDisk v d.disk) tended.has)
        (cases.clear_detach w it d refl tended mounted attached) next
    by_found None mounted None attached next = absurd cc

pub cleared_then : (w : GoalRow) (row : Row) (it : vm.Vm) → IsTended w row it → clearing w row ≡ None →
    IsCleared w row it
cleared_then w row it tended none =
    by_found (least_of (is_spare_mounted w row) row) refl (least_of (is_spare_attached w row) row) refl none
  where
    by_found : (m : Option DiskRow) → least_of (is_spare_mounted w row) row ≡ m → (a : Option DiskRow) →
        least_of (is_spare_attached w row) row ≡ a → first_of (on UnmountDisk m ∷ on DetachDisk a ∷ []) ≡ None →
        IsCleared w row it
    by_found (Some d) mounted a attached none = absurd cc
    by_found None mounted (Some d) attached none = absurd cc
    by_found None mounted None attached none = record { tended = tended; unmounted = mounted; detached = attached }

releases : (P : Call → Type 0) (w : GoalRow) (row : Row) → Cases P (Some w) row → (it : vm.Vm) → IsCleared w row it →
    w.disk ≡ None → (call : Call) → called (Some w) row (releasing row) ≡ Some call → P call
releases P w row cases it cleared wants call next =
    by_found (least_of (λ d. is_active d && d.mounted) row) refl (least_of (λ d. is_active d && d.attached) row) refl
    next
  where
    by_found : (m : Option DiskRow) → least_of (λ d. is_active d && d.mounted) row ≡ m → (a : Option DiskRow) →
        least_of (λ d. is_active d && d.attached) row ≡ a →
        called (Some w) row (first_of (on UnmountDisk m ∷ on DetachDisk a ∷ [])) ≡ Some call → P call
    by_found (Some d) mounted a attached next =
        found P _ (calls.UnmountDisk it.vm d.disk) call
        (with_vm row it (λ v. calls.UnmountDisk v d.disk) cleared.tended.has)
        (cases.release_unmount w it d refl cleared wants mounted) next
    by_found None mounted (Some d) attached next =
        found P _ (calls.DetachDisk it.vm d.disk) call
        (with_vm row it (λ v. calls.DetachDisk v d.disk) cleared.tended.has)
        (cases.release_detach w it d refl cleared wants mounted attached) next
    by_found None mounted None attached next = absurd cc

created : (w : GoalRow) (row : Row) (it : vm.Vm) (wanted : DiskWant) → row.vm ≡ Some it → w.disk ≡ Some wanted →
    called (Some w) row (Some (plain CreateDisk)) ≡ Some (calls.CreateDisk wanted it.vm)
created w row it wanted has wants =
    ap (option_and_then (λ want. on_machine row (calls.CreateDisk want))) wants
    ∙ with_vm row it (calls.CreateDisk wanted) has

moved : (w : GoalRow) (row : Row) (it : vm.Vm) (old new : DiskRow) → row.vm ≡ Some it → active row.disks ≡ Some old →
    called (Some w) row (Some (with_disk MigrateDisk new)) ≡ Some (calls.MigrateDisk it.vm old.disk new.disk)
moved w row it old new has is =
    ap (option_and_then (λ from. on_both row (Some new.disk) (λ v to. calls.MigrateDisk v from.disk to))) is
    ∙ with_vm row it (λ v. calls.MigrateDisk v old.disk new.disk) has

replaces : (P : Call → Type 0) (w : GoalRow) (row : Row) → Cases P (Some w) row → (it : vm.Vm) (wanted : DiskWant)
    (old : DiskRow) → IsReplaced w row it wanted old → (call : Call) →
    called (Some w) row (replacing (coming (Some wanted) row.disks)) ≡ Some call → P call
replaces P w row cases it wanted old replaced call next = by_coming (coming (Some wanted) row.disks) refl next
  where
    has : row.vm ≡ Some it
    has = replaced.cleared.tended.has

    by_place : (new : DiskRow) → coming (Some wanted) row.disks ≡ Some new → (attached mounted : Bool) →
        new.attached ≡ attached → new.mounted ≡ mounted →
        called (Some w) row (first_of (first_of (when (not attached) (with_disk AttachDisk new)
        ∷ when (not mounted) (with_disk MountDisk new) ∷ []) ∷ Some (with_disk MigrateDisk new) ∷ []))
        ≡ Some call → P call
    by_place new is false mounted a m next =
        found P _ (calls.AttachDisk it.vm new.disk) call (with_vm row it (λ v. calls.AttachDisk v new.disk) has)
        (cases.replace_attach w it wanted old new refl replaced is a) next
    by_place new is true false a m next =
        found P _ (calls.MountDisk it.vm new.disk) call (with_vm row it (λ v. calls.MountDisk v new.disk) has)
        (cases.replace_mount w it wanted old new refl replaced is a m) next
    by_place new is true true a m next =
        found P _ (calls.MigrateDisk it.vm old.disk new.disk) call (moved w row it old new has replaced.is_active)
        (cases.replace_migrate w it wanted old new refl replaced is a m) next

    by_coming : (new : Option DiskRow) → coming (Some wanted) row.disks ≡ new →
        called (Some w) row (replacing new) ≡ Some call → P call
    by_coming None is next =
        found P _ (calls.CreateDisk wanted it.vm) call (created w row it wanted has replaced.wants)
        (cases.replace_create w it wanted old refl replaced is) next
    by_coming (Some new) is next = by_place new is new.attached new.mounted refl refl next

provides : (P : Call → Type 0) (w : GoalRow) (row : Row) → Cases P (Some w) row → (it : vm.Vm) → IsCleared w row it →
    (wanted : DiskWant) → w.disk ≡ Some wanted → (call : Call) →
    called (Some w) row (providing wanted row.disks (active row.disks)) ≡ Some call → P call
provides P w row cases it cleared wanted wants call next = by_active (active row.disks) refl next
  where
    has : row.vm ≡ Some it
    has = cleared.tended.has

    by_place : (old : DiskRow) → active row.disks ≡ Some old → (attached mounted right : Bool) →
        old.attached ≡ attached → old.mounted ≡ mounted → is_right wanted old ≡ right →
        called (Some w) row (first_of (first_of (when (not attached) (with_disk AttachDisk old)
        ∷ when (not mounted) (with_disk MountDisk old) ∷ [])
        ∷ (if right then None else replacing (coming (Some wanted) row.disks)) ∷ []))
        ≡ Some call → P call
    by_place old is false mounted right a m r next =
        found P _ (calls.AttachDisk it.vm old.disk) call (with_vm row it (λ v. calls.AttachDisk v old.disk) has)
        (cases.place_attach w it wanted old refl cleared wants is a) next
    by_place old is true false right a m r next =
        found P _ (calls.MountDisk it.vm old.disk) call (with_vm row it (λ v. calls.MountDisk v old.disk) has)
        (cases.place_mount w it wanted old refl cleared wants is a m) next
    by_place old is true true true a m r next = absurd cc
    by_place old is true true false a m r next =
        replaces P w row cases it wanted old
        (record { cleared = cleared; wants = wants; is_active = is; attached = a; mounted = m; wrong = r }) call
        (ap (called (Some w) row) (last (replacing (coming (Some wanted) row.disks))) ∙ next)
      where
        last : (step : Option Step) → step ≡ first_of (step ∷ [])
        last (Some step) = refl
        last None = refl

    by_active : (a : Option DiskRow) → active row.disks ≡ a →
        called (Some w) row (providing wanted row.disks a) ≡ Some call → P call
    by_active None is next =
        found P _ (calls.CreateDisk wanted it.vm) call (created w row it wanted has wants)
        (cases.provide w it wanted refl cleared wants is) next
    by_active (Some old) is next = by_place old is old.attached old.mounted (is_right wanted old) refl refl refl next

applies : (P : Call → Type 0) (w : GoalRow) (row : Row) → Cases P (Some w) row → (it : vm.Vm) → IsCleared w row it →
    (call : Call) → called (Some w) row (applying w row) ≡ Some call → P call
applies P w row cases it cleared call next = by_spec (spec_differs w row) refl next
  where
    by_spec : (b : Bool) → spec_differs w row ≡ b → called (Some w) row (when b (plain Apply)) ≡ Some call → P call
    by_spec true differs next =
        found P _ (calls.Apply it.vm w.spec) call (with_vm row it (λ v. calls.Apply v w.spec) cleared.tended.has)
        (cases.apply w it refl cleared differs) next
    by_spec false differs next = absurd cc

pub applied_then : (w : GoalRow) (row : Row) → applying w row ≡ None → spec_differs w row ≡ false
applied_then w row none = by_spec (spec_differs w row) none
  where
    by_spec : (b : Bool) → when b (plain Apply) ≡ None → b ≡ false
    by_spec true none = absurd cc
    by_spec false none = refl

starts : (P : Call → Type 0) (w : GoalRow) (row : Row) → Cases P (Some w) row → (it : vm.Vm) → IsCleared w row it →
    disk_step w row w.disk ≡ None → spec_differs w row ≡ false → (call : Call) →
    called (Some w) row (starting w row) ≡ Some call → P call
starts P w row cases it cleared disk same call next = by_state (is_running w.state && not row.running) refl next
  where
    by_state : (b : Bool) → (is_running w.state && not row.running) ≡ b →
        called (Some w) row (when b (plain Start)) ≡ Some call → P call
    by_state true is next =
        let both : (is_running w.state ≡ true) × (not row.running ≡ true) =
        and_parts (is_running w.state) (not row.running) is in
        found P _ (calls.Start it.vm) call (with_vm row it calls.Start cleared.tended.has)
        (cases.start w it refl cleared disk same both.0 (not-true row.running both.1)) next
    by_state false is next = absurd cc

tends : (P : Call → Type 0) (w : GoalRow) (row : Row) → Cases P (Some w) row → (it : vm.Vm) → row.vm ≡ Some it →
    has_to_go w row it ≡ false → (call : Call) → called (Some w) row (tending w row) ≡ Some call → P call
tends P w row cases it has stays call next =
    by_first (pausing w row) refl (clearing w row) refl (disk_step w row w.disk) refl (applying w row) refl
    (starting w row) refl next
  where
    by_disk : (want : Option DiskWant) → w.disk ≡ want → IsCleared w row it →
        called (Some w) row (disk_step w row want) ≡ Some call → P call
    by_disk (Some wanted) wants cleared next = provides P w row cases it cleared wanted wants call next
    by_disk None wants cleared next = releases P w row cases it cleared wants call next

    tended : pausing w row ≡ None → IsTended w row it
    tended none = record { has = has; stays = stays; rests = rests_then w row none }

    by_first : (p : Option Step) → pausing w row ≡ p → (c : Option Step) → clearing w row ≡ c → (d : Option Step) →
        disk_step w row w.disk ≡ d → (a : Option Step) → applying w row ≡ a → (s : Option Step) →
        starting w row ≡ s → called (Some w) row (first_of (p ∷ c ∷ d ∷ a ∷ s ∷ [])) ≡ Some call → P call
    by_first (Some step) pauses_by c clear d disk a apply s start next =
        pauses P w row cases it has stays call (ap (called (Some w) row) pauses_by ∙ next)
    by_first None rests (Some step) clear d disk a apply s start next =
        clears P w row cases it (tended rests) call (ap (called (Some w) row) clear ∙ next)
    by_first None rests None clear (Some step) disk a apply s start next =
        by_disk w.disk refl (cleared_then w row it (tended rests) clear) (ap (called (Some w) row) disk ∙ next)
    by_first None rests None clear None disk (Some step) apply s start next =
        applies P w row cases it (cleared_then w row it (tended rests) clear) call
        (ap (called (Some w) row) apply ∙ next)
    by_first None rests None clear None disk None apply (Some step) start next =
        starts P w row cases it (cleared_then w row it (tended rests) clear) disk (applied_then w row apply) call
        (ap (called (Some w) row) start ∙ next)
    by_first None rests None clear None disk None apply None start next = absurd cc

-- the call of the next step of a row that is not lost and not in doubt is one of these
pub by_cases : (P : Call → Type 0) (want : Option GoalRow) (row : Row) → Cases P want row → row.lost ≡ false →
    row.doubt ≡ None → (call : Call) → next_call want row ≡ Some call → P call
by_cases P want row cases found known call next =
    by_vm want cases row.vm refl
    (sym (ap (called want row) (step_known want row found known)) ∙ next)
  where
    by_vm : (want : Option GoalRow) → Cases P want row → (it : Option vm.Vm) → row.vm ≡ it →
        called want row (machine_step want row it) ≡ Some call → P call
    by_vm None cases (Some it) has next = removes P None row cases it has refl call next
    by_vm None cases None has next = absurd cc
    by_vm (Some w) cases (Some it) has next = by_way (has_to_go w row it) refl next
      where
        by_way : (b : Bool) → has_to_go w row it ≡ b →
            called (Some w) row (if b then removal row else tending w row) ≡ Some call → P call
        by_way true away next = removes P (Some w) row cases it has away call next
        by_way false stays next = tends P w row cases it has stays call next
    by_vm (Some w) cases None has next = by_state (is_detached w.state) refl next
      where
        by_state : (b : Bool) → is_detached w.state ≡ b →
            called (Some w) row (when (not b) (plain CreateVm)) ≡ Some call → P call
        by_state true away next = absurd cc
        by_state false here next = found_create next
          where
            found_create : called (Some w) row (Some (plain CreateVm)) ≡ Some call → P call
            found_create next =
                subst P (same_Some (calls.CreateVm w.make (active_disks row.disks)) call next)
                (cases.create w refl has here)
