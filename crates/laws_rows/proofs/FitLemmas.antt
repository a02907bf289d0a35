-- The call of a next step leaves a doubt that fits the row.
use Rattle.std.proofs.Common.{◌≡◌, ℕ, Bool, true, false, Option, Some, None, [], refl, sym, ◌∙◌, ap, subst}
use Rattle.std.specs.Prelude.{◌&&◌, ◌||◌, ◌==◌, not, is_some}
use Rattle.std.proofs.lemmas.Bool.{and_parts, and_from, eq-eqb, not-true}
use Rattle.std.proofs.lemmas.Option.{same_Some}
use Rattle.bosh_base.specs.ExactParts.{Decides-make}
use Rattle.bosh_base.specs.declared.call.Call.{Call}
use Rattle.bosh_base.specs.declared.call.Call.TheVariants as calls
use Rattle.bosh_base.specs.declared.goal.GoalRow.{GoalRow}
use Rattle.bosh_base.specs.declared.inst.Inst.{Inst}
use Rattle.bosh_base.specs.declared.row.DiskRow.{DiskRow}
use Rattle.bosh_base.specs.declared.row.Doubt as doubt
use Rattle.bosh_base.specs.declared.row.Row.{Row}
use Rattle.bosh_base.specs.declared.row.Vm as vm
use Rattle.bosh_rows.specs.After.{bare, begun_row, leaves_doubt}
use Rattle.bosh_rows.specs.CallOf.{next_call}
use Rattle.bosh_rows.specs.Disks.{is_active, is_spare}
use Rattle.bosh_rows.specs.Tied.{IsTiedRow}
use Rattle.laws_rows.proofs.KnownTieLemmas.{not_up}
use Rattle.laws_rows.proofs.ListLemmas.{IsFound, IsIn, active_found, all_from, all_in, all_of_one, any_in, least_found, least_none}
use Rattle.laws_rows.proofs.MigrationLemmas.{two_of}
use Rattle.laws_rows.proofs.StepCases.{Cases, by_cases, is_attached as is_held, is_mounted, is_spare_attached, is_spare_mounted}
use Rattle.laws_rows.specs.Rightful.{IsRightful, fits, is_disk_with, is_machine}
use Rattle.laws_rows.specs.SoundDisks.{are_distinct, is_recorded}

-- the call leaves a doubt that fits
abbrev Fits : Row → Call → Type 0
Fits row call = (n : ℕ) → leaves_doubt call ≡ true → fits (begun_row n call row) call ≡ true

machine_is : (row : Row) (it : vm.Vm) → row.vm ≡ Some it → is_machine row.vm it.vm ≡ true
machine_is row it has = ap (λ v. is_machine v it.vm) has ∙ eq-eqb it.vm it.vm refl

disk_is : (row : Row) → are_distinct row.disks ≡ true → (test : DiskRow → Bool) (d : DiskRow) → IsIn d row.disks →
    test d ≡ true → is_disk_with test row.disks d.disk ≡ true
disk_is row distinct test d is holds =
    and_from (is_recorded row.disks d.disk) _
    (any_in (λ e. e.disk == d.disk) d row.disks is (eq-eqb d.disk d.disk refl))
    (all_from (λ e. not (e.disk == d.disk) || test e) row.disks
    (λ e also. by_number e also (e.disk == d.disk) refl))
  where
    by_number : (e : DiskRow) → IsIn e row.disks → (b : Bool) → (e.disk == d.disk) ≡ b →
        (not (e.disk == d.disk) || test e) ≡ true
    by_number e also true same =
        ap (λ b. not b || test e) same ∙ all_of_one test row.disks distinct d is holds e also same
    by_number e also false other = ap (λ b. not b || test e) other

fit_cases : (want : Option GoalRow) (row : Row) → are_distinct row.disks ≡ true → Cases (Fits row) want row
fit_cases want row distinct = record {
  remove_drain = λ it has away runs drained n leaves. machine_is row it has;
  remove_stop = λ it has away runs drained n leaves. machine_is row it has;
  remove_unmount = λ it d has away rests first n leaves.
      let found : IsFound is_mounted d row.disks = least_found is_mounted d row.disks first in
      unmounts it d has found.is_in found.meets;
  remove_detach = λ it d has away rests none first n leaves.
      let found : IsFound is_held d row.disks = least_found is_held d row.disks first in
      detaches it d has found.is_in found.meets
      (not-true d.mounted (all_in (λ e. not e.mounted) d row.disks (least_none is_mounted row.disks none) found.is_in));
  remove_delete = λ it has away rests none too n leaves. machine_is row it has;
  create = λ w wants none here n leaves.
      and_from (not (is_some row.vm)) _ (λ i. not (is_some (none i))) ((Decides-make w.make w.make).1 refl);
  tend_drain = λ w it wants has stays runs halts drained n leaves. machine_is row it has;
  tend_stop = λ w it wants has stays runs halts drained n leaves. machine_is row it has;
  clear_unmount = λ w it d wants tended first n leaves.
      let found : IsFound (is_spare_mounted w row) d row.disks = least_found (is_spare_mounted w row) d row.disks
      first in
      unmounts it d tended.has found.is_in (and_parts (is_spare w.disk row.disks d) d.mounted found.meets).1;
  clear_detach = λ w it d wants tended none first n leaves.
      let found : IsFound (is_spare_attached w row) d row.disks =
      least_found (is_spare_attached w row) d row.disks first in
      let both : (is_spare w.disk row.disks d ≡ true) × (d.attached ≡ true) =
      and_parts (is_spare w.disk row.disks d) d.attached found.meets in
      detaches it d tended.has found.is_in both.1 (not_up (is_spare w.disk row.disks) row d none found.is_in both.0);
  release_unmount = λ w it d wants cleared nothing first n leaves.
      let found : IsFound (λ e. is_active e && e.mounted) d row.disks =
      least_found (λ e. is_active e && e.mounted) d row.disks first in
      unmounts it d cleared.tended.has found.is_in (and_parts (is_active d) d.mounted found.meets).1;
  release_detach = λ w it d wants cleared nothing none first n leaves.
      let found : IsFound (λ e. is_active e && e.attached) d row.disks =
      least_found (λ e. is_active e && e.attached) d row.disks first in
      let both : (is_active d ≡ true) × (d.attached ≡ true) = and_parts (is_active d) d.attached found.meets in
      detaches it d cleared.tended.has found.is_in both.1 (not_up is_active row d none found.is_in both.0);
  provide = λ w it wanted wants cleared disk none n leaves. machine_is row it cleared.tended.has;
  place_attach = λ w it wanted old wants cleared disk was off n leaves.
      attaches it old cleared.tended.has (active_found old row.disks was).is_in off;
  place_mount = λ w it wanted old wants cleared disk was on off n leaves.
      detaches it old cleared.tended.has (active_found old row.disks was).is_in on off;
  replace_create = λ w it wanted old wants replaced none n leaves. machine_is row it replaced.cleared.tended.has;
  replace_attach = λ w it wanted old new wants replaced comes off n leaves.
      attaches it new replaced.cleared.tended.has
      (two_of wanted row.disks old new distinct replaced.is_active replaced.wrong comes).new_in off;
  replace_mount = λ w it wanted old new wants replaced comes on off n leaves.
      detaches it new replaced.cleared.tended.has
      (two_of wanted row.disks old new distinct replaced.is_active replaced.wrong comes).new_in on off;
  replace_migrate = λ w it wanted old new wants replaced comes on up n leaves. absurd cc;
  apply = λ w it wants cleared differs n leaves. machine_is row it cleared.tended.has;
  start = λ w it wants cleared disks spec runs rests n leaves. machine_is row it cleared.tended.has;
}
  where
    attaches : (it : vm.Vm) (d : DiskRow) → row.vm ≡ Some it → IsIn d row.disks → d.attached ≡ false →
        (is_machine row.vm it.vm && is_disk_with (λ e. not e.attached) row.disks d.disk) ≡ true
    attaches it d has is off =
        and_from (is_machine row.vm it.vm) _ (machine_is row it has)
        (disk_is row distinct (λ e. not e.attached) d is (ap not off))

    detaches : (it : vm.Vm) (d : DiskRow) → row.vm ≡ Some it → IsIn d row.disks → d.attached ≡ true →
        d.mounted ≡ false →
        (is_machine row.vm it.vm && is_disk_with (λ e. e.attached && not e.mounted) row.disks d.disk) ≡ true
    detaches it d has is on off =
        and_from (is_machine row.vm it.vm) _ (machine_is row it has)
        (disk_is row distinct (λ e. e.attached && not e.mounted) d is (λ i. on i && not (off i)))

    unmounts : (it : vm.Vm) (d : DiskRow) → row.vm ≡ Some it → IsIn d row.disks → d.mounted ≡ true →
        (is_machine row.vm it.vm && is_disk_with (λ e. e.mounted) row.disks d.disk) ≡ true
    unmounts it d has is on =
        and_from (is_machine row.vm it.vm) _ (machine_is row it has) (disk_is row distinct (λ e. e.mounted) d is on)

-- ---- a row that is lost or in doubt: its next call only asks, or deletes its machine

of_next : (row : Row) (c call : Call) → Some c ≡ Some call → Fits row c → Fits row call
of_next row c call next fit = subst (λ (it : Call). Fits row it) (same_Some c call next) fit

lost_fits : (want : Option GoalRow) (row : Row) (d : Option doubt.Doubt) (it : Option vm.Vm) (call : Call) →
    next_call want (record row { doubt = d; vm = it; lost = true }) ≡ Some call →
    Fits (record row { doubt = d; vm = it; lost = true }) call
lost_fits want row None None call next = absurd cc
lost_fits want row None (Some it) call next =
    of_next (record row { doubt = None; vm = Some it; lost = true }) (calls.DeleteVm it.vm) call next
    (λ n leaves. eq-eqb it.vm it.vm refl)
lost_fits want row (Some d) it call next = by_call d.n d.call it next
  where
    by_call : (m : ℕ) (c : Call) (it : Option vm.Vm) →
        next_call want (record row { doubt = Some (record { n = m; call = c }); vm = it; lost = true }) ≡ Some call →
        Fits (record row { doubt = Some (record { n = m; call = c }); vm = it; lost = true }) call
    by_call m (calls.CreateDisk wanted v) it next =
        of_next (record row { doubt = Some (record { n = m; call = calls.CreateDisk wanted v }); vm = it; lost = true })
        (calls.FindDisk m) call next (λ n leaves. absurd cc)
    by_call m c None next = absurd cc
    by_call m (calls.DeleteVm v) (Some it) next =
        of_next (record row { doubt = Some (record { n = m; call = calls.DeleteVm v }); vm = Some it; lost = true })
        (calls.HasVm it.vm) call next (λ n leaves. absurd cc)
    by_call m c (Some it) next =
        of_next (record row { doubt = Some (record { n = m; call = c }); vm = Some it; lost = true })
        (calls.DeleteVm it.vm) call next (λ n leaves. eq-eqb it.vm it.vm refl)

doubted_fits : (want : Option GoalRow) (row : Row) (m : ℕ) (c : Call) (it : Option vm.Vm) (call : Call) →
    next_call want (record row { doubt = Some (record { n = m; call = c }); vm = it; lost = false }) ≡ Some call →
    Fits (record row { doubt = Some (record { n = m; call = c }); vm = it; lost = false }) call
doubted_fits want row m (calls.CreateVm make hint) it call next =
    of_next (record row { doubt = Some (record { n = m; call = calls.CreateVm make hint }); vm = it; lost = false })
    (calls.FindVm m) call next (λ n leaves. absurd cc)
doubted_fits want row m (calls.CreateDisk wanted v) it call next =
    of_next (record row { doubt = Some (record { n = m; call = calls.CreateDisk wanted v }); vm = it; lost = false })
    (calls.FindDisk m) call next (λ n leaves. absurd cc)
doubted_fits want row m c None call next = absurd cc
doubted_fits want row m (calls.DeleteVm v) (Some it) call next =
    of_next (record row { doubt = Some (record { n = m; call = calls.DeleteVm v }); vm = Some it; lost = false })
    (calls.HasVm it.vm) call next (λ n leaves. absurd cc)
doubted_fits want row m (calls.AttachDisk v x) (Some it) call next =
    of_next (record row { doubt = Some (record { n = m; call = calls.AttachDisk v x }); vm = Some it; lost = false })
    (calls.GetDisks it.vm) call next (λ n leaves. absurd cc)
doubted_fits want row m (calls.DetachDisk v x) (Some it) call next =
    of_next (record row { doubt = Some (record { n = m; call = calls.DetachDisk v x }); vm = Some it; lost = false })
    (calls.GetDisks it.vm) call next (λ n leaves. absurd cc)
doubted_fits want row m (calls.MountDisk v x) (Some it) call next =
    of_next (record row { doubt = Some (record { n = m; call = calls.MountDisk v x }); vm = Some it; lost = false })
    (calls.ListDisk it.vm) call next (λ n leaves. absurd cc)
doubted_fits want row m (calls.UnmountDisk v x) (Some it) call next =
    of_next (record row { doubt = Some (record { n = m; call = calls.UnmountDisk v x }); vm = Some it; lost = false })
    (calls.ListDisk it.vm) call next (λ n leaves. absurd cc)
doubted_fits want row m c (Some it) call next =
    of_next (record row { doubt = Some (record { n = m; call = c }); vm = Some it; lost = false })
    (calls.GetState it.vm)
    call next (λ n leaves. absurd cc)

pub next_fits : (want : Option GoalRow) (row : Row) (n : ℕ) (call : Call) → are_distinct row.disks ≡ true →
    next_call want row ≡ Some call → leaves_doubt call ≡ true → fits (begun_row n call row) call ≡ true
next_fits want row n call distinct next = by_ways row.lost refl row.doubt refl n
  where
    by_ways : (lost : Bool) → row.lost ≡ lost → (d : Option doubt.Doubt) → row.doubt ≡ d → Fits row call
    by_ways true is d doubts =
        subst (λ (r : Row). next_call want r ≡ Some call → Fits r call) (λ i. record row { lost = sym is i })
        (lost_fits want row row.doubt row.vm call) next
    by_ways false is (Some d) doubts =
        subst (λ (r : Row). next_call want r ≡ Some call → Fits r call)
        (λ i. record row { doubt = sym doubts i; lost = sym is i }) (doubted_fits want row d.n d.call row.vm call) next
    by_ways false is None known = by_cases (Fits row) want row (fit_cases want row distinct) is known call next

-- ---- nothing is recorded yet

pub bare_rightful : (i : Inst) → IsRightful [] (bare i)
bare_rightful i = record {
  orderly = tt;
  own = λ d v is. absurd cc;
  fit = refl;
  found_new = refl;
  made = refl;
  call = λ d e is among same. absurd among;
  owner = λ d e is among same. absurd among;
}

pub bare_tied : (i : Inst) → IsTiedRow [] (bare i)
bare_tied i = refl
