-- Where nothing is to be done for a row, the disks that go once its update is done are not attached.
use Rattle.std.proofs.Common.{◌≡◌, Bool, true, false, Option, Some, None, [], ◌∷◌, refl, sym, ◌∙◌, ap}
use Rattle.std.specs.Prelude.{◌&&◌, ◌||◌, not, is_some, if◌then◌else◌}
use Rattle.std.specs.List.{list_all}
use Rattle.std.proofs.lemmas.Bool.{and_parts, not-true, or_parts}
use Rattle.bosh_base.specs.Cloud.{when}
use Rattle.bosh_base.specs.declared.disk_want.DiskWant.{DiskWant}
use Rattle.bosh_base.specs.declared.goal.GoalRow.{GoalRow}
use Rattle.bosh_base.specs.declared.method.Method.TheVariants.{DeleteVm, DetachDisk, Drain, Stop, UnmountDisk}
use Rattle.bosh_base.specs.declared.row.DiskRow.{DiskRow}
use Rattle.bosh_base.specs.declared.row.Row.{Row}
use Rattle.bosh_base.specs.declared.row.Vm.{Vm}
use Rattle.laws_row_facts.specs.Rows.{has_machine_as_needed}
use Rattle.laws_rows.proofs.ListLemmas.{IsIn, active_none, all_in, least_none}
use Rattle.laws_rows.proofs.StandLemmas.{always_removes, quiet}
use Rattle.laws_rows.proofs.StepCases.{IsCleared, cleared_then, is_spare_attached, rests_then}
use Rattle.laws_rows.proofs.StopLemmas.{IsSettled, only_active, settled_then}
use Rattle.laws_rows.proofs.WorkLemmas.{spare_beside_none}
use Rattle.laws_rows.specs.SoundDisks.{has_one_active}
use Rattle.bosh_rows.specs.Disks.{active, is_active, is_detached, is_spare, is_spare_beside, least, meets, stays}
use Rattle.bosh_rows.specs.NextStep.{applying, clearing, disk_step, first_of, has_to_go, is_disk_settled, machine_step, next_step, on, pausing, plain, removal, starting, tending}
use Rattle.bosh_rows.specs.declared.step.Step.{Step}

-- what is left where a machine is tended no more
record IsTendedOut (w : GoalRow) (row : Row) (it : Vm) : Type 0 where
  cleared : IsCleared w row it
  settled : IsSettled w row

tended_out : (w : GoalRow) (row : Row) (it : Vm) → row.vm ≡ Some it → has_to_go w row it ≡ false →
    tending w row ≡ None → IsTendedOut w row it
tended_out w row it has stays_here none =
    by_first (pausing w row) refl (clearing w row) refl (disk_step w row w.disk) refl (applying w row)
    (starting w row) none
  where
    by_first : (p : Option Step) → pausing w row ≡ p → (c : Option Step) → clearing w row ≡ c → (d : Option Step) →
        disk_step w row w.disk ≡ d → (a s : Option Step) → first_of (p ∷ c ∷ d ∷ a ∷ s ∷ []) ≡ None →
        IsTendedOut w row it
    by_first (Some step) p c clear d disk a s none = absurd cc
    by_first None p (Some step) clear d disk a s none = absurd cc
    by_first None p None clear (Some step) disk a s none = absurd cc
    by_first None p None clear None disk a s none = record {
      cleared =
          cleared_then w row it (record { has = has; stays = stays_here; rests = rests_then w row p }) clear;
      settled = settled_then w row disk;
    }

-- a disk of a row without a machine
pub off_none : (row : Row) → has_machine_as_needed row ≡ true → row.vm ≡ None → (d : DiskRow) → IsIn d row.disks →
    d.attached ≡ false
off_none row needed none d is =
    not-true d.attached
    (and_parts (not d.attached) (not d.mounted)
    (all_in (λ d. not d.attached && not d.mounted) d row.disks
    (sym (ap (λ (o : Option Vm). is_some o || list_all (λ d. not d.attached && not d.mounted) row.disks) none)
    ∙ (and_parts _ (is_some row.vm || list_all (λ d. not d.attached && not d.mounted) row.disks) needed).1) is)).0

-- a disk that is neither active nor of use is not attached
off_spare : (w : GoalRow) (row : Row) (it : Vm) → IsTendedOut w row it → (d : DiskRow) → IsIn d row.disks →
    is_active d ≡ false → d.attached ≡ false
off_spare w row it out d is idle =
    by_truth (is_spare w.disk row.disks d) d.attached
    (ap (λ o. is_spare_beside o d) out.settled.alone ∙ spare_beside_none d idle)
    (all_in (λ d. not (is_spare_attached w row d)) d row.disks
    (least_none (is_spare_attached w row) row.disks out.cleared.detached) is)
  where
    by_truth : (s a : Bool) → s ≡ true → not (s && a) ≡ true → a ≡ false
    by_truth true true spare free = absurd cc
    by_truth true false spare free = refl
    by_truth false a spare free = absurd cc

-- an active disk that nobody wants is not attached
off_active : (w : GoalRow) (row : Row) (it : Vm) → IsTendedOut w row it → has_one_active row.disks ≡ true →
    w.disk ≡ None → (d : DiskRow) → IsIn d row.disks → is_active d ≡ true → d.attached ≡ false
off_active w row it out one wants d is plays = by_found (active row.disks) refl
  where
    settled : not (meets (λ d. d.attached) (active row.disks)) ≡ true
    settled = sym (ap (λ o. is_disk_settled o row.disks) wants) ∙ out.settled.settled

    by_found : (o : Option DiskRow) → active row.disks ≡ o → d.attached ≡ false
    by_found (Some a) found =
        ap (λ e. e.attached) (only_active row.disks one a d found is plays)
        ∙ not-true a.attached (sym (ap (λ o. not (meets (λ d. d.attached) o)) found) ∙ settled)
    by_found None found =
        absurd (let idle : not (is_active d) ≡ true =
        all_in (λ d. not (is_active d)) d row.disks (active_none row.disks found) is in
        not_both (is_active d) idle plays)
      where
        not_both : (b : Bool) → not b ≡ true → b ≡ true → ⊥
        not_both true none is = cc
        not_both false none is = cc

-- each disk that goes
pub goes_off : (w : GoalRow) (row : Row) → next_step (Some w) row ≡ None → has_machine_as_needed row ≡ true →
    has_one_active row.disks ≡ true → (d : DiskRow) → IsIn d row.disks → stays w d ≡ false → d.attached ≡ false
goes_off w row none needed one d is away = by_vm row.vm refl (quiet (Some w) row none).none
  where
    by_role : (it : Vm) → IsTendedOut w row it → is_detached w.state ≡ false → (b : Bool) → is_active d ≡ b →
        (b && (is_some w.disk || is_detached w.state)) ≡ false → d.attached ≡ false
    by_role it out here false idle away = off_spare w row it out d is idle
    by_role it out here true plays away =
        off_active w row it out one (by_want w.disk (or_parts (is_some w.disk) (is_detached w.state) away).0) d is plays
      where
        by_want : (o : Option DiskWant) → is_some o ≡ false → o ≡ None
        by_want (Some wanted) is = absurd cc
        by_want None is = refl

    by_vm : (v : Option Vm) → row.vm ≡ v → machine_step (Some w) row v ≡ None → d.attached ≡ false
    by_vm None has none = off_none row needed has d is
    by_vm (Some it) has none = by_way (has_to_go w row it) refl none
      where
        by_way : (b : Bool) → has_to_go w row it ≡ b → (if b then removal row else tending w row) ≡ None →
            d.attached ≡ false
        by_way true goes none = absurd (always_removes row none)
        by_way false stays_here none =
            by_role it (tended_out w row it has stays_here none)
            (or_parts (is_detached w.state) _ stays_here).0 (is_active d) refl away
