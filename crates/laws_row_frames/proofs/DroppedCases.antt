-- The disks that go once an update is done, or a row is dropped, are on no machine.
use Rattle.std.proofs.Common.{◌≡◌, ℕ, Bool, true, false, Option, Some, None, List, [], ◌∷◌, refl, sym, ◌∙◌, ap, inl, inr}
use Rattle.std.specs.Prelude.{◌||◌, ◌==◌, nat_eq, not, is_some, if◌then◌else◌, filter}
use Rattle.std.specs.List.{list_all, list_any}
use Rattle.std.specs.Cmp.Lexicographic.{pointwise}
use Rattle.std.proofs.lemmas.Bool.{and_from, and_parts, eq-eqb, eqb-true, not-true, or_right}
use Rattle.bosh_base.specs.Cloud.{attached_to, holder_of, is_holder, is_vm_there, vm_creation, disk_creation}
use Rattle.bosh_base.specs.declared.entry.Entry.{Entry}
use Rattle.bosh_base.specs.declared.goal.GoalRow.{GoalRow}
use Rattle.bosh_base.specs.declared.owner.Owner.TheVariants.{Instance}
use Rattle.bosh_base.specs.declared.row.DiskRow.{DiskRow}
use Rattle.bosh_base.specs.declared.row.Row.{Row}
use Rattle.bosh_base.specs.declared.row.Vm.{Vm}
use Rattle.laws_answered_rows.proofs.AgreedLemmas.{is_on}
use Rattle.laws_answered_rows.proofs.HeldLemmas.{is_agreed, known_held}
use Rattle.laws_answered_rows.proofs.OwnLemmas.{created_parts}
use Rattle.laws_effects.proofs.AheadLemmas.{last_holder}
use Rattle.laws_effects.specs.Holders.{AreHeldByTheirOwn}
use Rattle.laws_row_facts.specs.Rows.{RowFacts}
use Rattle.laws_rows.proofs.ListLemmas.{IsIn, all_from, all_in}
use Rattle.laws_rows.proofs.ProbeTieLemmas.{there_held}
use Rattle.laws_rows.proofs.SoundLemmas.{one_of}
use Rattle.laws_rows.proofs.StandLemmas.{IsQuiet, dropped, quiet}
use Rattle.laws_rows.proofs.SteadyLemmas.{tied-known}
use Rattle.laws_rows.proofs.TieLemmas.{is_held_by}
use Rattle.laws_rows.proofs.WeakTieLemmas.{IsWeak, weak-parts}
use Rattle.laws_rows.proofs.WholeTieLemmas.{lost-tied, tied-whole, truth-same}
use Rattle.bosh_rows.specs.After.{bare, left_behind}
use Rattle.bosh_rows.specs.Disks.{stays}
use Rattle.bosh_rows.specs.NextStep.{next_step}
use Rattle.bosh_rows.specs.Standing.{same_truth}
use Rattle.bosh_rows.specs.Tied.{as_done, is_disk_kept, is_made_for, is_spoiled, is_tied_to, is_tied_to_lost, number_of, vms_of, without_doubt}
use Rattle.laws_row_frames.proofs.FrameLemmas.{disk_of}
use Rattle.laws_row_frames.proofs.LeavingLemmas.{goes_off, off_none}
use Rattle.laws_row_frames.proofs.OthersLemmas.{made_by, owner_of}
use Rattle.laws_row_frames.specs.Updates.{is_let_go_of}
use Rattle.laws_row_facts.proofs.StartLemmas.{bare_row}

-- ---- a disk that is not attached

module _ (xs : List Entry) (row : Row) (facts : RowFacts xs row) (held : AreHeldByTheirOwn xs)
    (found : row.lost ≡ false) (known : row.doubt ≡ None) where
  weak : IsWeak xs row
  weak = by_spoiled (is_spoiled xs row) refl
    where
      by_spoiled : (b : Bool) → is_spoiled xs row ≡ b → IsWeak xs row
      by_spoiled true spoils =
          weak-parts xs row
          (sym (ap (λ (b : Bool). if b then is_tied_to_lost xs row
          else is_tied_to xs (without_doubt row) || is_tied_to xs (as_done xs row)) (or_right row.lost _ spoils))
          ∙ facts.tied)
      by_spoiled false whole =
          weak-parts xs row (lost-tied xs row (tied-known xs row facts.tied found whole known))

  -- the recorded machine does not hold it
  not_ours : (d : DiskRow) → IsIn d row.disks → d.attached ≡ false → (u : ℕ) → holder_of xs d.disk ≡ Some u →
      (o : Option Vm) → row.vm ≡ o → list_any (λ k. k == u) (number_of o) ≡ true → is_vm_there xs u ≡ true → ⊥
  not_ours d is off u holds None has listed there = cc
  not_ours d is off u holds (Some it) has listed there =
      no (is_holder xs it.vm d.disk)
      (truth-same (is_holder xs it.vm d.disk) d.attached
      (all_in (λ d. same_truth (is_holder xs it.vm d.disk) d.attached) d row.disks
      (and_parts (list_all (λ d. same_truth (is_holder xs it.vm d.disk) d.attached) row.disks)
      (list_all (is_on row.disks) (attached_to xs it.vm)) agreed).0 is) ∙ off)
      (ap (is_held_by it.vm) holds ∙ eq-eqb u it.vm (sym same))
    where
      by_or : (b : Bool) → (b || false) ≡ true → b ≡ true
      by_or true is = refl
      by_or false is = is

      same : it.vm ≡ u
      same = eqb-true it.vm u (by_or (it.vm == u) listed)

      agreed : is_agreed xs row.disks it.vm ≡ true
      agreed =
          sym (ap (λ b. not b || is_agreed xs row.disks it.vm) (ap (is_vm_there xs) same ∙ there))
          ∙ known_held xs row it found has known facts.holds_disks

      no : (b : Bool) → b ≡ false → b ≡ true → ⊥
      no true off on = cc
      no false off on = cc

  free_disk : (d : DiskRow) → IsIn d row.disks → d.attached ≡ false → is_let_go_of xs row d ≡ true
  free_disk d is off =
      and_from (is_disk_kept xs row d) _ kept (ap (λ o. not (is_some o)) (by_holder (holder_of xs d.disk) refl))
    where
      kept : is_disk_kept xs row d ≡ true
      kept = all_in (is_disk_kept xs row) d row.disks (created_parts xs row facts.created).kept is

      by_holder : (o : Option ℕ) → holder_of xs d.disk ≡ o → o ≡ None
      by_holder None holds = refl
      by_holder (Some u) holds =
          let there : is_vm_there xs u ≡ true = there_held xs u (last_holder xs d.disk) holds in
          let of : is_made_for (Instance row.inst) (vm_creation xs u) ≡ true =
          made_by row.inst (vm_creation xs u)
          (held d.disk u holds ∙ owner_of row.inst (disk_creation xs d.disk) (disk_of xs row d kept)) in
          absurd (not_ours d is off u holds row.vm refl
          (weak.machines u (and_from (is_vm_there xs u) _ there of)) there)

-- ---- the disks that go

filter_in : (keep : DiskRow → Bool) (d : DiskRow) (ds : List DiskRow) → IsIn d (filter keep ds) →
    IsIn d ds × (keep d ≡ true)
filter_in keep d [] is = absurd is
filter_in keep d (e ∷ ds) is = by_test (keep e) refl is (filter_in keep d ds)
  where
    by_test : (b : Bool) → keep e ≡ b → IsIn d (if b then e ∷ filter keep ds else filter keep ds) →
        (IsIn d (filter keep ds) → IsIn d ds × (keep d ≡ true)) → IsIn d (e ∷ ds) × (keep d ≡ true)
    by_test true keeps (inl same) others = (inl same, ap keep (sym same) ∙ keeps)
    by_test true keeps (inr is) others = let it : IsIn d ds × (keep d ≡ true) = others is in (inr it.0, it.1)
    by_test false goes is others = let it : IsIn d ds × (keep d ≡ true) = others is in (inr it.0, it.1)

pub left_free : (xs : List Entry) (want : GoalRow) (row : Row) → RowFacts xs row → AreHeldByTheirOwn xs →
    next_step (Some want) row ≡ None → list_all (is_let_go_of xs row) (left_behind want row) ≡ true
left_free xs want row facts held none =
    all_from (is_let_go_of xs row) (left_behind want row)
    (λ d is.
    let it : IsIn d row.disks × (not (stays want d) ≡ true) = filter_in (λ d. not (stays want d)) d row.disks is in
    free_disk xs row facts held (quiet (Some want) row none).unlost (quiet (Some want) row none).known d it.0
    (goes_off want row none facts.has_machine (one_of row.disks facts.sound_disks) d it.0
    (not-true (stays want d) it.1)))

pub dropped_free : (xs : List Entry) (row : Row) → RowFacts xs row → AreHeldByTheirOwn xs →
    next_step None row ≡ None → list_all (is_let_go_of xs row) row.disks ≡ true
dropped_free xs row facts held none =
    all_from (is_let_go_of xs row) row.disks
    (λ d is. free_disk xs row facts held (quiet None row none).unlost (quiet None row none).known d is
    (off_none row facts.has_machine (dropped row none).1 d is))

-- ---- the row that is dropped

pub dropped_kept : (xs : List Entry) (row : Row) → RowFacts xs row → next_step None row ≡ None →
    RowFacts xs (bare row.inst)
dropped_kept xs row facts none =
    bare_row xs row.inst
    (tied-whole xs (bare row.inst) refl
    (record { machines = machines; facts = refl; kept = refl; placed = refl; others = refl }))
  where
    it : IsQuiet None row
    it = quiet None row none

    has : row.vm ≡ None
    has = (dropped row none).1

    whole : is_spoiled xs row ≡ false
    whole = λ i. is_spoiled xs (record row { vm = has i })

    machines : pointwise nat_eq (vms_of xs (Instance row.inst)) [] ≡ true
    machines =
        sym (ap (λ o. pointwise nat_eq (vms_of xs (Instance row.inst)) (number_of o)) has)
        ∙ (tied-known xs row facts.tied it.unlost whole it.known).machines
