-- A machine holds what is recorded, once it was asked what became of a call in doubt.
use Rattle.std.proofs.Common.{◌≡◌, ℕ, Bool, true, false, Option, Some, None, List, refl, sym, ◌∙◌, ap, subst, inl, inr}
use Rattle.std.specs.Prelude.{◌⊎◌, ◌&&◌, ◌||◌, ◌==◌, nat_eq, not, is_some, if◌then◌else◌, map}
use Rattle.std.specs.List.{list_all}
use Rattle.std.specs.Cmp.Lexicographic.{pointwise}
use Rattle.std.specs.Option.{option_eq}
use Rattle.std.proofs.lemmas.Bool.{and_from, and_parts, or_cases}
use Rattle.bosh_base.specs.Call.{method_of}
use Rattle.bosh_base.specs.CallStep.{answer_of, found_disk, found_vm, has_number, unless_gone, yes_or_no}
use Rattle.bosh_base.specs.Cloud.{attached_to, is_vm_there, numbers_to, vm_creation, vms_created}
use Rattle.bosh_base.specs.declared.answer.Answer.TheVariants as answers
use Rattle.bosh_base.specs.declared.call.Call.{Call}
use Rattle.bosh_base.specs.declared.call.Call.TheVariants as calls
use Rattle.bosh_base.specs.declared.digest.Digest.{Digest}
use Rattle.bosh_base.specs.declared.disk_want.DiskWant.{DiskWant}
use Rattle.bosh_base.specs.declared.entry.Entry.{Entry}
use Rattle.bosh_base.specs.declared.key.KeyWork.{KeyWork}
use Rattle.bosh_base.specs.declared.make.Make.{Make}
use Rattle.bosh_base.specs.declared.method.Method.TheVariants.{GetState}
use Rattle.bosh_base.specs.declared.owner.Owner.TheVariants.{Instance}
use Rattle.bosh_base.specs.declared.row.DiskRow.{DiskRow}
use Rattle.bosh_base.specs.declared.row.Row.{Row}
use Rattle.bosh_base.specs.declared.row.Vm.{Vm}
use Rattle.laws_row_facts.specs.Rows.{are_below, has_machine_as_needed, is_deleted_bare, is_found_last}
use Rattle.laws_rows.proofs.FallLemmas.{answered}
use Rattle.laws_rows.proofs.FilterLemmas.{none_listed}
use Rattle.laws_rows.proofs.FoundLemmas.{IsFoundDisk, IsFoundVm, disk-found, vm-among, vm-found}
use Rattle.laws_rows.proofs.MakeTieLemmas.{mine_in}
use Rattle.laws_rows.proofs.NumberLemmas.{find_filter}
use Rattle.laws_rows.proofs.ProbeTieLemmas.{owner-same}
use Rattle.laws_rows.proofs.SteadyLemmas.{IsTiedTo, tied-ways}
use Rattle.laws_rows.proofs.TieLemmas.{map-id}
use Rattle.laws_rows.specs.Rightful.{IsRightful, is_doubt_fit}
use Rattle.laws_rows.specs.SoundDisks.{is_recorded}
use Rattle.bosh_rows.specs.After.{attach, attached_by, let_go, with_disk, with_machine}
use Rattle.bosh_rows.specs.NextStep.{probe_method}
use Rattle.bosh_rows.specs.Same.{same_make}
use Rattle.bosh_rows.specs.Tied.{as_done, IsTiedRow, is_disk_kept, is_made_for, is_spoiled, number_of, vms_of, without_doubt}
use Rattle.laws_kept_facts.proofs.CallCases.{Doubts}
use Rattle.laws_answered_rows.proofs.HeldCases.{Holds, lost_holds, of_vm}
use Rattle.laws_answered_rows.proofs.HeldLemmas.{held_from, is_agreed}
use Rattle.laws_answered_rows.proofs.KeepsLemmas.{KeptBy, kept_by_asking}
use Rattle.laws_answered_rows.proofs.MadeHeldLemmas.{above_fresh, agreed_more, agreed_told, all_recorded, tied_agreed, unheld}
use Rattle.laws_answered_rows.proofs.ProbeLemmas.{shown_held, there_held}
use Rattle.laws_answered_rows.proofs.StillLemmas.{told_held}
use Rattle.laws_kept_facts.proofs.TellsLemmas.{held_of}

-- what the machine of a row in doubt holds: what the row has attached, or what it has once the call in doubt is done
held_ways : (xs : List Entry) (row : Row) (it : Vm) → row.lost ≡ false → row.vm ≡ Some it → Holds xs row →
    is_vm_there xs it.vm ≡ true →
    (is_agreed xs row.disks it.vm ≡ true) ⊎ (is_agreed xs (as_done xs row).disks it.vm ≡ true)
held_ways xs row it found has holds there =
    or_cases (is_agreed xs row.disks it.vm) (is_agreed xs (as_done xs row).disks it.vm)
    (sym (ap (λ b. not b || (is_agreed xs row.disks it.vm || is_agreed xs (as_done xs row).disks it.vm)) there)
    ∙ held_of xs row it found has holds)

no_vm : (o : Option Vm) → not (is_some o) ≡ true → o ≡ None
no_vm None is = refl
no_vm (Some it) is = absurd cc

module _ (built : KeyWork → List Digest → Digest) (xs : List Entry) (row : Row) (holds : Holds xs row) where
  -- ---- a deletion

  pub there_kept : (it : Vm) (m v : ℕ) → row.vm ≡ Some it → Doubts row m (calls.DeleteVm v) →
      is_deleted_bare row ≡ true → KeptBy Holds built xs row (calls.HasVm it.vm)
  there_kept it m v has doubts bare =
      kept_by_asking Holds built xs row (calls.HasVm it.vm) refl (λ n. holds) (λ n. by_lost n row.lost refl)
    where
      by_lost : (n : ℕ) (b : Bool) → row.lost ≡ b →
          Holds xs (answered n (calls.HasVm it.vm) (answer_of built xs (calls.HasVm it.vm)) row)
      by_lost n false found = there_held built xs row n it m v found has doubts bare holds
      by_lost n true lost = by_here (is_vm_there xs it.vm)
        where
          by_here : (b : Bool) → Holds xs (answered n (calls.HasVm it.vm) (yes_or_no b) row)
          by_here true = lost_holds xs (answered n (calls.HasVm it.vm) answers.Yes row) lost
          by_here false = refl

  -- ---- a machine that is looked for

  pub finds_vm_kept : (m : ℕ) (make : Make) (hint : List ℕ) → row.lost ≡ false →
      Doubts row m (calls.CreateVm make hint) → is_doubt_fit row row.doubt ≡ true →
      has_machine_as_needed row ≡ true → IsTiedRow xs row → IsRightful xs row →
      KeptBy Holds built xs row (calls.FindVm m)
  finds_vm_kept m make hint found doubts fits needed tied right =
      kept_by_asking Holds built xs row (calls.FindVm m) refl (λ n. holds) (λ n. by_found (found_vm xs m) refl)
    where
      none : row.vm ≡ None
      none =
          no_vm row.vm
          (and_parts (not (is_some row.vm)) (option_eq same_make row.make (Some make))
          (sym (ap (is_doubt_fit row) doubts) ∙ fits)).0

      whole : is_spoiled xs row ≡ false
      whole = λ i. is_spoiled xs (record row { vm = none i })

      by_way : (v : ℕ) → found_vm xs m ≡ Some v →
          IsTiedTo xs (without_doubt row) ⊎ IsTiedTo xs (as_done xs row) → is_agreed xs row.disks v ≡ true
      by_way v is (inr later) =
          tied_agreed xs (with_machine m (Some v) row) (record { vm = v; agent = m }) refl
          (subst (λ (o : Option ℕ). IsTiedTo xs (with_machine m o
          (record row { doubt = Some (record { n = m; call = calls.CreateVm make hint }) }))) is
          (subst (λ (r : Row). IsTiedTo xs r)
          (λ i. as_done xs (record row { doubt = doubts i })) later))
      by_way v is (inl before) =
          absurd (find_filter (mine_in xs row) (λ v. is_vm_there xs v && has_number m (vm_creation xs v))
          (numbers_to (vms_created xs)) v is mine
          (none_listed (vms_of xs (Instance row.inst))
          (sym (ap (λ o. pointwise nat_eq (vms_of xs (Instance row.inst)) (number_of o)) none) ∙ before.machines)))
        where
          mine : (is_vm_there xs v && has_number m (vm_creation xs v)) ≡ true → mine_in xs row v ≡ true
          mine holds =
              let it : IsFoundVm xs m v = vm-found xs m v is in
              and_from (is_vm_there xs v) _ it.there
              (ap (is_made_for (Instance row.inst)) it.made
              ∙ owner-same it.e row
              (right.owner (record { n = m; call = calls.CreateVm make hint }) it.e doubts (vm-among xs v it.e it.made)
              it.number))

      by_found : (o : Option ℕ) → found_vm xs m ≡ o → Holds xs (with_machine m o row)
      by_found None is = refl
      by_found (Some v) is =
          held_from xs (with_machine m (Some v) row)
          (of_vm xs (Some (record { vm = v; agent = m })) (record { vm = v; agent = m }) row.disks refl
          (there_either (is_vm_there xs v) (by_way v is (tied-ways xs row tied found whole))))
        where
          there_either : (b : Bool) → is_agreed xs row.disks v ≡ true → (not b || is_agreed xs row.disks v) ≡ true
          there_either true agreed = agreed
          there_either false agreed = refl

  -- ---- a disk that is looked for

  pub finds_disk_kept : (m : ℕ) (wanted : DiskWant) (v : ℕ) → Doubts row m (calls.CreateDisk wanted v) →
      is_found_last xs row ≡ true → KeptBy Holds built xs row (calls.FindDisk m)
  finds_disk_kept m wanted v doubts last =
      kept_by_asking Holds built xs row (calls.FindDisk m) refl (λ n. holds)
      (λ n. subst (λ (r : Row). Holds xs r)
      (λ i. answered n (calls.FindDisk m) (answers.Found (found_disk xs m)) (record row { doubt = sym doubts i }))
      (by_lost row.lost refl))
    where
      later : Row
      later =
          with_disk m wanted (found_disk xs m)
          (record row { doubt = Some (record { n = m; call = calls.CreateDisk wanted v }) })

      low : are_below (map (λ d. d.disk) row.disks) (found_disk xs m) ≡ true
      low = sym (λ i. is_found_last xs (record row { doubt = doubts i })) ∙ last

      later_vm : (o : Option ℕ) → (with_disk m wanted o
          (record row { doubt = Some (record { n = m; call = calls.CreateDisk wanted v }) })).vm ≡ row.vm
      later_vm (Some d) = refl
      later_vm None = refl

      later_lost : (o : Option ℕ) → (with_disk m wanted o
          (record row { doubt = Some (record { n = m; call = calls.CreateDisk wanted v }) })).lost ≡ row.lost
      later_lost (Some d) = refl
      later_lost None = refl

      by_found : (it : Vm) → is_agreed xs row.disks it.vm ≡ true → (o : Option ℕ) → found_disk xs m ≡ o →
          are_below (map (λ d. d.disk) row.disks) o ≡ true →
          is_agreed xs (with_disk m wanted o
          (record row { doubt = Some (record { n = m; call = calls.CreateDisk wanted v }) })).disks it.vm ≡ true
      by_found it agreed None is below = agreed
      by_found it agreed (Some d) is below =
          let there : IsFoundDisk xs m d = disk-found xs m d is in
          agreed_more xs it.vm row.disks _ refl
          (unheld xs it.vm row.disks d agreed there.there (above_fresh row.disks d below)) agreed

      by_way : (it : Vm) →
          (is_agreed xs row.disks it.vm ≡ true) ⊎ (is_agreed xs (as_done xs row).disks it.vm ≡ true) →
          is_agreed xs later.disks it.vm ≡ true
      by_way it (inl before) = by_found it before (found_disk xs m) refl low
      by_way it (inr done) =
          sym (λ i. is_agreed xs (as_done xs (record row { doubt = doubts i })).disks it.vm) ∙ done

      by_there : row.lost ≡ false → (it : Vm) → row.vm ≡ Some it → (b : Bool) → is_vm_there xs it.vm ≡ b →
          (not b || is_agreed xs later.disks it.vm) ≡ true
      by_there found it has true there = by_way it (held_ways xs row it found has holds there)
      by_there found it has false there = refl

      by_lost : (b : Bool) → row.lost ≡ b → Holds xs later
      by_lost true lost = lost_holds xs later (later_lost (found_disk xs m) ∙ lost)
      by_lost false found =
          held_from xs later
          (λ it has. by_there found it (sym (later_vm (found_disk xs m)) ∙ has) (is_vm_there xs it.vm) refl)

  -- ---- disks of which the machine tells

  pub lists_kept : (it : Vm) (m v x : ℕ) → row.lost ≡ false → row.vm ≡ Some it →
      (Doubts row m (calls.AttachDisk v x) ⊎ Doubts row m (calls.DetachDisk v x)) →
      list_all (is_disk_kept xs row) row.disks ≡ true → KeptBy Holds built xs row (calls.GetDisks it.vm)
  lists_kept it m v x found has doubts kept =
      kept_by_asking Holds built xs row (calls.GetDisks it.vm) refl (λ n. holds)
      (λ n. by_there n (is_vm_there xs it.vm) refl)
    where
      number : (f : DiskRow → DiskRow) → ((d : DiskRow) → (f d).disk ≡ d.disk) → (d : DiskRow) →
          (if d.disk == x then f d else d).disk ≡ d.disk
      number f same d = by_test (d.disk == x)
        where
          by_test : (b : Bool) → (if b then f d else d).disk ≡ d.disk
          by_test true = same d
          by_test false = refl

      changed : (Doubts row m (calls.AttachDisk v x) ⊎ Doubts row m (calls.DetachDisk v x)) →
          is_agreed xs (as_done xs row).disks it.vm ≡ true →
          list_all (is_recorded row.disks) (attached_to xs it.vm) ≡ true
      changed (inl is) done =
          all_recorded xs it.vm (λ d. if d.disk == x then attach d else d) (number attach (λ d. refl)) row.disks
          (sym (λ i. is_agreed xs (as_done xs (record row { doubt = is i })).disks it.vm) ∙ done)
      changed (inr is) done =
          all_recorded xs it.vm (λ d. if d.disk == x then let_go d else d) (number let_go (λ d. refl)) row.disks
          (sym (λ i. is_agreed xs (as_done xs (record row { doubt = is i })).disks it.vm) ∙ done)

      recorded : (is_agreed xs row.disks it.vm ≡ true) ⊎ (is_agreed xs (as_done xs row).disks it.vm ≡ true) →
          list_all (is_recorded row.disks) (attached_to xs it.vm) ≡ true
      recorded (inl before) =
          all_recorded xs it.vm (λ d. d) (λ d. refl) row.disks
          (ap (λ ds. is_agreed xs ds it.vm) (map-id row.disks) ∙ before)
      recorded (inr done) = changed doubts done

      by_there : (n : ℕ) (b : Bool) → is_vm_there xs it.vm ≡ b → Holds xs
          (answered n (calls.GetDisks it.vm) (unless_gone b (answers.Disks (attached_to xs it.vm))) row)
      by_there n true there =
          held_from xs (answered n (calls.GetDisks it.vm) (answers.Disks (attached_to xs it.vm)) row)
          (of_vm xs row.vm it (map (attached_by (attached_to xs it.vm)) row.disks) has
          (ap (λ b. not b || is_agreed xs (map (attached_by (attached_to xs it.vm)) row.disks) it.vm) there
          ∙ agreed_told xs row it.vm row.disks kept (recorded (held_ways xs row it found has holds there))))
      by_there n false gone =
          held_from xs (answered n (calls.GetDisks it.vm) answers.Gone row)
          (of_vm xs row.vm it row.disks has (ap (λ b. not b || is_agreed xs row.disks it.vm) gone))

  -- ---- a mount, and what is told by the agent

  pub shows_kept : (it : Vm) (m v x : ℕ) → row.lost ≡ false → row.vm ≡ Some it →
      (Doubts row m (calls.MountDisk v x) ⊎ Doubts row m (calls.UnmountDisk v x)) →
      KeptBy Holds built xs row (calls.ListDisk it.vm)
  shows_kept it m v x found has doubts =
      kept_by_asking Holds built xs row (calls.ListDisk it.vm) refl (λ n. holds)
      (λ n. shown_held built xs row n it m v x found has doubts holds)

  pub tells_kept : (it : Vm) (m : ℕ) (c : Call) → row.lost ≡ false → row.vm ≡ Some it → Doubts row m c →
      probe_method (method_of c) ≡ GetState → is_doubt_fit row row.doubt ≡ true →
      KeptBy Holds built xs row (calls.GetState it.vm)
  tells_kept it m c found has doubts state fits =
      kept_by_asking Holds built xs row (calls.GetState it.vm) refl (λ n. holds)
      (λ n. told_held built xs row n it found has holds
      ((λ i. is_agreed xs (as_done xs (record row { doubt = doubts i })).disks it.vm)
      ∙ by_call c state (sym (ap (is_doubt_fit row) doubts) ∙ fits)))
    where
      by_call : (c : Call) → probe_method (method_of c) ≡ GetState →
          is_doubt_fit row (Some (record { n = m; call = c })) ≡ true →
          is_agreed xs (as_done xs (record row { doubt = Some (record { n = m; call = c }) })).disks it.vm
          ≡ is_agreed xs row.disks it.vm
      by_call (calls.Apply v spec) state fit = refl
      by_call (calls.Start v) state fit = refl
      by_call (calls.Drain v) state fit = refl
      by_call (calls.Stop v) state fit = refl
      by_call c state fit = absurd cc
