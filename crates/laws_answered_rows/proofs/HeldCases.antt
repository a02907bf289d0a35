-- A machine holds what is recorded after each call of its row, however it is answered.
use Rattle.std.proofs.Common.{◌≡◌, ℕ, ◌+◌, Bool, true, false, Option, Some, None, List, refl, sym, ◌∙◌, ap, subst}
use Rattle.std.specs.Prelude.{◌&&◌, ◌||◌, not, is_some, if◌then◌else◌}
use Rattle.std.specs.List.{list_all}
use Rattle.std.proofs.lemmas.Bool.{and_parts, or_right}
use Rattle.bosh_base.specs.CallStep.{is_movable}
use Rattle.bosh_base.specs.Cloud.{disks_created, is_vm_there, vms_created}
use Rattle.bosh_base.specs.declared.answer.Answer.TheVariants as answers
use Rattle.bosh_base.specs.declared.call.Call.TheVariants as calls
use Rattle.bosh_base.specs.declared.digest.Digest.{Digest}
use Rattle.bosh_base.specs.declared.disk_want.DiskWant.{DiskWant}
use Rattle.bosh_base.specs.declared.entry.Entry.{Entry}
use Rattle.bosh_base.specs.declared.key.KeyWork.{KeyWork}
use Rattle.bosh_base.specs.declared.make.Make.{Make}
use Rattle.bosh_base.specs.declared.row.DiskRow.{DiskRow}
use Rattle.bosh_base.specs.declared.row.Row.{Row}
use Rattle.bosh_base.specs.declared.row.Vm.{Vm}
use Rattle.laws_effects.specs.Orderly.{AreOrderly}
use Rattle.laws_row_facts.specs.Rows.{has_machine_as_needed, holds_its_disks, holds_what_is_attached, is_held_as_settled}
use Rattle.laws_row_facts.specs.Words.{where_any}
use Rattle.laws_rows.proofs.FallLemmas.{answered}
use Rattle.laws_rows.proofs.TieLemmas.{with_call}
use Rattle.laws_rows.specs.SoundDisks.{is_recorded}
use Rattle.bosh_rows.specs.After.{attach, begun_row, changing, let_go, without_machine}
use Rattle.bosh_rows.specs.Tied.{as_done, number_of, without_doubt}
use Rattle.laws_answered_rows.proofs.AgreedLemmas.{agreed_attach, agreed_detach}
use Rattle.laws_answered_rows.proofs.HeldLemmas.{held_as, held_from, is_agreed, is_agreed_there, known_held}
use Rattle.laws_answered_rows.proofs.KeepsLemmas.{KeptBy, kept_by_change}
use Rattle.laws_answered_rows.proofs.MadeHeldLemmas.{agreed_made, agreed_more, agreed_none, made_free, new_holds_none}

abbrev pub Holds : List Entry → Row → Type 0
Holds xs row = holds_its_disks xs row ≡ true

-- where its machine is there, it holds what the row has attached once the call in doubt is done
pub held_done : (ys : List Entry) (row : Row) →
    ((it : Vm) → row.vm ≡ Some it → is_agreed_there ys (as_done ys row).disks it.vm ≡ true) → Holds ys row
held_done ys row each =
    held_as ys row
    (λ it has. by_truth (is_vm_there ys it.vm) (holds_what_is_attached ys (without_doubt row) it.vm)
    (holds_what_is_attached ys (as_done ys row) it.vm) (each it has))
  where
    by_truth : (t a b : Bool) → (not t || b) ≡ true → (not t || (a || b)) ≡ true
    by_truth true true b is = refl
    by_truth true false b is = is
    by_truth false a b is = refl

-- what holds of its machine holds of whatever it has as its machine
pub of_vm : (xs : List Entry) (o : Option Vm) (it : Vm) (ds : List DiskRow) → o ≡ Some it →
    is_agreed_there xs ds it.vm ≡ true → (other : Vm) → o ≡ Some other → is_agreed_there xs ds other.vm ≡ true
of_vm xs o it ds has is other too =
    subst (λ (o : Option Vm). where_any (λ it. is_agreed_there xs ds it.vm) o ≡ true) (sym has ∙ too) is

there_agreed : (xs : List Entry) (ds : List DiskRow) (v : ℕ) → is_vm_there xs v ≡ true →
    is_agreed_there xs ds v ≡ true → is_agreed xs ds v ≡ true
there_agreed xs ds v there is = sym (ap (λ b. not b || is_agreed xs ds v) there) ∙ is

-- nothing is said of what the machine of a lost row holds
pub lost_holds : (ys : List Entry) (new : Row) → new.lost ≡ true → Holds ys new
lost_holds ys new lost = ap (λ b. b || list_all (is_held_as_settled ys new) (number_of new.vm)) lost

-- a row without a machine has no disk attached
off : (row : Row) → row.vm ≡ None → has_machine_as_needed row ≡ true →
    list_all (λ d. not d.attached && not d.mounted) row.disks ≡ true
off row none needed =
    sym (ap (λ (o : Option Vm). is_some o || list_all (λ d. not d.attached && not d.mounted) row.disks) none)
    ∙ (and_parts _ (is_some row.vm || list_all (λ d. not d.attached && not d.mounted) row.disks) needed).1

module _ (built : KeyWork → List Digest → Digest) (xs : List Entry) (row : Row) (holds : Holds xs row) where
  -- ---- a row that is known

  module _ (orderly : AreOrderly xs) (found : row.lost ≡ false) (known : row.doubt ≡ None) where
    agreed_first : (it : Vm) → row.vm ≡ Some it → is_agreed_there xs row.disks it.vm ≡ true
    agreed_first it has = known_held xs row it found has known holds

    pub attach_held : (it : Vm) (x : ℕ) → row.vm ≡ Some it → is_recorded row.disks x ≡ true →
        KeptBy Holds built xs row (calls.AttachDisk it.vm x)
    attach_held it x has recorded =
        kept_by_change Holds built xs row (calls.AttachDisk it.vm x) (is_vm_there xs it.vm && is_movable xs it.vm x)
        answers.Done refl refl refl (record {
          done = λ n dep fresh here.
              held_from (with_call xs row n dep (calls.AttachDisk it.vm x))
              (answered n (calls.AttachDisk it.vm x) answers.Done row)
              (of_vm (with_call xs row n dep (calls.AttachDisk it.vm x)) row.vm it (changing x attach row.disks) has
              (moved n dep here));
          gone = λ n here.
              held_from xs (answered n (calls.AttachDisk it.vm x) answers.Gone row)
              (of_vm xs row.vm it row.disks has (agreed_first it has));
          in_doubt = λ n dep fresh here.
              held_done (with_call xs row n dep (calls.AttachDisk it.vm x))
              (begun_row n (calls.AttachDisk it.vm x) row)
              (of_vm (with_call xs row n dep (calls.AttachDisk it.vm x)) row.vm it (changing x attach row.disks) has
              (moved n dep here));
          undone = λ n fresh.
              held_from xs (begun_row n (calls.AttachDisk it.vm x) row)
              (of_vm xs row.vm it row.disks has (agreed_first it has));
        })
      where
        moved : (n : ℕ) (dep : List ℕ) → (is_vm_there xs it.vm && is_movable xs it.vm x) ≡ true →
            is_agreed_there (with_call xs row n dep (calls.AttachDisk it.vm x)) (changing x attach row.disks) it.vm
            ≡ true
        moved n dep here =
            let there : is_vm_there xs it.vm ≡ true =
            (and_parts (is_vm_there xs it.vm) (is_movable xs it.vm x) here).0 in
            or_right (not (is_vm_there (with_call xs row n dep (calls.AttachDisk it.vm x)) it.vm)) _
            (agreed_attach xs row it.vm x n dep row.disks there recorded
            (there_agreed xs row.disks it.vm there (agreed_first it has)))

    pub detach_held : (it : Vm) (x : ℕ) → row.vm ≡ Some it → KeptBy Holds built xs row (calls.DetachDisk it.vm x)
    detach_held it x has =
        kept_by_change Holds built xs row (calls.DetachDisk it.vm x) (is_vm_there xs it.vm && is_movable xs it.vm x)
        answers.Done refl refl refl (record {
          done = λ n dep fresh here.
              held_from (with_call xs row n dep (calls.DetachDisk it.vm x))
              (answered n (calls.DetachDisk it.vm x) answers.Done row)
              (of_vm (with_call xs row n dep (calls.DetachDisk it.vm x)) row.vm it (changing x let_go row.disks) has
              (moved n dep here));
          gone = λ n here.
              held_from xs (answered n (calls.DetachDisk it.vm x) answers.Gone row)
              (of_vm xs row.vm it row.disks has (agreed_first it has));
          in_doubt = λ n dep fresh here.
              held_done (with_call xs row n dep (calls.DetachDisk it.vm x))
              (begun_row n (calls.DetachDisk it.vm x) row)
              (of_vm (with_call xs row n dep (calls.DetachDisk it.vm x)) row.vm it (changing x let_go row.disks) has
              (moved n dep here));
          undone = λ n fresh.
              held_from xs (begun_row n (calls.DetachDisk it.vm x) row)
              (of_vm xs row.vm it row.disks has (agreed_first it has));
        })
      where
        moved : (n : ℕ) (dep : List ℕ) → (is_vm_there xs it.vm && is_movable xs it.vm x) ≡ true →
            is_agreed_there (with_call xs row n dep (calls.DetachDisk it.vm x)) (changing x let_go row.disks) it.vm
            ≡ true
        moved n dep here =
            let there : is_vm_there xs it.vm ≡ true =
            (and_parts (is_vm_there xs it.vm) (is_movable xs it.vm x) here).0 in
            or_right (not (is_vm_there (with_call xs row n dep (calls.DetachDisk it.vm x)) it.vm)) _
            (agreed_detach xs row it.vm x n dep row.disks
            (there_agreed xs row.disks it.vm there (agreed_first it has)))

    pub provide_held : (it : Vm) (wanted : DiskWant) → row.vm ≡ Some it →
        KeptBy Holds built xs row (calls.CreateDisk wanted it.vm)
    provide_held it wanted has =
        kept_by_change Holds built xs row (calls.CreateDisk wanted it.vm) (is_vm_there xs it.vm)
        (answers.Cid (disks_created xs + 1)) refl refl refl (record {
          done = λ n dep fresh there.
              held_from (with_call xs row n dep (calls.CreateDisk wanted it.vm))
              (answered n (calls.CreateDisk wanted it.vm) (answers.Cid (disks_created xs + 1)) row)
              (of_vm (with_call xs row n dep (calls.CreateDisk wanted it.vm)) row.vm it
              (answered n (calls.CreateDisk wanted it.vm) (answers.Cid (disks_created xs + 1)) row).disks has
              (or_right (not (is_vm_there (with_call xs row n dep (calls.CreateDisk wanted it.vm)) it.vm)) _
              (agreed_more (with_call xs row n dep (calls.CreateDisk wanted it.vm)) it.vm row.disks _ refl
              (made_free xs row wanted it.vm it.vm n dep orderly) (still n dep there))));
          gone = λ n there.
              held_from xs (answered n (calls.CreateDisk wanted it.vm) answers.Gone row)
              (of_vm xs row.vm it row.disks has (agreed_first it has));
          in_doubt = λ n dep fresh there.
              held_from (with_call xs row n dep (calls.CreateDisk wanted it.vm))
              (begun_row n (calls.CreateDisk wanted it.vm) row)
              (of_vm (with_call xs row n dep (calls.CreateDisk wanted it.vm)) row.vm it row.disks has
              (or_right (not (is_vm_there (with_call xs row n dep (calls.CreateDisk wanted it.vm)) it.vm)) _
              (still n dep there)));
          undone = λ n fresh.
              held_from xs (begun_row n (calls.CreateDisk wanted it.vm) row)
              (of_vm xs row.vm it row.disks has (agreed_first it has));
        })
      where
        still : (n : ℕ) (dep : List ℕ) → is_vm_there xs it.vm ≡ true →
            is_agreed (with_call xs row n dep (calls.CreateDisk wanted it.vm)) row.disks it.vm ≡ true
        still n dep there =
            agreed_made xs row wanted it.vm it.vm n dep row.disks orderly
            (there_agreed xs row.disks it.vm there (agreed_first it has))

    pub create_held : (make : Make) (hint : List ℕ) → row.vm ≡ None → has_machine_as_needed row ≡ true →
        KeptBy Holds built xs row (calls.CreateVm make hint)
    create_held make hint none needed =
        kept_by_change Holds built xs row (calls.CreateVm make hint) true (answers.Cid (vms_created xs + 1)) refl refl
        refl (record {
          done = λ n dep fresh here.
              held_from (with_call xs row n dep (calls.CreateVm make hint))
              (answered n (calls.CreateVm make hint) (answers.Cid (vms_created xs + 1)) row)
              (of_vm (with_call xs row n dep (calls.CreateVm make hint))
              (Some (record { vm = vms_created xs + 1; agent = n })) (record { vm = vms_created xs + 1; agent = n })
              row.disks refl
              (or_right (not (is_vm_there (with_call xs row n dep (calls.CreateVm make hint)) (vms_created xs + 1))) _
              (agreed_none (with_call xs row n dep (calls.CreateVm make hint)) (vms_created xs + 1) row.disks
              (new_holds_none xs row make hint n dep orderly) (off row none needed))));
          gone = λ n here. absurd cc;
          in_doubt = λ n dep fresh here.
              held_from (with_call xs row n dep (calls.CreateVm make hint))
              (begun_row n (calls.CreateVm make hint) row)
              (λ it has. absurd (not_both it (sym none ∙ has)));
          undone = λ n fresh.
              held_from xs (begun_row n (calls.CreateVm make hint) row)
              (λ it has. absurd (not_both it (sym none ∙ has)));
        })
      where
        not_both : (it : Vm) → None ≡ Some it → ⊥
        not_both it is = cc

  -- ---- a row that is lost

  pub deletes_held : (it : Vm) → row.lost ≡ true → KeptBy Holds built xs row (calls.DeleteVm it.vm)
  deletes_held it lost =
      kept_by_change Holds built xs row (calls.DeleteVm it.vm) (is_vm_there xs it.vm) answers.Done refl refl refl
      (record {
        done = λ n dep fresh there. refl;
        gone = λ n there. gone n row.lost lost;
        in_doubt = λ n dep fresh there.
            lost_holds (with_call xs row n dep (calls.DeleteVm it.vm)) (begun_row n (calls.DeleteVm it.vm) row) lost;
        undone = λ n fresh. lost_holds xs (begun_row n (calls.DeleteVm it.vm) row) lost;
      })
    where
      gone : (n : ℕ) (b : Bool) → b ≡ true → Holds xs
          (if b then without_machine (begun_row n (calls.DeleteVm it.vm) row)
          else record (begun_row n (calls.DeleteVm it.vm) row) { doubt = None })
      gone n true is = refl
      gone n false is = absurd cc
