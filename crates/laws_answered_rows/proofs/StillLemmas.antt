-- A machine holds what is recorded, after a mount, a migration and a deletion, and once its state was asked.
use Rattle.std.proofs.Common.{◌≡◌, ℕ, Bool, true, false, Option, Some, None, List, refl, sym, ◌∙◌, ap, subst}
use Rattle.std.specs.Prelude.{◌||◌, not, if◌then◌else◌}
use Rattle.std.proofs.lemmas.Bool.{eq-eqb}
use Rattle.bosh_base.specs.CallStep.{answer_of, has_agent, unless_gone}
use Rattle.bosh_base.specs.Cloud.{is_drained, is_running as runs, is_vm_there, spec_of, when}
use Rattle.bosh_base.specs.History.{chosen}
use Rattle.bosh_base.specs.declared.answer.Answer.{Answer}
use Rattle.bosh_base.specs.declared.answer.Answer.TheVariants as answers
use Rattle.bosh_base.specs.declared.call.Call.TheVariants as calls
use Rattle.bosh_base.specs.declared.digest.Digest.{Digest}
use Rattle.bosh_base.specs.declared.entry.Entry.{Entry}
use Rattle.bosh_base.specs.declared.entry.Entry.TheVariants.{Effect}
use Rattle.bosh_base.specs.declared.key.KeyWork.{KeyWork}
use Rattle.bosh_base.specs.declared.row.DiskRow.{DiskRow}
use Rattle.bosh_base.specs.declared.row.Role.{Role}
use Rattle.bosh_base.specs.declared.row.Role.TheVariants.{Active, Old}
use Rattle.bosh_base.specs.declared.row.Row.{Row}
use Rattle.bosh_base.specs.declared.row.Vm.{Vm}
use Rattle.laws_effects.proofs.CreationLemmas.{is_vm_there-grown}
use Rattle.laws_row_facts.specs.Rows.{holds_its_disks}
use Rattle.laws_row_facts.specs.Words.{where_any}
use Rattle.laws_rows.proofs.TieLemmas.{of_row}
use Rattle.laws_rows.specs.Rightful.{done_with}
use Rattle.bosh_rows.specs.After.{after, begun_row, changing, mount, unmount, without_machine}
use Rattle.bosh_rows.specs.Tied.{as_done}
use Rattle.laws_answered_rows.proofs.HeldLemmas.{SamePlaces, held_from, is_agreed, is_agreed_there, known_held, same_disks}
use Rattle.laws_answered_rows.proofs.ProbeLemmas.{placed_one, settled_held}

-- the same of whatever the row has as its machine
of_vm : (xs : List Entry) (row : Row) (it : Vm) (ds : List DiskRow) → row.vm ≡ Some it →
    is_agreed_there xs ds it.vm ≡ true → (other : Vm) → row.vm ≡ Some other →
    is_agreed_there xs ds other.vm ≡ true
of_vm xs row it ds has is other too =
    subst (λ (o : Option Vm). where_any (λ it. is_agreed_there xs ds it.vm) o ≡ true) (sym has ∙ too) is

-- ---- a mount and a migration

pub mount_places : (n v d : ℕ) (answer : Answer) (row : Row) →
    SamePlaces row (after n (calls.MountDisk v d) answer (begun_row n (calls.MountDisk v d) row))
mount_places n v d answers.Done row = record {
  vm = refl;
  agreed = λ xs u. ap (λ b. not (is_vm_there xs u) || b)
      (placed_one xs u d mount (λ it. refl) (λ it. refl) row.disks);
}
mount_places n v d answers.Gone row = same_disks row _ refl refl
mount_places n v d answer row = same_disks row _ refl refl

pub unmount_places : (n v d : ℕ) (answer : Answer) (row : Row) →
    SamePlaces row (after n (calls.UnmountDisk v d) answer (begun_row n (calls.UnmountDisk v d) row))
unmount_places n v d answers.Done row = record {
  vm = refl;
  agreed = λ xs u. ap (λ b. not (is_vm_there xs u) || b)
      (placed_one xs u d unmount (λ it. refl) (λ it. refl) row.disks);
}
unmount_places n v d answers.Gone row = same_disks row _ refl refl
unmount_places n v d answer row = same_disks row _ refl refl

-- the disk with another role
abbrev with_role : Role → DiskRow → DiskRow
with_role role d = record d { role = role }

pub migrate_places : (n v from to : ℕ) (answer : Answer) (row : Row) →
    SamePlaces row (after n (calls.MigrateDisk v from to) answer (begun_row n (calls.MigrateDisk v from to) row))
migrate_places n v from to answers.Done row = record {
  vm = refl;
  agreed = λ xs u. ap (λ b. not (is_vm_there xs u) || b)
      (placed_one xs u to (with_role Active) (λ it. refl) (λ it. refl)
      (changing from (with_role Old) row.disks)
      ∙ placed_one xs u from (with_role Old) (λ it. refl) (λ it. refl) row.disks);
}
migrate_places n v from to answers.Gone row = same_disks row _ refl refl
migrate_places n v from to answer row = same_disks row _ refl refl

-- ---- a deletion

-- however the deletion of the machine of a known row is answered
pub deleted_held : (xs : List Entry) (row : Row) (n : ℕ) (dep : List ℕ) (it : Vm) (b : Bool) (answer : Answer) →
    row.lost ≡ false → row.vm ≡ Some it → row.doubt ≡ None → holds_its_disks xs row ≡ true →
    holds_its_disks (done_with b xs (of_row row n dep (calls.DeleteVm it.vm)))
    (after n (calls.DeleteVm it.vm) answer (begun_row n (calls.DeleteVm it.vm) row)) ≡ true
deleted_held xs row n dep it b answer found has known holds = by_answer answer
  where
    agreed : (b : Bool) →
        is_agreed_there (done_with b xs (of_row row n dep (calls.DeleteVm it.vm))) row.disks it.vm ≡ true
    agreed true =
        let gone : is_vm_there (done_with true xs (of_row row n dep (calls.DeleteVm it.vm))) it.vm ≡ false =
        is_vm_there-grown xs (Effect (of_row row n dep (calls.DeleteVm it.vm))) it.vm
        ∙ ap (λ b. chosen (when b false) (is_vm_there xs it.vm)) (eq-eqb it.vm it.vm refl) in
        ap (λ here. not here
        || is_agreed (done_with true xs (of_row row n dep (calls.DeleteVm it.vm))) row.disks it.vm) gone
    agreed false = known_held xs row it found has known holds

    by_answer : (answer : Answer) → holds_its_disks (done_with b xs (of_row row n dep (calls.DeleteVm it.vm)))
        (after n (calls.DeleteVm it.vm) answer (begun_row n (calls.DeleteVm it.vm) row)) ≡ true
    by_answer answers.Done = refl
    by_answer answers.Gone =
        (λ i. holds_its_disks (done_with b xs (of_row row n dep (calls.DeleteVm it.vm)))
        (if found i then without_machine (begun_row n (calls.DeleteVm it.vm) row)
        else record (begun_row n (calls.DeleteVm it.vm) row) { doubt = None }))
        ∙ held_from (done_with b xs (of_row row n dep (calls.DeleteVm it.vm)))
        (record (begun_row n (calls.DeleteVm it.vm) row) { doubt = None })
        (of_vm (done_with b xs (of_row row n dep (calls.DeleteVm it.vm))) row it row.disks has (agreed b))
    by_answer answer =
        held_from (done_with b xs (of_row row n dep (calls.DeleteVm it.vm)))
        (begun_row n (calls.DeleteVm it.vm) row)
        (of_vm (done_with b xs (of_row row n dep (calls.DeleteVm it.vm))) row it row.disks has (agreed b))

-- ---- a machine that is asked for its state

-- where the call in doubt moves no disk
pub told_held : (built : KeyWork → List Digest → Digest) (xs : List Entry) (row : Row) (n : ℕ) (it : Vm) →
    row.lost ≡ false → row.vm ≡ Some it → holds_its_disks xs row ≡ true →
    is_agreed xs (as_done xs row).disks it.vm ≡ is_agreed xs row.disks it.vm →
    holds_its_disks xs (after n (calls.GetState it.vm) (answer_of built xs (calls.GetState it.vm)) row) ≡ true
told_held built xs row n it found has holds same = by_here (has_agent xs it.vm)
  where
    agreed : is_agreed_there xs row.disks it.vm ≡ true
    agreed = settled_held xs row it found has holds same

    by_here : (b : Bool) → holds_its_disks xs
        (after n (calls.GetState it.vm)
        (unless_gone b (answers.Facts (spec_of xs it.vm) (runs xs it.vm) (is_drained xs it.vm))) row) ≡ true
    by_here true =
        held_from xs
        (after n (calls.GetState it.vm) (answers.Facts (spec_of xs it.vm) (runs xs it.vm) (is_drained xs it.vm)) row)
        (of_vm xs row it row.disks has agreed)
    by_here false =
        held_from xs (after n (calls.GetState it.vm) answers.Gone row) (of_vm xs row it row.disks has agreed)
