-- A machine holds what is recorded, once it was asked what became of a call.
use Rattle.std.proofs.Common.{◌≡◌, ℕ, Bool, true, false, Option, Some, List, [], ◌∷◌, refl, sym, ◌∙◌, ap, subst, inl, inr}
use Rattle.std.specs.Prelude.{◌⊎◌, ◌&&◌, ◌||◌, ◌==◌, not, if◌then◌else◌, map}
use Rattle.std.specs.List.{list_all, list_any}
use Rattle.std.proofs.lemmas.Bool.{and_parts, not-true}
use Rattle.bosh_base.specs.CallStep.{answer_of, has_agent, unless_gone, yes_or_no}
use Rattle.bosh_base.specs.Cloud.{attached_to, is_holder, is_vm_there, mounted_on}
use Rattle.bosh_base.specs.declared.answer.Answer.TheVariants as answers
use Rattle.bosh_base.specs.declared.call.Call.TheVariants as calls
use Rattle.bosh_base.specs.declared.digest.Digest.{Digest}
use Rattle.bosh_base.specs.declared.entry.Entry.{Entry}
use Rattle.bosh_base.specs.declared.key.KeyWork.{KeyWork}
use Rattle.bosh_base.specs.declared.row.DiskRow.{DiskRow}
use Rattle.bosh_base.specs.declared.row.Row.{Row}
use Rattle.bosh_base.specs.declared.row.Vm.{Vm}
use Rattle.laws_row_facts.specs.Rows.{holds_its_disks, holds_what_is_attached}
use Rattle.laws_row_facts.specs.Words.{where_any}
use Rattle.bosh_rows.specs.After.{after, changing, let_go, mount, mounted_by, unmount}
use Rattle.bosh_rows.specs.Standing.{same_truth}
use Rattle.bosh_rows.specs.Tied.{as_done, without_doubt}
use Rattle.laws_kept_facts.proofs.CallCases.{Doubts}
use Rattle.laws_answered_rows.proofs.HeldLemmas.{agreed_map, held_from, is_agreed, is_agreed_there}
use Rattle.laws_kept_facts.proofs.TellsLemmas.{held_of}
use Rattle.laws_row_facts.specs.Rows.{is_deleted_bare}

-- it holds it where the call in doubt moves no disk
pub settled_held : (xs : List Entry) (row : Row) (it : Vm) → row.lost ≡ false → row.vm ≡ Some it →
    holds_its_disks xs row ≡ true → is_agreed xs (as_done xs row).disks it.vm ≡ is_agreed xs row.disks it.vm →
    is_agreed_there xs row.disks it.vm ≡ true
settled_held xs row it found has holds same =
    by_truth (is_vm_there xs it.vm) (is_agreed xs row.disks it.vm)
    (sym (ap (λ b. not (is_vm_there xs it.vm) || (holds_what_is_attached xs (without_doubt row) it.vm || b)) same)
    ∙ held_of xs row it found has holds)
  where
    by_truth : (t a : Bool) → (not t || (a || a)) ≡ true → (not t || a) ≡ true
    by_truth true true is = refl
    by_truth true false is = is
    by_truth false a is = refl

-- a change of one disk that leaves it where it is
pub placed_one : (xs : List Entry) (v x : ℕ) (f : DiskRow → DiskRow) → ((d : DiskRow) → (f d).disk ≡ d.disk) →
    ((d : DiskRow) → (f d).attached ≡ d.attached) → (ds : List DiskRow) →
    is_agreed xs (changing x f ds) v ≡ is_agreed xs ds v
placed_one xs v x f number placed ds =
    agreed_map xs v (λ d. if d.disk == x then f d else d) (λ d. by_number d (d.disk == x))
    (λ d. by_place d (d.disk == x)) ds
  where
    by_number : (d : DiskRow) (b : Bool) → (if b then f d else d).disk ≡ d.disk
    by_number d true = number d
    by_number d false = refl

    by_place : (d : DiskRow) (b : Bool) → (if b then f d else d).attached ≡ d.attached
    by_place d true = placed d
    by_place d false = refl

-- the disks once a mount in doubt is told of
pub shown_held : (built : KeyWork → List Digest → Digest) (xs : List Entry) (row : Row) (n : ℕ) (it : Vm) (m v x : ℕ) →
    row.lost ≡ false → row.vm ≡ Some it →
    (Doubts row m (calls.MountDisk v x) ⊎ Doubts row m (calls.UnmountDisk v x)) → holds_its_disks xs row ≡ true →
    holds_its_disks xs (after n (calls.ListDisk it.vm) (answer_of built xs (calls.ListDisk it.vm)) row) ≡ true
shown_held built xs row n it m v x found has doubts holds = by_here (has_agent xs it.vm)
  where
    same : (Doubts row m (calls.MountDisk v x) ⊎ Doubts row m (calls.UnmountDisk v x)) →
        is_agreed xs (as_done xs row).disks it.vm ≡ is_agreed xs row.disks it.vm
    same (inl is) =
        (λ i. is_agreed xs (as_done xs (record row { doubt = is i })).disks it.vm)
        ∙ placed_one xs it.vm x mount (λ d. refl) (λ d. refl) row.disks
    same (inr is) =
        (λ i. is_agreed xs (as_done xs (record row { doubt = is i })).disks it.vm)
        ∙ placed_one xs it.vm x unmount (λ d. refl) (λ d. refl) row.disks

    agreed : is_agreed_there xs row.disks it.vm ≡ true
    agreed = settled_held xs row it found has holds (same doubts)

    of_vm : (ds : List DiskRow) → is_agreed_there xs ds it.vm ≡ true → (other : Vm) → row.vm ≡ Some other →
        is_agreed_there xs ds other.vm ≡ true
    of_vm ds is other too =
        subst (λ (o : Option Vm). where_any (λ it. is_agreed_there xs ds it.vm) o ≡ true) (sym has ∙ too) is

    by_here : (b : Bool) → holds_its_disks xs
        (after n (calls.ListDisk it.vm) (unless_gone b (answers.Disks (mounted_on xs it.vm))) row) ≡ true
    by_here true =
        held_from xs (after n (calls.ListDisk it.vm) (answers.Disks (mounted_on xs it.vm)) row)
        (of_vm (map (mounted_by (mounted_on xs it.vm)) row.disks)
        (ap (λ b. not (is_vm_there xs it.vm) || b)
        (agreed_map xs it.vm (mounted_by (mounted_on xs it.vm)) (λ d. refl) (λ d. refl) row.disks) ∙ agreed))
    by_here false =
        held_from xs (after n (calls.ListDisk it.vm) answers.Gone row) (of_vm row.disks agreed)

-- the disks once a deletion in doubt is asked for
pub there_held : (built : KeyWork → List Digest → Digest) (xs : List Entry) (row : Row) (n : ℕ) (it : Vm) (m v : ℕ) →
    row.lost ≡ false → row.vm ≡ Some it → Doubts row m (calls.DeleteVm v) → is_deleted_bare row ≡ true →
    holds_its_disks xs row ≡ true →
    holds_its_disks xs (after n (calls.HasVm it.vm) (answer_of built xs (calls.HasVm it.vm)) row) ≡ true
there_held built xs row n it m v found has doubts bare holds = by_here (is_vm_there xs it.vm)
  where
    off : list_all (λ d. not d.attached) row.disks ≡ true
    off = sym (λ i. is_deleted_bare (record row { doubt = doubts i; lost = found i })) ∙ bare

    gone_all : (ds : List DiskRow) → list_all (λ d. not d.attached) ds ≡ true →
        list_all (λ d. same_truth (is_holder xs it.vm d.disk) d.attached) (map let_go ds)
        ≡ list_all (λ d. same_truth (is_holder xs it.vm d.disk) d.attached) ds
    gone_all [] is = refl
    gone_all (d ∷ ds) is =
        let parts : (not d.attached ≡ true) × (list_all (λ d. not d.attached) ds ≡ true) =
        and_parts (not d.attached) _ is in
        λ i. same_truth (is_holder xs it.vm d.disk) (sym (not-true d.attached parts.0) i) && gone_all ds parts.1 i

    gone_any : (k : ℕ) (ds : List DiskRow) → list_all (λ d. not d.attached) ds ≡ true →
        list_any (λ it. it.disk == k && it.attached) (map let_go ds)
        ≡ list_any (λ it. it.disk == k && it.attached) ds
    gone_any k [] is = refl
    gone_any k (d ∷ ds) is =
        let parts : (not d.attached ≡ true) × (list_all (λ d. not d.attached) ds ≡ true) =
        and_parts (not d.attached) _ is in
        λ i. (d.disk == k && sym (not-true d.attached parts.0) i) || gone_any k ds parts.1 i

    same : is_agreed xs (as_done xs row).disks it.vm ≡ is_agreed xs row.disks it.vm
    same =
        (λ i. is_agreed xs (as_done xs (record row { doubt = doubts i })).disks it.vm)
        ∙ (λ i. gone_all row.disks off i
        && list_all (λ k. gone_any k row.disks off i) (attached_to xs it.vm))

    agreed : is_agreed_there xs row.disks it.vm ≡ true
    agreed = settled_held xs row it found has holds same

    by_here : (b : Bool) → holds_its_disks xs (after n (calls.HasVm it.vm) (yes_or_no b) row) ≡ true
    by_here true =
        held_from xs (after n (calls.HasVm it.vm) answers.Yes row)
        (λ other too. subst (λ (o : Option Vm). where_any (λ it. is_agreed_there xs row.disks it.vm) o ≡ true)
        (sym has ∙ too) agreed)
    by_here false = refl
