-- The machine and the disks of a row were made as they are recorded, after each call, however it is answered.
use Rattle.std.proofs.Common.{◌≡◌, ℕ, ◌+◌, Bool, true, false, Option, Some, None, List, [], ◌∷◌, ◌++◌, refl, sym, ◌∙◌, ap, subst, inl, inr}
use Rattle.std.specs.Prelude.{◌⊎◌, ◌&&◌, ◌||◌, ◌==◌, if◌then◌else◌, map}
use Rattle.std.specs.List.{list_all}
use Rattle.std.specs.Str.{bytes_eq}
use Rattle.std.proofs.lemmas.Bool.{and_parts, and_from}
use Rattle.std.proofs.lemmas.Bool.Decides.{Decides-eqb}
use Rattle.bosh_base.specs.CallStep.{CallStep, found_disk, found_vm}
use Rattle.bosh_base.specs.Cloud.{creates_vm, disk_creation, is_disk_there, vm_creation, vms_created}
use Rattle.bosh_base.specs.Exact.{Decides-list}
use Rattle.bosh_base.specs.declared.answer.Answer.{Answer}
use Rattle.bosh_base.specs.declared.answer.Answer.TheVariants as answers
use Rattle.bosh_base.specs.declared.call.Call.{Call}
use Rattle.bosh_base.specs.declared.call.Call.TheVariants as calls
use Rattle.bosh_base.specs.declared.digest.Digest.{Digest}
use Rattle.bosh_base.specs.declared.entry.Entry.{Entry}
use Rattle.bosh_base.specs.declared.goal.GoalRow.{GoalRow}
use Rattle.bosh_base.specs.declared.key.KeyWork.{KeyWork}
use Rattle.bosh_base.specs.declared.make.Make.{Make}
use Rattle.bosh_base.specs.declared.owner.Owner.TheVariants.{Instance}
use Rattle.bosh_base.specs.declared.row.DiskRow.{DiskRow}
use Rattle.bosh_base.specs.declared.row.Doubt.{Doubt}
use Rattle.bosh_base.specs.declared.row.Role.{Role}
use Rattle.bosh_base.specs.declared.row.Role.TheVariants.{Active, Old}
use Rattle.bosh_base.specs.declared.row.Row.{Row}
use Rattle.laws_effects.proofs.CreationLemmas.{vm_creation_next}
use Rattle.laws_effects.specs.Orderly.{is_taken}
use Rattle.laws_row_facts.specs.Numbers.{IsDoubtItsOwn}
use Rattle.laws_row_facts.specs.Rows.{is_made_in}
use Rattle.laws_rows.proofs.DiskTieLemmas.{same-one}
use Rattle.laws_rows.proofs.FallLemmas.{answered}
use Rattle.laws_rows.proofs.FoundLemmas.{IsFoundVm, vm-among, vm-found}
use Rattle.laws_rows.proofs.RightLemmas.{done_made}
use Rattle.laws_rows.proofs.SteadyLemmas.{IsTiedTo, tied-ways}
use Rattle.laws_rows.proofs.TieLemmas.{SameDisk, of_row, with_call}
use Rattle.laws_rows.proofs.WeakTieLemmas.{weak-parts}
use Rattle.laws_rows.specs.Rightful.{done_with}
use Rattle.bosh_rows.specs.After.{after, attach, begun_row, let_go, mount, row_at_gone, row_by_answer, unmount, with_disk, with_found, with_machine, without_machine}
use Rattle.bosh_rows.specs.CallOf.{next_call}
use Rattle.bosh_rows.specs.Tied.{as_done, IsTiedRow, is_disk_kept, is_spoiled, is_tied_to, is_tied_to_lost, number_of, was_provided, without_doubt}
use Rattle.laws_kept_facts.proofs.CallCases.{Doubts}
use Rattle.laws_answered_rows.proofs.FoundCases.{LooksFor, looks_for}
use Rattle.laws_answered_rows.proofs.KeepsLemmas.{kept_by_asking}
use Rattle.laws_answered_rows.proofs.OwnLemmas.{IsEffectOf, own_effect}

-- ---- the disks, by the tie

-- disks of which something else was said
unmapped : (ys : List Entry) (row new : Row) (f : DiskRow → DiskRow) → SameDisk f → new.inst ≡ row.inst →
    (ds : List DiskRow) → list_all (is_disk_kept ys new) (map f ds) ≡ true → list_all (is_disk_kept ys row) ds ≡ true
unmapped ys row new f same inst [] kept = refl
unmapped ys row new f same inst (d ∷ ds) kept =
    let parts : (is_disk_kept ys new (f d) ≡ true) × (list_all (is_disk_kept ys new) (map f ds) ≡ true) =
    and_parts (is_disk_kept ys new (f d)) _ kept in
    and_from (is_disk_kept ys row d) (list_all (is_disk_kept ys row) ds)
    (sym (λ i. is_disk_there ys (same.number d i)
    && was_provided (Instance (inst i)) (same.tag d i) (same.want d i) (disk_creation ys (same.number d i)))
    ∙ parts.0)
    (unmapped ys row new f same inst ds parts.1)

-- .. and all but the last
unmore : (p : DiskRow → Bool) (ds : List DiskRow) (new : DiskRow) → list_all p (ds ++ new ∷ []) ≡ true →
    list_all p ds ≡ true
unmore p [] new all = refl
unmore p (d ∷ ds) new all =
    let parts : (p d ≡ true) × (list_all p (ds ++ new ∷ []) ≡ true) = and_parts (p d) _ all in
    and_from (p d) (list_all p ds) parts.0 (unmore p ds new parts.1)

same_let_go : SameDisk let_go
same_let_go = record { number = λ d. refl; tag = λ d. refl; want = λ d. refl }

abbrev with_role : Role → DiskRow → DiskRow
with_role role d = record d { role = role }

undone_kept : (ys : List Entry) (row : Row) →
    list_all (is_disk_kept ys (as_done ys row)) (as_done ys row).disks ≡ true →
    list_all (is_disk_kept ys row) row.disks ≡ true
undone_kept ys row kept = by_doubt row.doubt refl kept
  where
    by_vm : (n : ℕ) (o : Option ℕ) (r : Row) → r.inst ≡ row.inst → r.disks ≡ row.disks →
        list_all (is_disk_kept ys (with_machine n o r)) (with_machine n o r).disks ≡ true →
        list_all (is_disk_kept ys row) row.disks ≡ true
    by_vm n (Some v) r inst disks kept = by_inst r inst disks kept
      where
        by_inst : (r : Row) → r.inst ≡ row.inst → r.disks ≡ row.disks →
            list_all (is_disk_kept ys (record r { vm = Some (record { vm = v; agent = n }); doubt = None })) r.disks
            ≡ true →
            list_all (is_disk_kept ys row) row.disks ≡ true
        by_inst r inst disks kept =
            sym (λ i. list_all (λ d. is_disk_there ys d.disk
            && was_provided (Instance (inst i)) d.tag d.want (disk_creation ys d.disk)) (disks i)) ∙ kept
    by_vm n None r inst disks kept =
        unmapped ys row (without_machine r) let_go same_let_go inst row.disks
        (sym (ap (λ ds. list_all (is_disk_kept ys (without_machine r)) (map let_go ds)) disks) ∙ kept)

    doubted : ℕ → Call → Row
    doubted n c = record row { doubt = Some (record { n = n; call = c }) }

    by_disk : (n : ℕ) (wanted : _) (v : ℕ) (o : Option ℕ) →
        list_all (is_disk_kept ys (with_disk n wanted o (doubted n (calls.CreateDisk wanted v))))
        (with_disk n wanted o (doubted n (calls.CreateDisk wanted v))).disks ≡ true →
        list_all (is_disk_kept ys row) row.disks ≡ true
    by_disk n wanted v (Some d) kept = unmore (is_disk_kept ys row) row.disks _ kept
    by_disk n wanted v None kept = kept

    by_call : (n : ℕ) (c : Call) →
        list_all (is_disk_kept ys (as_done ys (doubted n c))) (as_done ys (doubted n c)).disks ≡ true →
        list_all (is_disk_kept ys row) row.disks ≡ true
    by_call n (calls.CreateVm make hint) kept =
        by_vm n (found_vm ys n) (doubted n (calls.CreateVm make hint)) refl refl kept
    by_call n (calls.DeleteVm v) kept = unmapped ys row row let_go same_let_go refl row.disks kept
    by_call n (calls.CreateDisk wanted v) kept = by_disk n wanted v (found_disk ys n) kept
    by_call n (calls.AttachDisk v x) kept =
        unmapped ys row row (λ d. if d.disk == x then attach d else d)
        (same-one x attach (record { number = λ d. refl; tag = λ d. refl; want = λ d. refl })) refl row.disks kept
    by_call n (calls.DetachDisk v x) kept =
        unmapped ys row row (λ d. if d.disk == x then let_go d else d) (same-one x let_go same_let_go) refl row.disks
        kept
    by_call n (calls.MountDisk v x) kept =
        unmapped ys row row (λ d. if d.disk == x then mount d else d)
        (same-one x mount (record { number = λ d. refl; tag = λ d. refl; want = λ d. refl })) refl row.disks kept
    by_call n (calls.UnmountDisk v x) kept =
        unmapped ys row row (λ d. if d.disk == x then unmount d else d)
        (same-one x unmount (record { number = λ d. refl; tag = λ d. refl; want = λ d. refl })) refl row.disks kept
    by_call n (calls.MigrateDisk v from to) kept =
        unmapped ys row row (λ d. if d.disk == from then with_role Old d else d)
        (same-one from (with_role Old) (record { number = λ d. refl; tag = λ d. refl; want = λ d. refl })) refl
        row.disks
        (unmapped ys row row (λ d. if d.disk == to then with_role Active d else d)
        (same-one to (with_role Active) (record { number = λ d. refl; tag = λ d. refl; want = λ d. refl })) refl
        (map (λ d. if d.disk == from then with_role Old d else d) row.disks) kept)
    by_call n c kept = kept

    by_doubt : (d : Option Doubt) → row.doubt ≡ d →
        list_all (is_disk_kept ys (as_done ys (record row { doubt = d }))) (as_done ys (record row { doubt = d })).disks
        ≡ true →
        list_all (is_disk_kept ys row) row.disks ≡ true
    by_doubt (Some d) is kept = by_call d.n d.call kept
    by_doubt None is kept = kept

-- the disks of a tied row are there, and were made as recorded
pub tied_kept : (ys : List Entry) (row : Row) → IsTiedRow ys row → list_all (is_disk_kept ys row) row.disks ≡ true
tied_kept ys row tied = by_ways row.lost refl (is_spoiled ys row) refl
  where
    weak : (row.lost || is_spoiled ys row) ≡ true → list_all (is_disk_kept ys row) row.disks ≡ true
    weak marked =
        (weak-parts ys row
        (sym (ap (λ (b : Bool). if b then is_tied_to_lost ys row
        else is_tied_to ys (without_doubt row) || is_tied_to ys (as_done ys row)) marked) ∙ tied)).kept

    by_tie : IsTiedTo ys (without_doubt row) ⊎ IsTiedTo ys (as_done ys row) →
        list_all (is_disk_kept ys row) row.disks ≡ true
    by_tie (inl before) = before.kept
    by_tie (inr later) = undone_kept ys row later.kept

    by_ways : (lost : Bool) → row.lost ≡ lost → (spoiled : Bool) → is_spoiled ys row ≡ spoiled →
        list_all (is_disk_kept ys row) row.disks ≡ true
    by_ways true is spoiled spoils = weak (ap (λ b. b || is_spoiled ys row) is)
    by_ways false is true spoils = weak (λ i. is i || spoils i)
    by_ways false is false whole = by_tie (tied-ways ys row tied is whole)

-- ---- the machine, by the calls

-- the row is of the same instance, and has the same machine or none
abbrev pub SameMachine : Row → Row → Type 0
SameMachine row new = (new.inst ≡ row.inst) × ((new.vm ≡ row.vm) ⊎ (new.vm ≡ None))

-- the call neither makes a machine nor looks for one
abbrev pub LeavesMachine : Call → Type 0
LeavesMachine (calls.CreateVm make hint) = ⊥
LeavesMachine (calls.FindVm agent) = ⊥
LeavesMachine call = Unit {0}

pub found_same : (row : Row) (tag : ℕ) (found : Option ℕ) (d : Option Doubt) →
    SameMachine row (with_found tag found d row)
found_same row tag found None = (refl, inl refl)
found_same row tag found (Some d) = by_call d.n d.call found
  where
    by_call : (m : ℕ) (c : Call) (o : Option ℕ) →
        SameMachine row (with_found tag o (Some (record { n = m; call = c })) row)
    by_call m (calls.CreateDisk wanted v) (Some d) = (refl, inl refl)
    by_call m (calls.CreateDisk wanted v) None = (refl, inl refl)
    by_call m c o = (refl, inl refl)

told_same : (n : ℕ) (call : Call) (answer : Answer) (row : Row) → LeavesMachine call →
    SameMachine row (row_by_answer n call answer row)
told_same n (calls.CreateVm make hint) answer row leaves = absurd leaves
told_same n (calls.FindVm agent) answer row leaves = absurd leaves
told_same n (calls.DeleteVm v) answers.Done row leaves = (refl, inr refl)
told_same n (calls.HasVm v) answers.No row leaves = (refl, inr refl)
told_same n (calls.HasVm v) answers.Yes row leaves = (refl, inl refl)
told_same n (calls.CreateDisk wanted v) (answers.Cid d) row leaves = (refl, inl refl)
told_same n (calls.FindDisk tag) (answers.Found found) row leaves = found_same row tag found row.doubt
told_same n (calls.AttachDisk v d) answers.Done row leaves = (refl, inl refl)
told_same n (calls.DetachDisk v d) answers.Done row leaves = (refl, inl refl)
told_same n (calls.GetDisks v) (answers.Disks ks) row leaves = (refl, inl refl)
told_same n (calls.MountDisk v d) answers.Done row leaves = (refl, inl refl)
told_same n (calls.UnmountDisk v d) answers.Done row leaves = (refl, inl refl)
told_same n (calls.ListDisk v) (answers.Disks ks) row leaves = (refl, inl refl)
told_same n (calls.MigrateDisk v from to) answers.Done row leaves = (refl, inl refl)
told_same n (calls.Apply v spec) answers.Done row leaves = (refl, inl refl)
told_same n (calls.Start v) answers.Done row leaves = (refl, inl refl)
told_same n (calls.Drain v) answers.Done row leaves = (refl, inl refl)
told_same n (calls.Stop v) answers.Done row leaves = (refl, inl refl)
told_same n (calls.GetState v) (answers.Facts spec running drained) row leaves = (refl, inl refl)
told_same n call answer row leaves = (refl, inl refl)

gone_same : (call : Call) (row : Row) → SameMachine row (row_at_gone call row)
gone_same (calls.Ping v) row = (refl, inl refl)
gone_same (calls.DeleteVm v) row = by_loss row.lost
  where
    by_loss : (b : Bool) → SameMachine row (if b then without_machine row else record row { doubt = None })
    by_loss true = (refl, inr refl)
    by_loss false = (refl, inl refl)
gone_same call row = (refl, inl refl)

pub after_same : (n : ℕ) (call : Call) (answer : Answer) (row : Row) → LeavesMachine call →
    SameMachine row (after n call answer row)
after_same n call answers.Failed row leaves = (refl, inl refl)
after_same n call answers.Gone row leaves = gone_same call row
after_same n call answer row leaves = told_same n call answer row leaves

-- the machine was made for the deployment of its instance
abbrev pub InDep : List Entry → Row → Type 0
InDep xs row = list_all (λ v. is_made_in row.inst.dep (vm_creation xs v)) (number_of row.vm) ≡ true

same_in_dep : (xs ys : List Entry) (row new : Row) → ((v : ℕ) → vm_creation ys v ≡ vm_creation xs v) →
    SameMachine row new → InDep xs row → InDep ys new
same_in_dep xs ys row new made (inst, inl has) is =
    (λ i. list_all (λ v. is_made_in (inst i).dep (made v i)) (number_of (has i))) ∙ is
same_in_dep xs ys row new made (inst, inr none) is =
    ap (λ o. list_all (λ v. is_made_in new.inst.dep (vm_creation ys v)) (number_of o)) none

leaves_none : (call : Call) → LeavesMachine call → creates_vm call ≡ false
leaves_none (calls.CreateVm make hint) leaves = absurd leaves
leaves_none call leaves = refl

same_dep : (dep : List ℕ) → bytes_eq dep dep ≡ true
same_dep dep = (Decides-list Decides-eqb dep dep).1 refl

-- a machine that is created
made_in_dep : (xs : List Entry) (row : Row) (n : ℕ) (make : Make) (hint : List ℕ) →
    InDep (with_call xs row n row.inst.dep (calls.CreateVm make hint))
    (answered n (calls.CreateVm make hint) (answers.Cid (vms_created xs + 1)) row)
made_in_dep xs row n make hint =
    and_from (is_made_in row.inst.dep
    (vm_creation (with_call xs row n row.inst.dep (calls.CreateVm make hint)) (vms_created xs + 1))) true
    (ap (is_made_in row.inst.dep) (vm_creation_next xs (of_row row n row.inst.dep (calls.CreateVm make hint)) refl)
    ∙ same_dep row.inst.dep) refl

none_in_dep : (ys : List Entry) (row : Row) → row.vm ≡ None → InDep ys row
none_in_dep ys row none =
    ap (λ o. list_all (λ v. is_made_in row.inst.dep (vm_creation ys v)) (number_of o)) none

-- .. and one that is found
found_in_dep : (xs : List Entry) (row : Row) (m : ℕ) (c : Call) → Doubts row m c → IsDoubtItsOwn xs row →
    (o : Option ℕ) → found_vm xs m ≡ o → InDep xs (with_machine m o row)
found_in_dep xs row m c doubts own None is = refl
found_in_dep xs row m c doubts own (Some v) is =
    let it : IsFoundVm xs m v = vm-found xs m v is in
    let e : IsEffectOf m (Instance row.inst) row.inst.dep c it.e =
    own_effect xs row own (record { n = m; call = c }) it.e doubts (vm-among xs v it.e it.made) it.number in
    and_from (is_made_in row.inst.dep (vm_creation xs v)) true (ap (is_made_in row.inst.dep) it.made ∙ e.of_dep) refl

pub dep_kept : (built : KeyWork → List Digest → Digest) (want : Option GoalRow) (xs : List Entry) (row : Row) (n : ℕ)
    (call : Call) (b : Bool) (answer : Answer) → InDep xs row → IsDoubtItsOwn xs row →
    next_call want row ≡ Some call → is_taken xs n ≡ false → CallStep built xs call b answer →
    InDep (done_with b xs (of_row row n row.inst.dep call)) (answered n call answer row)
dep_kept built want xs row n call b answer is own next fresh step = by_call call (looks_for want row call next) step
  where
    others : (call : Call) → LeavesMachine call →
        InDep (done_with b xs (of_row row n row.inst.dep call)) (answered n call answer row)
    others call leaves =
        same_in_dep xs (done_with b xs (of_row row n row.inst.dep call)) (begun_row n call row)
        (answered n call answer row)
        (λ v. done_made xs row n row.inst.dep call (leaves_none call leaves) b v)
        (after_same n call answer (begun_row n call row) leaves) is

    creates : (make : Make) (hint : List ℕ) → row.vm ≡ None → CallStep built xs (calls.CreateVm make hint) b answer →
        InDep (done_with b xs (of_row row n row.inst.dep (calls.CreateVm make hint)))
        (answered n (calls.CreateVm make hint) answer row)
    creates make hint none (inl (is, has)) =
        (λ i. list_all (λ v. is_made_in (answered n (calls.CreateVm make hint) (is i) row).inst.dep
        (vm_creation (done_with (has i) xs (of_row row n row.inst.dep (calls.CreateVm make hint))) v))
        (number_of (answered n (calls.CreateVm make hint) (is i) row).vm))
        ∙ made_in_dep xs row n make hint
    creates make hint none (inr (failed, may)) =
        subst (λ (a : Answer). InDep (done_with b xs (of_row row n row.inst.dep (calls.CreateVm make hint)))
        (answered n (calls.CreateVm make hint) a row)) (sym failed)
        (none_in_dep (done_with b xs (of_row row n row.inst.dep (calls.CreateVm make hint)))
        (begun_row n (calls.CreateVm make hint) row) none)

    by_call : (call : Call) → LooksFor row call → CallStep built xs call b answer →
        InDep (done_with b xs (of_row row n row.inst.dep call)) (answered n call answer row)
    by_call (calls.CreateVm make hint) none step = creates make hint none step
    by_call (calls.FindVm m) (c, doubts) step =
        kept_by_asking InDep built xs row (calls.FindVm m) refl (λ n. is)
        (λ n. found_in_dep xs row m c doubts own (found_vm xs m) refl) n row.inst.dep b answer fresh step
    by_call call looks step = others call tt
