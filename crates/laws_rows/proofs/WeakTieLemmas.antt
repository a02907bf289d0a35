-- One call keeps the tie of a row that is lost or spoiled: its machine alone may be there of its instance, and its
-- disks
-- are.
use Rattle.std.proofs.Common.{◌≡◌, ℕ, Bool, true, false, Option, Some, None, List, [], ◌∷◌, refl, sym, ◌∙◌, ap}
use Rattle.std.specs.Prelude.{◌&&◌, ◌||◌, ◌==◌, nat_eq, if◌then◌else◌, filter, map}
use Rattle.std.specs.List.{list_all, list_any}
use Rattle.std.specs.Cmp.Lexicographic.{pointwise}
use Rattle.std.specs.Option.{option_map}
use Rattle.std.proofs.lemmas.Bool.{and_parts, and_from, eqb-true}
use Rattle.bosh_base.specs.Cloud.{disk_creation, holder_of, is_disk_there, is_vm_there, numbers_to, vm_creation, vms_created}
use Rattle.bosh_base.specs.declared.answer.Answer.{Answer}
use Rattle.bosh_base.specs.declared.answer.Answer.TheVariants as answers
use Rattle.bosh_base.specs.declared.call.Call.{Call}
use Rattle.bosh_base.specs.declared.call.Call.TheVariants as calls
use Rattle.bosh_base.specs.declared.digest.Digest.{Digest}
use Rattle.bosh_base.specs.declared.entry.Effect as effect
use Rattle.bosh_base.specs.declared.entry.Entry.{Entry}
use Rattle.bosh_base.specs.declared.inst.Inst.{Inst}
use Rattle.bosh_base.specs.declared.key.KeyWork.{KeyWork}
use Rattle.bosh_base.specs.declared.owner.Owner.{Owner}
use Rattle.bosh_base.specs.declared.owner.Owner.TheVariants.{Instance, Compile, Disk}
use Rattle.bosh_base.specs.declared.row.DiskRow.{DiskRow}
use Rattle.bosh_base.specs.declared.row.Row.{Row}
use Rattle.bosh_base.specs.declared.row.Vm as vm
use Rattle.bosh_base.specs.declared.spec.Spec.{Spec}
use Rattle.laws_effects.proofs.FollowLemmas.{IsWithin, made}
use Rattle.laws_effects.specs.Holders.{AreHeldByTheirOwn}
use Rattle.bosh_rows.proofs.SameLemmas as instances
use Rattle.bosh_rows.specs.After.{attach, attached_by, let_go, mount, mounted_by, unmount, without_machine}
use Rattle.bosh_rows.specs.Same.{same_owner}
use Rattle.bosh_rows.specs.Tied.{IsTiedRow, is_disk_kept, is_made_for, is_named_lost, is_spoiled, is_tied_to_lost, number_of, vms_of, was_provided}
use Rattle.laws_rows.proofs.DiskTieLemmas.{moved-part, same-one}
use Rattle.laws_rows.proofs.FallLemmas.{answered}
use Rattle.laws_rows.proofs.KnownTieLemmas.{Keeps}
use Rattle.laws_rows.proofs.ListLemmas.{all_from, all_in}
use Rattle.laws_rows.proofs.MakeTieLemmas.{filter_none, mine_in, placed_loose}
use Rattle.laws_rows.proofs.MigrationLemmas.{migrated-map, moved}
use Rattle.laws_rows.proofs.NumberLemmas.{all_kept, kept_number}
use Rattle.laws_rows.proofs.ProbeTieLemmas.{keeps-all, owned, there_held}
use Rattle.laws_rows.proofs.SteadyLemmas.{IsTiedTo}
use Rattle.laws_rows.proofs.TieLemmas.{SameDisk, StaysDisks, StaysMachines, disks-placed, keeps-disks, keeps-machines, kept-kept, map-id, of_row, same-id, with_call}
use Rattle.laws_rows.proofs.WholeTieLemmas.{spoiled-same, tied-weak}
use Rattle.laws_rows.proofs.WorkLemmas.{one}
use Rattle.laws_rows.specs.Rightful.{IsRightful, done_with}

-- ---- the weak tie

pub record IsWeak (effects : List Entry) (row : Row) : Type 0 where
  pub machines : (v : ℕ) → mine_in effects row v ≡ true → list_any (λ it. it == v) (number_of row.vm) ≡ true
  pub kept : list_all (is_disk_kept effects row) row.disks ≡ true

pub weak-parts : (effects : List Entry) (row : Row) → is_tied_to_lost effects row ≡ true → IsWeak effects row
weak-parts effects row tied =
    let parts : (list_all (λ v. list_any (λ it. it == v) (number_of row.vm)) (vms_of effects (Instance row.inst)) ≡
    true)
    × (list_all (is_disk_kept effects row) row.disks ≡ true) =
    and_parts (list_all (λ v. list_any (λ it. it == v) (number_of row.vm)) (vms_of effects (Instance row.inst)))
    (list_all (is_disk_kept effects row) row.disks) tied in record {
      machines = λ v mine.
          let within : IsWithin (vms_created effects) v =
          (made effects).vms v
          (and_parts (is_vm_there effects v) (is_made_for (Instance row.inst) (vm_creation effects v)) mine).0 in
          all_kept (λ v. list_any (λ it. it == v) (number_of row.vm)) (vms_of effects (Instance row.inst)) v parts.0
          (kept_number (mine_in effects row) (vms_created effects) v within.first within.last mine);
      kept = parts.1;
    }

all_filter : (p r : ℕ → Bool) (ks : List ℕ) → ((k : ℕ) → p k ≡ true → r k ≡ true) → list_all r (filter p ks) ≡ true
all_filter p r [] each = refl
all_filter p r (k ∷ ks) each = by_test (all_filter p r ks each) (p k) refl
  where
    by_test : list_all r (filter p ks) ≡ true → (b : Bool) → p k ≡ b →
        list_all r (if b then k ∷ filter p ks else filter p ks) ≡ true
    by_test others true holds = and_from (r k) (list_all r (filter p ks)) (each k holds) others
    by_test others false holds = others

pub weak-from : (effects : List Entry) (row : Row) → IsWeak effects row → is_tied_to_lost effects row ≡ true
weak-from effects row weak =
    and_from _ _
    (all_filter (mine_in effects row) (λ v. list_any (λ it. it == v) (number_of row.vm))
    (numbers_to (vms_created effects)) weak.machines) weak.kept

-- a row that is lost or spoiled, and so tied
pub record IsLoose (effects : List Entry) (row : Row) : Type 0 where
  pub weak : IsWeak effects row
  pub marked : (row.lost || is_spoiled effects row) ≡ true
  pub right : IsRightful effects row

-- ---- a row that has the same machine and disks

pub record IsSameRow (row new : Row) : Type 0 where
  pub f : DiskRow → DiskRow
  pub same : SameDisk f
  pub inst : new.inst ≡ row.inst
  pub vm : new.vm ≡ row.vm
  pub lost : new.lost ≡ row.lost
  pub disks : new.disks ≡ map f row.disks

pub unchanged : (row new : Row) → new.inst ≡ row.inst → new.vm ≡ row.vm → new.lost ≡ row.lost → new.disks ≡ row.disks →
    IsSameRow row new
unchanged row new inst same_vm lost disks = record {
  f = λ d. d;
  same = same-id;
  inst = inst;
  vm = same_vm;
  lost = lost;
  disks = disks ∙ sym (map-id row.disks);
}

mapped : (row new : Row) (f : DiskRow → DiskRow) → SameDisk f → new.inst ≡ row.inst → new.vm ≡ row.vm →
    new.lost ≡ row.lost → new.disks ≡ map f row.disks → IsSameRow row new
mapped row new f same inst same_vm lost disks =
    record { f = f; same = same; inst = inst; vm = same_vm; lost = lost; disks = disks }

pub weak-same : (xs ys : List Entry) (row new : Row) → IsWeak xs row → IsSameRow row new →
    ((v : ℕ) → mine_in ys row v ≡ true → mine_in xs row v ≡ true) →
    ((d : DiskRow) → is_disk_kept xs row d ≡ true → is_disk_kept ys row d ≡ true) → IsWeak ys new
weak-same xs ys row new weak same less kept = record {
  machines = λ v mine.
      (λ i. list_any (λ it. it == v) (number_of (same.vm i)))
      ∙ weak.machines v (less v (sym (λ i. is_vm_there ys v && is_made_for (Instance (same.inst i))
      (vm_creation ys v)) ∙ mine));
  kept =
      ap (list_all (is_disk_kept ys new)) same.disks
      ∙ kept-kept ys ys row new same.f same.same same.inst (keeps-all ys) row.disks
      (all_from (is_disk_kept ys row) row.disks (λ d is. kept d
      (all_in (is_disk_kept xs row) d row.disks weak.kept is)));
}

marked-same : (xs : List Entry) (row new : Row) → IsSameRow row new → (row.lost || is_spoiled xs row) ≡ true →
    (new.lost || is_spoiled xs new) ≡ true
marked-same xs row new same marked =
    (λ i. same.lost i || list_any (is_named_lost xs) (number_of (same.vm i))) ∙ marked

-- .. where nothing was done, and where a call was that makes and removes no machine and no disk
pub still-tied : (xs : List Entry) (row new : Row) → IsLoose xs row → IsSameRow row new → IsTiedRow xs new
still-tied xs row new loose same =
    tied-weak xs new (marked-same xs row new same loose.marked)
    (weak-from xs new (weak-same xs xs row new loose.weak same (λ v mine. mine) (λ d kept. kept)))

pub done-tied : (xs : List Entry) (row new : Row) (n : ℕ) (dep : List ℕ) (call : Call) → IsLoose xs row →
    IsSameRow row new → ((v : ℕ) → mine_in (with_call xs row n dep call) row v ≡ true → mine_in xs row v ≡ true) →
    ((d : DiskRow) → is_disk_kept xs row d ≡ true → is_disk_kept (with_call xs row n dep call) row d ≡ true) →
    IsTiedRow (with_call xs row n dep call) new
done-tied xs row new n dep call loose same less kept =
    tied-weak (with_call xs row n dep call) new
    (ap (λ b. new.lost || b) (spoiled-same xs (of_row row n dep call) new) ∙ marked-same xs row new same loose.marked)
    (weak-from (with_call xs row n dep call) new
    (weak-same xs (with_call xs row n dep call) row new loose.weak same less kept))

pub less_mine : (xs : List Entry) (row : Row) (n : ℕ) (dep : List ℕ) (call : Call) → StaysMachines call → (v : ℕ) →
    mine_in (with_call xs row n dep call) row v ≡ true → mine_in xs row v ≡ true
less_mine xs row n dep call still v mine =
    sym (λ i. (keeps-machines xs row n dep call still).there v i
    && is_made_for (Instance row.inst) ((keeps-machines xs row n dep call still).made v i)) ∙ mine

pub same_kept : (xs : List Entry) (row : Row) (n : ℕ) (dep : List ℕ) (call : Call) → StaysDisks call → (d : DiskRow) →
    is_disk_kept xs row d ≡ true → is_disk_kept (with_call xs row n dep call) row d ≡ true
same_kept xs row n dep call still d kept =
    (λ i. (keeps-disks xs row n dep call still).there d.disk i
    && was_provided (Instance row.inst) d.tag d.want ((keeps-disks xs row n dep call still).made d.disk i)) ∙ kept

-- a call after which the row has the same machine and disks, however it is answered
pub quiet : (built : KeyWork → List Digest → Digest) (effects : List Entry) (row : Row) (call : Call) →
    IsLoose effects row → StaysMachines call → StaysDisks call →
    ((n : ℕ) (answer : Answer) → IsSameRow row (answered n call answer row)) → Keeps built effects row call
quiet built effects row call loose machines disks same n dep has_effect answer fresh step = by_effect has_effect
  where
    by_effect : (b : Bool) → IsTiedRow (done_with b effects (of_row row n dep call)) (answered n call answer row)
    by_effect true =
        done-tied effects row (answered n call answer row) n dep call loose (same n answer)
        (less_mine effects row n dep call machines) (same_kept effects row n dep call disks)
    by_effect false = still-tied effects row (answered n call answer row) loose (same n answer)

pub drains : (n v : ℕ) (row : Row) (answer : Answer) → IsSameRow row (answered n (calls.Drain v) answer row)
drains n v row answers.Done = unchanged row _ refl refl refl refl
drains n v row answers.Gone = unchanged row _ refl refl refl refl
drains n v row answers.Failed = unchanged row _ refl refl refl refl
drains n v row answer = unchanged row _ refl refl refl refl

pub stops : (n v : ℕ) (row : Row) (answer : Answer) → IsSameRow row (answered n (calls.Stop v) answer row)
stops n v row answers.Done = unchanged row _ refl refl refl refl
stops n v row answers.Gone = unchanged row _ refl refl refl refl
stops n v row answers.Failed = unchanged row _ refl refl refl refl
stops n v row answer = unchanged row _ refl refl refl refl

pub starts : (n v : ℕ) (row : Row) (answer : Answer) → IsSameRow row (answered n (calls.Start v) answer row)
starts n v row answers.Done = unchanged row _ refl refl refl refl
starts n v row answers.Gone = unchanged row _ refl refl refl refl
starts n v row answers.Failed = unchanged row _ refl refl refl refl
starts n v row answer = unchanged row _ refl refl refl refl

pub applies : (n v : ℕ) (spec : Spec) (row : Row) (answer : Answer) →
    IsSameRow row (answered n (calls.Apply v spec) answer row)
applies n v spec row answers.Done = unchanged row _ refl refl refl refl
applies n v spec row answers.Gone = unchanged row _ refl refl refl refl
applies n v spec row answers.Failed = unchanged row _ refl refl refl refl
applies n v spec row answer = unchanged row _ refl refl refl refl

pub attaches : (n v x : ℕ) (row : Row) (answer : Answer) → IsSameRow row (answered n (calls.AttachDisk v x) answer row)
attaches n v x row answers.Done =
    mapped row _ (one x attach) (same-one x attach (record { number = λ d. refl; tag = λ d. refl; want = λ d. refl }))
    refl refl refl refl
attaches n v x row answers.Gone = unchanged row _ refl refl refl refl
attaches n v x row answers.Failed = unchanged row _ refl refl refl refl
attaches n v x row answer = unchanged row _ refl refl refl refl

pub detaches : (n v x : ℕ) (row : Row) (answer : Answer) → IsSameRow row (answered n (calls.DetachDisk v x) answer row)
detaches n v x row answers.Done =
    mapped row _ (one x let_go) (same-one x let_go (record { number = λ d. refl; tag = λ d. refl; want = λ d. refl }))
    refl refl refl refl
detaches n v x row answers.Gone = unchanged row _ refl refl refl refl
detaches n v x row answers.Failed = unchanged row _ refl refl refl refl
detaches n v x row answer = unchanged row _ refl refl refl refl

pub mounts : (n v x : ℕ) (row : Row) (answer : Answer) → IsSameRow row (answered n (calls.MountDisk v x) answer row)
mounts n v x row answers.Done =
    mapped row _ (one x mount) (same-one x mount (record { number = λ d. refl; tag = λ d. refl; want = λ d. refl }))
    refl refl refl refl
mounts n v x row answers.Gone = unchanged row _ refl refl refl refl
mounts n v x row answers.Failed = unchanged row _ refl refl refl refl
mounts n v x row answer = unchanged row _ refl refl refl refl

pub unmounts : (n v x : ℕ) (row : Row) (answer : Answer) → IsSameRow row (answered n (calls.UnmountDisk v x) answer row)
unmounts n v x row answers.Done =
    mapped row _ (one x unmount) (same-one x unmount (record { number = λ d. refl; tag = λ d. refl; want = λ d. refl }))
    refl refl refl refl
unmounts n v x row answers.Gone = unchanged row _ refl refl refl refl
unmounts n v x row answers.Failed = unchanged row _ refl refl refl refl
unmounts n v x row answer = unchanged row _ refl refl refl refl

pub migrates : (n v from to : ℕ) (row : Row) (answer : Answer) →
    IsSameRow row (answered n (calls.MigrateDisk v from to) answer row)
migrates n v from to row answers.Done =
    mapped row _ (moved from to) (record {
      number = moved-part (λ d. d.disk) (λ d role. refl) from to;
      tag = moved-part (λ d. d.tag) (λ d role. refl) from to;
      want = moved-part (λ d. d.want) (λ d role. refl) from to;
    }) refl refl refl (migrated-map from to row.disks)
migrates n v from to row answers.Gone = unchanged row _ refl refl refl refl
migrates n v from to row answers.Failed = unchanged row _ refl refl refl refl
migrates n v from to row answer = unchanged row _ refl refl refl refl

pub lists : (n v : ℕ) (row : Row) (answer : Answer) → IsSameRow row (answered n (calls.GetDisks v) answer row)
lists n v row (answers.Disks numbers) =
    mapped row _ (attached_by numbers) (record { number = λ d. refl; tag = λ d. refl; want = λ d. refl }) refl refl
    refl refl
lists n v row answers.Gone = unchanged row _ refl refl refl refl
lists n v row answers.Failed = unchanged row _ refl refl refl refl
lists n v row answer = unchanged row _ refl refl refl refl

pub shows : (n v : ℕ) (row : Row) (answer : Answer) → IsSameRow row (answered n (calls.ListDisk v) answer row)
shows n v row (answers.Disks numbers) =
    mapped row _ (mounted_by numbers) (record { number = λ d. refl; tag = λ d. refl; want = λ d. refl }) refl refl refl
    refl
shows n v row answers.Gone = unchanged row _ refl refl refl refl
shows n v row answers.Failed = unchanged row _ refl refl refl refl
shows n v row answer = unchanged row _ refl refl refl refl

pub tells : (n v : ℕ) (row : Row) (answer : Answer) → IsSameRow row (answered n (calls.GetState v) answer row)
tells n v row (answers.Facts spec running drained) = unchanged row _ refl refl refl refl
tells n v row answers.Gone = unchanged row _ refl refl refl refl
tells n v row answers.Failed = unchanged row _ refl refl refl refl
tells n v row answer = unchanged row _ refl refl refl refl

-- ---- the machine goes

pub inst_is : (owner : Owner) (i : Inst) → same_owner owner (Instance i) ≡ true → owner ≡ Instance i
inst_is (Instance j) i is = ap Instance ((instances.same_inst_decides j i).0 is)
inst_is (Compile task slot) i is = absurd cc
inst_is (Disk d) i is = absurd cc

-- where no machine of the instance is there nobody has its disks
nobody_holds : (effects : List Entry) (row : Row) (d : DiskRow) → AreHeldByTheirOwn effects →
    ((v : ℕ) → mine_in effects row v ≡ false) → is_disk_kept effects row d ≡ true → holder_of effects d.disk ≡ None
nobody_holds effects row d own none kept = by_holder (holder_of effects d.disk) refl
  where
    provided : (o : Option effect.Effect) → was_provided (Instance row.inst) d.tag d.want o ≡ true →
        option_map (λ e. e.owner) o ≡ Some (Instance row.inst)
    provided (Some e) is =
        ap Some (inst_is e.owner row.inst (and_parts (same_owner e.owner (Instance row.inst)) _ is).0)
    provided None is = absurd cc

    by_holder : (o : Option ℕ) → holder_of effects d.disk ≡ o → o ≡ None
    by_holder None is = refl
    by_holder (Some u) is =
        absurd (let mine : mine_in effects row u ≡ true =
        and_from (is_vm_there effects u) _ (there_held effects u _ is)
        (owned row (vm_creation effects u)
        (own d.disk u is
        ∙ provided (disk_creation effects d.disk)
        (and_parts (is_disk_there effects d.disk) (was_provided (Instance row.inst) d.tag d.want
        (disk_creation effects d.disk)) kept).1)) in
        let no_one : mine_in effects row u ≡ false = none u in cc)

-- the row without its machine, where that is not there
pub bare-tied : (effects : List Entry) (row : Row) (it : vm.Vm) → row.vm ≡ Some it → IsWeak effects row →
    AreHeldByTheirOwn effects → is_vm_there effects it.vm ≡ false → IsTiedTo effects (without_machine row)
bare-tied effects row it has weak own gone = record {
  machines =
      ap (λ all. pointwise nat_eq all [])
      (filter_none (mine_in effects row) (numbers_to (vms_created effects)) none);
  facts = refl;
  kept =
      kept-kept effects effects row (without_machine row) let_go
      (record { number = λ d. refl; tag = λ d. refl; want = λ d. refl }) refl (keeps-all effects) row.disks weak.kept;
  placed =
      disks-placed effects [] let_go row.disks
      (λ d is.
      placed_loose effects [] (let_go d)
      (nobody_holds effects row d own none (all_in (is_disk_kept effects row) d row.disks weak.kept is)) refl refl);
  others = refl;
}
  where
    or_none : (b : Bool) → (b || false) ≡ true → b ≡ true
    or_none true is = refl
    or_none false is = is

    by_truth : (v : ℕ) (b : Bool) → mine_in effects row v ≡ b → b ≡ false
    by_truth v true mine =
        absurd (let listed : list_any (λ k. k == v) (it.vm ∷ []) ≡ true =
        sym (ap (λ o. list_any (λ k. k == v) (number_of o)) has) ∙ weak.machines v mine in
        let same : it.vm ≡ v = eqb-true it.vm v (or_none (it.vm == v) listed) in
        let there : is_vm_there effects v ≡ true =
        (and_parts (is_vm_there effects v) (is_made_for (Instance row.inst) (vm_creation effects v)) mine).0 in
        let no_more : is_vm_there effects v ≡ false = ap (is_vm_there effects) (sym same) ∙ gone in cc)
    by_truth v false mine = refl

    none : (v : ℕ) → mine_in effects row v ≡ false
    none v = by_truth v (mine_in effects row v) refl
