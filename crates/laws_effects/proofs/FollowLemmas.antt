-- What may be done next names only what was created.
use Rattle.std.proofs.Common.{◌≡◌, ℕ, ◌+◌, ◌≤◌, ◌<◌, Bool, true, false, List, [], ◌∷◌, ◌++◌, refl, sym, ◌∙◌, subst, arith}
use Rattle.std.specs.Prelude.{◌&&◌, ◌==◌, nat_le, nat_lt, not, is_some}
use Rattle.std.specs.List.{list_all}
use Rattle.std.proofs.lemmas.Bool.{and_parts, and_from, eqb-true, lt-ltb, le-leb}
use Rattle.bosh_base.proofs.HistoryLemmas.{EachAfter_last, kept_along}
use Rattle.bosh_base.specs.CallStep.{has_agent, is_attached, is_gone, is_mounted_on, is_movable, takes_effect, unless_gone}
use Rattle.bosh_base.specs.Cloud.{when, disk_presence, disk_stays, disks_created, is_disk_creation, is_disk_there, is_holder, is_vm_creation, is_vm_there, creates_disk, creates_vm, holder_of, vm_presence, vm_stays, vms_created}
use Rattle.bosh_base.specs.History.{chosen, EachAfter}
use Rattle.bosh_base.specs.declared.answer.Answer.{Answer}
use Rattle.bosh_base.specs.declared.answer.Answer.TheVariants as answers
use Rattle.bosh_base.specs.declared.call.Call.{Call}
use Rattle.bosh_base.specs.declared.call.Call.TheVariants.{CreateVm, DeleteVm, HasVm, FindVm, CreateDisk, DeleteDisk, HasDisk, FindDisk, AttachDisk, DetachDisk, GetDisks, Ping, GetState, Apply, Start, Drain, Stop, MountDisk, UnmountDisk, ListDisk, MigrateDisk, CompilePackage}
use Rattle.bosh_base.specs.declared.digest.Digest.{Digest}
use Rattle.bosh_base.specs.declared.entry.Entry.{Entry}
use Rattle.bosh_base.specs.declared.entry.Entry.TheVariants.{Effect, Write, Lost}
use Rattle.bosh_base.specs.declared.key.KeyWork.{KeyWork}
use Rattle.laws_effects.proofs.CreationLemmas.{vms-grown, disks-grown, is_vm_there-grown, is_disk_there-grown, one_if}
use Rattle.laws_effects.specs.Following.{MayFollow}
use Rattle.laws_effects.specs.Orderly.{AreOrderly, IsNext, disks_named, disks_named_by, is_created, is_new_call, vms_named, vms_named_by}

-- ---- what is there was created

pub record IsWithin (count number : ℕ) : Type 0 where
  pub first : 0 < number
  pub last : number ≤ count

within_more : (n more v : ℕ) → IsWithin n v → IsWithin (n + more) v
within_more n more v it = let first : 0 < v = it.first in let last : v ≤ n = it.last in record {
  first = it.first;
  last = omega arith;
}

pub record IsMade (xs : List Entry) : Type 0 where
  pub vms : (v : ℕ) → is_vm_there xs v ≡ true → IsWithin (vms_created xs) v
  pub disks : (d : ℕ) → is_disk_there xs d ≡ true → IsWithin (disks_created xs) d

vm_by_call : (n v : ℕ) (call : Call) (before : Bool) → (before ≡ true → IsWithin n v) →
    chosen (vm_stays v n call) before ≡ true → IsWithin (n + one_if (creates_vm call)) v
vm_by_call n v (CreateVm make disks) before old is = by_number (n + 1 == v) refl is
  where
    by_number : (b : Bool) → (n + 1 == v) ≡ b → chosen (when b true) before ≡ true → IsWithin (n + 1) v
    by_number true same is = let next : n + 1 ≡ v = eqb-true (n + 1) v same in record {
      first = omega arith;
      last = omega arith;
    }
    by_number false same is = within_more n 1 v (old is)
vm_by_call n v (DeleteVm vm) before old is = by_number (vm == v) is
  where
    by_number : (b : Bool) → chosen (when b false) before ≡ true → IsWithin (n + 0) v
    by_number true is = absurd cc
    by_number false is = within_more n 0 v (old is)
vm_by_call n v call before old is = within_more n 0 v (old is)

disk_by_call : (n d : ℕ) (call : Call) (before : Bool) → (before ≡ true → IsWithin n d) →
    chosen (disk_stays d n call) before ≡ true → IsWithin (n + one_if (creates_disk call)) d
disk_by_call n d (CreateDisk want vm) before old is = by_number (n + 1 == d) refl is
  where
    by_number : (b : Bool) → (n + 1 == d) ≡ b → chosen (when b true) before ≡ true → IsWithin (n + 1) d
    by_number true same is = let next : n + 1 ≡ d = eqb-true (n + 1) d same in record {
      first = omega arith;
      last = omega arith;
    }
    by_number false same is = within_more n 1 d (old is)
disk_by_call n d (DeleteDisk disk) before old is = by_number (disk == d) is
  where
    by_number : (b : Bool) → chosen (when b false) before ≡ true → IsWithin (n + 0) d
    by_number true is = absurd cc
    by_number false is = within_more n 0 d (old is)
disk_by_call n d call before old is = within_more n 0 d (old is)

made_step : (xs : List Entry) (x : Entry) → IsMade xs → Unit {0} → IsMade (xs ++ x ∷ [])
made_step xs x it next = record {
  vms = λ v is.
      subst (λ (n : ℕ). IsWithin n v) (sym (vms-grown xs x)) (vm v x (sym (is_vm_there-grown xs x v) ∙ is));
  disks = λ d is.
      subst (λ (n : ℕ). IsWithin n d) (sym (disks-grown xs x)) (disk d x (sym (is_disk_there-grown xs x d) ∙ is));
}
  where
    vm : (v : ℕ) (x : Entry) → chosen (vm_presence v xs x) (is_vm_there xs v) ≡ true →
        IsWithin (vms_created xs + one_if (is_vm_creation x)) v
    vm v (Effect e) is = vm_by_call (vms_created xs) v e.call (is_vm_there xs v) (it.vms v) is
    vm v (Lost loss) is = by_loss (loss.whole && loss.vm == v) is
      where
        by_loss : (b : Bool) → chosen (when b false) (is_vm_there xs v) ≡ true → IsWithin (vms_created xs + 0) v
        by_loss true is = absurd cc
        by_loss false is = within_more (vms_created xs) 0 v (it.vms v is)
    vm v x is = within_more (vms_created xs) 0 v (it.vms v is)

    disk : (d : ℕ) (x : Entry) → chosen (disk_presence d xs x) (is_disk_there xs d) ≡ true →
        IsWithin (disks_created xs + one_if (is_disk_creation x)) d
    disk d (Effect e) is = disk_by_call (disks_created xs) d e.call (is_disk_there xs d) (it.disks d) is
    disk d x is = within_more (disks_created xs) 0 d (it.disks d is)

each_any : {X : Type 0} (before xs : List X) → EachAfter (λ (before : List X) (x : X). Unit {0}) before xs
each_any before [] = tt
each_any before (x ∷ xs) = (tt, each_any (before ++ x ∷ []) xs)

pub made : (xs : List Entry) → IsMade xs
made xs =
    kept_along (λ before x. Unit {0}) IsMade made_step [] xs
    (record { vms = λ v is. absurd cc; disks = λ d is. absurd cc }) (each_any [] xs)

pub vm_within : (xs : List Entry) (v : ℕ) → is_vm_there xs v ≡ true → is_created (vms_created xs) v ≡ true
vm_within xs v there = let it : IsWithin (vms_created xs) v = (made xs).vms v there in
    and_from (nat_lt 0 v) (nat_le v (vms_created xs)) (lt-ltb 0 v it.first) (le-leb v (vms_created xs) it.last)

pub disk_within : (xs : List Entry) (d : ℕ) → is_disk_there xs d ≡ true → is_created (disks_created xs) d ≡ true
disk_within xs d there = let it : IsWithin (disks_created xs) d = (made xs).disks d there in
    and_from (nat_lt 0 d) (nat_le d (disks_created xs)) (lt-ltb 0 d it.first) (le-leb d (disks_created xs) it.last)

-- ---- what a call that takes effect names is there

pub not_gone : (b : Bool) (a : Answer) → not (is_gone (unless_gone b a)) ≡ true → b ≡ true
not_gone true a is = refl
not_gone false a is = absurd cc

one : (n v : ℕ) → is_created n v ≡ true → list_all (is_created n) (v ∷ []) ≡ true
one n v is = and_from (is_created n v) true is refl

vm_there : (xs : List Entry) (v : ℕ) (others : Bool) → (is_vm_there xs v && others) ≡ true → is_vm_there xs v ≡ true
vm_there xs v others is = (and_parts (is_vm_there xs v) others is).0

agent_there : (xs : List Entry) (v : ℕ) (others : Bool) → (has_agent xs v && others) ≡ true → is_vm_there xs v ≡ true
agent_there xs v others is = vm_there xs v _ (and_parts (has_agent xs v) others is).0

disk_there : (xs : List Entry) (d : ℕ) (front others : Bool) → (front && (is_disk_there xs d && others)) ≡ true →
    is_disk_there xs d ≡ true
disk_there xs d front others is =
    (and_parts (is_disk_there xs d) others (and_parts front (is_disk_there xs d && others) is).1).0

pub vms_there : (built : KeyWork → List Digest → Digest) (xs : List Entry) (call : Call) →
    takes_effect built xs call ≡ true → list_all (is_created (vms_created xs)) (vms_named_by call) ≡ true
vms_there built xs (CreateVm make disks) takes = refl
vms_there built xs (DeleteVm vm) takes = one _ vm (vm_within xs vm (not_gone (is_vm_there xs vm) answers.Done takes))
vms_there built xs (HasVm vm) takes = refl
vms_there built xs (FindVm agent) takes = refl
vms_there built xs (CreateDisk want vm) takes =
    one _ vm (vm_within xs vm (not_gone (is_vm_there xs vm) (answers.Cid (disks_created xs + 1)) takes))
vms_there built xs (DeleteDisk disk) takes = refl
vms_there built xs (HasDisk disk) takes = refl
vms_there built xs (FindDisk tag) takes = refl
vms_there built xs (AttachDisk vm disk) takes =
    one _ vm (vm_within xs vm (vm_there xs vm _ (not_gone (is_vm_there xs vm && is_movable xs vm disk) answers.Done
    takes)))
vms_there built xs (DetachDisk vm disk) takes =
    one _ vm (vm_within xs vm (vm_there xs vm _ (not_gone (is_vm_there xs vm && is_movable xs vm disk) answers.Done
    takes)))
vms_there built xs (GetDisks vm) takes = refl
vms_there built xs (Ping vm) takes = refl
vms_there built xs (GetState vm) takes = refl
vms_there built xs (Apply vm spec) takes =
    one _ vm (vm_within xs vm (vm_there xs vm _ (not_gone (has_agent xs vm) answers.Done takes)))
vms_there built xs (Start vm) takes =
    one _ vm (vm_within xs vm (vm_there xs vm _ (not_gone (has_agent xs vm) answers.Done takes)))
vms_there built xs (Drain vm) takes =
    one _ vm (vm_within xs vm (vm_there xs vm _ (not_gone (has_agent xs vm) answers.Done takes)))
vms_there built xs (Stop vm) takes =
    one _ vm (vm_within xs vm (vm_there xs vm _ (not_gone (has_agent xs vm) answers.Done takes)))
vms_there built xs (MountDisk vm disk) takes =
    one _ vm (vm_within xs vm (agent_there xs vm _ (not_gone (has_agent xs vm && is_attached xs vm disk) answers.Done
    takes)))
vms_there built xs (UnmountDisk vm disk) takes =
    one _ vm (vm_within xs vm (agent_there xs vm _ (not_gone (has_agent xs vm && is_attached xs vm disk) answers.Done
    takes)))
vms_there built xs (ListDisk vm) takes = refl
vms_there built xs (MigrateDisk vm from to) takes =
    one _ vm (vm_within xs vm (agent_there xs vm _
    (not_gone (has_agent xs vm && (is_mounted_on xs vm from && is_mounted_on xs vm to)) answers.Done takes)))
vms_there built xs (CompilePackage vm work deps) takes = refl

mounted_there : (xs : List Entry) (v d : ℕ) → is_mounted_on xs v d ≡ true → is_disk_there xs d ≡ true
mounted_there xs v d is =
    (and_parts (is_disk_there xs d) (is_holder xs v d) (and_parts (is_attached xs v d) _ is).0).0

pub disks_there : (built : KeyWork → List Digest → Digest) (xs : List Entry) (call : Call) →
    takes_effect built xs call ≡ true → list_all (is_created (disks_created xs)) (disks_named_by call) ≡ true
disks_there built xs (CreateVm make disks) takes = refl
disks_there built xs (DeleteVm vm) takes = refl
disks_there built xs (HasVm vm) takes = refl
disks_there built xs (FindVm agent) takes = refl
disks_there built xs (CreateDisk want vm) takes = refl
disks_there built xs (DeleteDisk disk) takes =
    one _ disk (disk_within xs disk (and_parts (is_disk_there xs disk) (not (is_some (holder_of xs disk)))
    (not_gone (is_disk_there xs disk && not (is_some (holder_of xs disk))) answers.Done takes)).0)
disks_there built xs (HasDisk disk) takes = refl
disks_there built xs (FindDisk tag) takes = refl
disks_there built xs (AttachDisk vm disk) takes =
    one _ disk (disk_within xs disk (disk_there xs disk (is_vm_there xs vm) _
    (not_gone (is_vm_there xs vm && is_movable xs vm disk) answers.Done takes)))
disks_there built xs (DetachDisk vm disk) takes =
    one _ disk (disk_within xs disk (disk_there xs disk (is_vm_there xs vm) _
    (not_gone (is_vm_there xs vm && is_movable xs vm disk) answers.Done takes)))
disks_there built xs (GetDisks vm) takes = refl
disks_there built xs (Ping vm) takes = refl
disks_there built xs (GetState vm) takes = refl
disks_there built xs (Apply vm spec) takes = refl
disks_there built xs (Start vm) takes = refl
disks_there built xs (Drain vm) takes = refl
disks_there built xs (Stop vm) takes = refl
disks_there built xs (MountDisk vm disk) takes =
    one _ disk (disk_within xs disk (disk_there xs disk (has_agent xs vm) _
    (not_gone (has_agent xs vm && is_attached xs vm disk) answers.Done takes)))
disks_there built xs (UnmountDisk vm disk) takes =
    one _ disk (disk_within xs disk (disk_there xs disk (has_agent xs vm) _
    (not_gone (has_agent xs vm && is_attached xs vm disk) answers.Done takes)))
disks_there built xs (ListDisk vm) takes = refl
disks_there built xs (MigrateDisk vm from to) takes =
    let both : (is_mounted_on xs vm from && is_mounted_on xs vm to) ≡ true =
    (and_parts (has_agent xs vm) (is_mounted_on xs vm from && is_mounted_on xs vm to)
    (not_gone (has_agent xs vm && (is_mounted_on xs vm from && is_mounted_on xs vm to)) answers.Done takes)).1 in
    let each : (is_mounted_on xs vm from ≡ true) × (is_mounted_on xs vm to ≡ true) =
    and_parts (is_mounted_on xs vm from) (is_mounted_on xs vm to) both in
    and_from (is_created (disks_created xs) from) (is_created (disks_created xs) to && true)
    (disk_within xs from (mounted_there xs vm from each.0)) (one _ to
    (disk_within xs to (mounted_there xs vm to each.1)))
disks_there built xs (CompilePackage vm work deps) takes = refl

-- ---- the order

pub next_follows : (built : KeyWork → List Digest → Digest) (xs : List Entry) (x : Entry) → MayFollow built xs x →
    is_new_call xs x → IsNext xs x
next_follows built xs x follows new = record { vms = vms x follows; disks = disks x follows; number = new }
  where
    vms : (x : Entry) → MayFollow built xs x → list_all (is_created (vms_created xs)) (vms_named x) ≡ true
    vms (Effect e) takes = vms_there built xs e.call takes
    vms (Write w) there = refl
    vms (Lost loss) there = one _ loss.vm (vm_within xs loss.vm there)
    vms x follows = absurd cc

    disks : (x : Entry) → MayFollow built xs x → list_all (is_created (disks_created xs)) (disks_named x) ≡ true
    disks (Effect e) takes = disks_there built xs e.call takes
    disks (Write w) there = one _ w.disk (disk_within xs w.disk there)
    disks (Lost loss) there = refl
    disks x follows = absurd cc

pub orderly_follows : (built : KeyWork → List Digest → Digest) (before : List Entry) (entry : Entry) →
    AreOrderly before → MayFollow built before entry → is_new_call before entry → AreOrderly (before ++ entry ∷ [])
orderly_follows built xs x orderly follows new =
    EachAfter_last IsNext [] xs x orderly (next_follows built xs x follows new)
