-- At most two disks are attached after each call, counting one that is being attached.
use Rattle.std.proofs.Common.{◌≡◌, ℕ, ◌+◌, ◌≤◌, Bool, true, false, Option, Some, None, List, [], ◌∷◌, refl, arith}
use Rattle.std.specs.Prelude.{◌==◌, if◌then◌else◌, map, count_by}
use Rattle.std.proofs.lemmas.List.Sums.{sum_by_push}
use Rattle.bosh_base.specs.declared.answer.Answer.{Answer}
use Rattle.bosh_base.specs.declared.answer.Answer.TheVariants as answers
use Rattle.bosh_base.specs.declared.call.Call.{Call}
use Rattle.bosh_base.specs.declared.call.Call.TheVariants as calls
use Rattle.bosh_base.specs.declared.disk_want.DiskWant.{DiskWant}
use Rattle.bosh_base.specs.declared.row.DiskRow.{DiskRow}
use Rattle.bosh_base.specs.declared.row.Doubt.{Doubt}
use Rattle.bosh_base.specs.declared.row.Role.{Role}
use Rattle.bosh_base.specs.declared.row.Role.TheVariants.{Active, Old}
use Rattle.bosh_base.specs.declared.row.Row.{Row}
use Rattle.laws_rows.proofs.BoundLemmas.{count-cons, count-one, is_held}
use Rattle.laws_rows.specs.Left.{one_if}
use Rattle.laws_rows.specs.SoundDisks.{are_distinct}
use Rattle.bosh_rows.specs.After.{after, attach, attached_by, changing, let_go, migrated_disks, mount, mounted_by, row_at_gone, row_by_answer, unmount, with_disk, with_found, with_machine, without_machine}

-- how many disks are attached
abbrev pub held : List DiskRow → ℕ
held xs = count_by is_held xs

-- ---- the disks change

-- no disk is attached that was not
held_map : (f : DiskRow → DiskRow) → ((d : DiskRow) → (f d).attached ≡ true → d.attached ≡ true) →
    (xs : List DiskRow) → held (map f xs) ≤ held xs
held_map f less [] = omega arith
held_map f less (x ∷ xs) =
    let first : one_if (f x).attached ≤ one_if x.attached = by_truth (f x).attached x.attached (less x) in
    let rest : held (map f xs) ≤ held xs = held_map f less xs in
    let new : held (f x ∷ map f xs) ≡ one_if (f x).attached + held (map f xs) = count-cons is_held (f x) (map f xs) in
    let old : held (x ∷ xs) ≡ one_if x.attached + held xs = count-cons is_held x xs in omega arith
  where
    by_truth : (a b : Bool) → (a ≡ true → b ≡ true) → one_if a ≤ one_if b
    by_truth true true less = omega arith
    by_truth true false less = absurd (let is : false ≡ true = less refl in cc)
    by_truth false b less = omega arith

pub held_changing : (number : ℕ) (f : DiskRow → DiskRow) → ((d : DiskRow) → (f d).attached ≡ true → d.attached ≡ true) →
    (xs : List DiskRow) → held (changing number f xs) ≤ held xs
held_changing number f less xs =
    held_map (λ d. if d.disk == number then f d else d) (λ d. by_test d (d.disk == number)) xs
  where
    by_test : (d : DiskRow) (b : Bool) → (if b then f d else d).attached ≡ true → d.attached ≡ true
    by_test d true is = less d is
    by_test d false is = is

-- the disk with another role
abbrev with_role : Role → DiskRow → DiskRow
with_role role d = record d { role = role }

held_migrated : (from to : ℕ) (xs : List DiskRow) → held (migrated_disks from to xs) ≤ held xs
held_migrated from to xs =
    let old : held (changing from (with_role Old) xs) ≤ held xs =
    held_changing from (with_role Old) (λ d is. is) xs in
    let new : held (migrated_disks from to xs) ≤ held (changing from (with_role Old) xs) =
    held_changing to (with_role Active) (λ d is. is) (changing from (with_role Old) xs) in omega arith

-- one disk is attached
pub held_attached : (number : ℕ) (xs : List DiskRow) → are_distinct xs ≡ true →
    held (changing number attach xs) ≤ held xs + 1
held_attached number xs distinct =
    let one : count_by (λ d. d.disk == number) xs ≤ 1 =
    (count-one (λ d. d.disk == number) number xs distinct (λ d is. is)).0 in
    let sum : held (changing number attach xs) ≤ held xs + count_by (λ d. d.disk == number) xs = within xs in
    omega arith
  where
    within : (xs : List DiskRow) → held (changing number attach xs) ≤ held xs + count_by (λ d. d.disk == number) xs
    within [] = omega arith
    within (x ∷ xs) =
        let first : one_if (if x.disk == number then attach x else x).attached
        ≤ one_if x.attached + one_if (x.disk == number) = by_test x.attached (x.disk == number) in
        let rest : held (changing number attach xs) ≤ held xs + count_by (λ d. d.disk == number) xs = within xs in
        let new : held (changing number attach (x ∷ xs))
        ≡ one_if (if x.disk == number then attach x else x).attached + held (changing number attach xs) =
        count-cons is_held (if x.disk == number then attach x else x) (changing number attach xs) in
        let old : held (x ∷ xs) ≡ one_if x.attached + held xs = count-cons is_held x xs in
        let same : count_by (λ d. d.disk == number) (x ∷ xs)
        ≡ one_if (x.disk == number) + count_by (λ d. d.disk == number) xs =
        count-cons (λ d. d.disk == number) x xs in omega arith
      where
        by_test : (a b : Bool) →
            one_if (if b then attach x else x).attached ≤ one_if x.attached + one_if b
        by_test a true = omega arith
        by_test a false = omega arith

let_go_held : (xs : List DiskRow) → held (map let_go xs) ≤ held xs
let_go_held xs = held_map let_go (λ d is. absurd cc) xs

-- ---- each answer

-- how many disks an answer may leave attached
abbrev pub MayHold : Call → Answer → Row → Type 0
MayHold (calls.AttachDisk v d) answer row = held row.disks + 1 ≤ 2
MayHold (calls.GetDisks v) (answers.Disks ks) row = held (map (attached_by ks) row.disks) ≤ 2
MayHold call answer row = Unit {0}

disk_held : (row : Row) (tag : ℕ) (wanted : DiskWant) (found : Option ℕ) → held row.disks ≤ 2 →
    held (with_disk tag wanted found row).disks ≤ 2
disk_held row tag wanted (Some d) low =
    let more : held (with_disk tag wanted (Some d) row).disks ≡ held row.disks + 0 =
    sum_by_push (λ d. if◌then◌else◌ {A = ℕ} (is_held d) 1 0) row.disks _ in omega arith
disk_held row tag wanted None low = low

pub found_held : (row : Row) (tag : ℕ) (found : Option ℕ) (doubt : Option Doubt) → held row.disks ≤ 2 →
    held (with_found tag found doubt row).disks ≤ 2
found_held row tag found None low = low
found_held row tag found (Some d) low = by_call d.n d.call
  where
    by_call : (m : ℕ) (c : Call) →
        held (with_found tag found (Some (record { n = m; call = c })) row).disks ≤ 2
    by_call m (calls.CreateDisk wanted vm) = disk_held row tag wanted found low
    by_call m c = low

machine_held : (row : Row) (agent : ℕ) (found : Option ℕ) → held row.disks ≤ 2 →
    held (with_machine agent found row).disks ≤ 2
machine_held row agent (Some v) low = low
machine_held row agent None low =
    let less : held (map let_go row.disks) ≤ held row.disks = let_go_held row.disks in omega arith

within : (a b : ℕ) → a ≤ b → b ≤ 2 → a ≤ 2
within a b less low = omega arith

told_held : (n : ℕ) (call : Call) (answer : Answer) (row : Row) → are_distinct row.disks ≡ true →
    held row.disks ≤ 2 → MayHold call answer row → held (row_by_answer n call answer row).disks ≤ 2
told_held n (calls.CreateVm make hint) (answers.Cid v) row distinct low may = low
told_held n (calls.FindVm agent) (answers.Found found) row distinct low may = machine_held row agent found low
told_held n (calls.DeleteVm v) answers.Done row distinct low may =
    within (held (map let_go row.disks)) (held row.disks) (let_go_held row.disks) low
told_held n (calls.HasVm v) answers.No row distinct low may =
    within (held (map let_go row.disks)) (held row.disks) (let_go_held row.disks) low
told_held n (calls.CreateDisk wanted v) (answers.Cid d) row distinct low may = disk_held row n wanted (Some d) low
told_held n (calls.FindDisk tag) (answers.Found found) row distinct low may =
    found_held row tag found row.doubt low
told_held n (calls.AttachDisk v d) answers.Done row distinct low may =
    within (held (changing d attach row.disks)) (held row.disks + 1) (held_attached d row.disks distinct) may
told_held n (calls.DetachDisk v d) answers.Done row distinct low may =
    within (held (changing d let_go row.disks)) (held row.disks)
    (held_changing d let_go (λ it is. absurd cc) row.disks) low
told_held n (calls.GetDisks v) (answers.Disks ks) row distinct low may = may
told_held n (calls.MountDisk v d) answers.Done row distinct low may =
    within (held (changing d mount row.disks)) (held row.disks) (held_changing d mount (λ it is. is) row.disks) low
told_held n (calls.UnmountDisk v d) answers.Done row distinct low may =
    within (held (changing d unmount row.disks)) (held row.disks) (held_changing d unmount (λ it is. is) row.disks) low
told_held n (calls.ListDisk v) (answers.Disks ks) row distinct low may =
    within (held (map (mounted_by ks) row.disks)) (held row.disks) (held_map (mounted_by ks) (λ it is. is) row.disks)
    low
told_held n (calls.MigrateDisk v from to) answers.Done row distinct low may =
    within (held (migrated_disks from to row.disks)) (held row.disks) (held_migrated from to row.disks) low
told_held n (calls.HasVm v) answers.Yes row distinct low may = low
told_held n (calls.Apply v spec) answers.Done row distinct low may = low
told_held n (calls.Start v) answers.Done row distinct low may = low
told_held n (calls.Drain v) answers.Done row distinct low may = low
told_held n (calls.Stop v) answers.Done row distinct low may = low
told_held n (calls.GetState v) (answers.Facts spec running drained) row distinct low may = low
told_held n call answer row distinct low may = low

gone_held : (call : Call) (row : Row) → held row.disks ≤ 2 → held (row_at_gone call row).disks ≤ 2
gone_held (calls.DeleteVm v) row low = by_loss row.lost
  where
    by_loss : (b : Bool) → held (if b then without_machine row else record row { doubt = None }).disks ≤ 2
    by_loss true = within (held (map let_go row.disks)) (held row.disks) (let_go_held row.disks) low
    by_loss false = low
gone_held call row low = low

-- at most two are attached
pub after_held : (n : ℕ) (call : Call) (answer : Answer) (row : Row) → are_distinct row.disks ≡ true →
    held row.disks ≤ 2 → MayHold call answer row → held (after n call answer row).disks ≤ 2
after_held n call answers.Failed row distinct low may = low
after_held n call answers.Gone row distinct low may = gone_held call row low
after_held n call answer row distinct low may = told_held n call answer row distinct low may
