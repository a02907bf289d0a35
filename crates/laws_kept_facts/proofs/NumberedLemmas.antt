-- The disks of a row stand by number after each call, and the one that a call in doubt made is above them.
use Rattle.std.proofs.Common.{◌≡◌, ℕ, Bool, true, false, Option, Some, None, List, [], ◌∷◌, ◌++◌, refl, ◌∙◌, ap, arith}
use Rattle.std.specs.Prelude.{◌==◌, map, if◌then◌else◌, nat_lt}
use Rattle.std.specs.List.{list_all}
use Rattle.std.specs.Ordering.{nat_cmp}
use Rattle.std.proofs.lemmas.Bool.{and_parts, and_from}
use Rattle.std.proofs.lemmas.List.{map-append}
use Rattle.bosh_base.specs.declared.answer.Answer.{Answer}
use Rattle.bosh_base.specs.declared.answer.Answer.TheVariants as answers
use Rattle.bosh_base.specs.declared.call.Call.{Call}
use Rattle.bosh_base.specs.declared.call.Call.TheVariants as calls
use Rattle.bosh_base.specs.declared.disk_want.DiskWant.{DiskWant}
use Rattle.bosh_base.specs.declared.row.DiskRow.{DiskRow}
use Rattle.bosh_base.specs.declared.row.Doubt.{Doubt}
use Rattle.bosh_base.specs.declared.row.Role.{Role}
use Rattle.bosh_base.specs.declared.row.Role.TheVariants.{Active, Old}
use Rattle.bosh_base.specs.declared.row.Row.{Row}
use Rattle.laws_row_facts.specs.Rows.{are_below}
use Rattle.laws_row_facts.specs.Words.{are_ascending, is_before, is_below}
use Rattle.bosh_rows.specs.After.{after, attach, attached_by, changing, let_go, migrated_disks, mount, mounted_by, row_at_gone, row_by_answer, unmount, with_disk, with_found, with_machine, without_machine}

-- the numbers of disks
abbrev pub numbers : List DiskRow → List ℕ
numbers xs = map (λ d. d.disk) xs

-- ---- the numbers stay

numbers_map : (f : DiskRow → DiskRow) → ((d : DiskRow) → (f d).disk ≡ d.disk) → (xs : List DiskRow) →
    numbers (map f xs) ≡ numbers xs
numbers_map f same [] = refl
numbers_map f same (x ∷ xs) = λ i. same x i ∷ numbers_map f same xs i

numbers_changing : (number : ℕ) (f : DiskRow → DiskRow) → ((d : DiskRow) → (f d).disk ≡ d.disk) →
    (xs : List DiskRow) → numbers (changing number f xs) ≡ numbers xs
numbers_changing number f same xs =
    numbers_map (λ d. if d.disk == number then f d else d) (λ d. by_test d (d.disk == number)) xs
  where
    by_test : (d : DiskRow) (b : Bool) → (if b then f d else d).disk ≡ d.disk
    by_test d true = same d
    by_test d false = refl

-- the disk with another role
abbrev with_role : Role → DiskRow → DiskRow
with_role role d = record d { role = role }

numbers_migrated : (from to : ℕ) (xs : List DiskRow) → numbers (migrated_disks from to xs) ≡ numbers xs
numbers_migrated from to xs =
    numbers_changing to (with_role Active) (λ d. refl) (changing from (with_role Old) xs)
    ∙ numbers_changing from (with_role Old) (λ d. refl) xs

-- ---- one more

less_of : (a b : ℕ) → nat_lt a b ≡ true → is_before (nat_cmp a b) ≡ true
less_of a b less = grind (arith, less)

ascending_more : (ks : List ℕ) (d : ℕ) → are_ascending nat_cmp ks ≡ true → list_all (λ k. nat_lt k d) ks ≡ true →
    are_ascending nat_cmp (ks ++ d ∷ []) ≡ true
ascending_more [] d ascending below = refl
ascending_more (k ∷ ks) d ascending below =
    let order : (is_below nat_cmp k ks ≡ true) × (are_ascending nat_cmp ks ≡ true) =
    and_parts (is_below nat_cmp k ks) (are_ascending nat_cmp ks) ascending in
    let low : (nat_lt k d ≡ true) × (list_all (λ k. nat_lt k d) ks ≡ true) =
    and_parts (nat_lt k d) (list_all (λ k. nat_lt k d) ks) below in
    and_from (is_below nat_cmp k (ks ++ d ∷ [])) (are_ascending nat_cmp (ks ++ d ∷ []))
    (first ks order.0 low.0) (ascending_more ks d order.1 low.1)
  where
    first : (js : List ℕ) → is_below nat_cmp k js ≡ true → nat_lt k d ≡ true →
        is_below nat_cmp k (js ++ d ∷ []) ≡ true
    first [] is low = less_of k d low
    first (j ∷ js) is low = is

-- the disks stand by number
abbrev pub is_ascending : Row → Bool
is_ascending row = are_ascending nat_cmp (numbers row.disks)

disk_ascends : (row : Row) (tag : ℕ) (wanted : DiskWant) (found : Option ℕ) → is_ascending row ≡ true →
    are_below (numbers row.disks) found ≡ true → is_ascending (with_disk tag wanted found row) ≡ true
disk_ascends row tag wanted None ascending below = ascending
disk_ascends row tag wanted (Some d) ascending below =
    ap (are_ascending nat_cmp) (map-append (λ (it : DiskRow). it.disk) row.disks _)
    ∙ ascending_more (numbers row.disks) d ascending below

found_ascends : (row : Row) (tag : ℕ) (found : Option ℕ) (doubt : Option Doubt) → is_ascending row ≡ true →
    are_below (numbers row.disks) found ≡ true → is_ascending (with_found tag found doubt row) ≡ true
found_ascends row tag found None ascending below = ascending
found_ascends row tag found (Some d) ascending below = by_call d.n d.call
  where
    by_call : (m : ℕ) (c : Call) →
        is_ascending (with_found tag found (Some (record { n = m; call = c })) row) ≡ true
    by_call m (calls.CreateDisk wanted vm) = disk_ascends row tag wanted found ascending below
    by_call m c = ascending

-- a disk that is told of is above those that are recorded
abbrev pub MayAdd : Call → Answer → Row → Type 0
MayAdd (calls.CreateDisk wanted v) (answers.Cid d) row = are_below (numbers row.disks) (Some d) ≡ true
MayAdd (calls.FindDisk tag) (answers.Found found) row = are_below (numbers row.disks) found ≡ true
MayAdd call answer row = Unit {0}

same_numbers : (xs ys : List DiskRow) → numbers ys ≡ numbers xs → are_ascending nat_cmp (numbers xs) ≡ true →
    are_ascending nat_cmp (numbers ys) ≡ true
same_numbers xs ys same ascending = ap (are_ascending nat_cmp) same ∙ ascending

let_go_ascends : (row : Row) → is_ascending row ≡ true → is_ascending (without_machine row) ≡ true
let_go_ascends row ascending =
    same_numbers row.disks (map let_go row.disks) (numbers_map let_go (λ d. refl) row.disks) ascending

machine_ascends : (row : Row) (agent : ℕ) (found : Option ℕ) → is_ascending row ≡ true →
    is_ascending (with_machine agent found row) ≡ true
machine_ascends row agent (Some v) ascending = ascending
machine_ascends row agent None ascending = let_go_ascends row ascending

told_ascends : (n : ℕ) (call : Call) (answer : Answer) (row : Row) → is_ascending row ≡ true →
    MayAdd call answer row → is_ascending (row_by_answer n call answer row) ≡ true
told_ascends n (calls.CreateVm make hint) (answers.Cid v) row ascending may = ascending
told_ascends n (calls.FindVm agent) (answers.Found found) row ascending may = machine_ascends row agent found ascending
told_ascends n (calls.DeleteVm v) answers.Done row ascending may = let_go_ascends row ascending
told_ascends n (calls.HasVm v) answers.No row ascending may = let_go_ascends row ascending
told_ascends n (calls.CreateDisk wanted v) (answers.Cid d) row ascending may =
    disk_ascends row n wanted (Some d) ascending may
told_ascends n (calls.FindDisk tag) (answers.Found found) row ascending may =
    found_ascends row tag found row.doubt ascending may
told_ascends n (calls.AttachDisk v d) answers.Done row ascending may =
    same_numbers row.disks _ (numbers_changing d attach (λ d. refl) row.disks) ascending
told_ascends n (calls.DetachDisk v d) answers.Done row ascending may =
    same_numbers row.disks _ (numbers_changing d let_go (λ d. refl) row.disks) ascending
told_ascends n (calls.GetDisks v) (answers.Disks ks) row ascending may =
    same_numbers row.disks _ (numbers_map (attached_by ks) (λ d. refl) row.disks) ascending
told_ascends n (calls.MountDisk v d) answers.Done row ascending may =
    same_numbers row.disks _ (numbers_changing d mount (λ d. refl) row.disks) ascending
told_ascends n (calls.UnmountDisk v d) answers.Done row ascending may =
    same_numbers row.disks _ (numbers_changing d unmount (λ d. refl) row.disks) ascending
told_ascends n (calls.ListDisk v) (answers.Disks ks) row ascending may =
    same_numbers row.disks _ (numbers_map (mounted_by ks) (λ d. refl) row.disks) ascending
told_ascends n (calls.MigrateDisk v from to) answers.Done row ascending may =
    same_numbers row.disks _ (numbers_migrated from to row.disks) ascending
told_ascends n (calls.HasVm v) answers.Yes row ascending may = ascending
told_ascends n (calls.Apply v spec) answers.Done row ascending may = ascending
told_ascends n (calls.Start v) answers.Done row ascending may = ascending
told_ascends n (calls.Drain v) answers.Done row ascending may = ascending
told_ascends n (calls.Stop v) answers.Done row ascending may = ascending
told_ascends n (calls.GetState v) (answers.Facts spec running drained) row ascending may = ascending
told_ascends n call answer row ascending may = ascending

gone_ascends : (call : Call) (row : Row) → is_ascending row ≡ true → is_ascending (row_at_gone call row) ≡ true
gone_ascends (calls.DeleteVm v) row ascending = by_loss row.lost
  where
    by_loss : (b : Bool) → is_ascending (if b then without_machine row else record row { doubt = None }) ≡ true
    by_loss true = let_go_ascends row ascending
    by_loss false = ascending
gone_ascends call row ascending = ascending

-- each answer leaves the disks in order
pub after_ascends : (n : ℕ) (call : Call) (answer : Answer) (row : Row) → is_ascending row ≡ true →
    MayAdd call answer row → is_ascending (after n call answer row) ≡ true
after_ascends n call answers.Failed row ascending may = ascending
after_ascends n call answers.Gone row ascending may = gone_ascends call row ascending
after_ascends n call answer row ascending may = told_ascends n call answer row ascending may
