-- Where a disk is attached next, at most one other is attached.
use Rattle.std.proofs.Common.{◌≡◌, ◌+◌, ◌≤◌, Bool, true, false, Option, Some, None, List, [], ◌∷◌, refl, sym, ◌∙◌, ap, inl, inr, arith}
use Rattle.std.specs.Prelude.{◌⊎◌, ◌==◌, ◌&&◌, ◌||◌, not, count_by}
use Rattle.std.proofs.lemmas.Bool.{eqb-true, eq-eqb, leb-true}
use Rattle.bosh_base.specs.declared.disk_want.DiskWant.{DiskWant}
use Rattle.bosh_base.specs.declared.goal.GoalRow.{GoalRow}
use Rattle.bosh_base.specs.declared.row.DiskRow.{DiskRow}
use Rattle.bosh_base.specs.declared.row.Role.{Role}
use Rattle.bosh_base.specs.declared.row.Role.TheVariants.{Active, New, Old}
use Rattle.bosh_base.specs.declared.row.Row.{Row}
use Rattle.bosh_base.specs.declared.row.Vm.{Vm}
use Rattle.laws_rows.proofs.BoundLemmas.{count-cons, count-one, is_held}
use Rattle.laws_rows.proofs.ListLemmas.{IsIn, active_found, all_in, least_none, same_disk}
use Rattle.laws_rows.proofs.MigrationLemmas.{AreTwo, two_of}
use Rattle.laws_rows.proofs.SoundLemmas.{distinct_of, one_of}
use Rattle.laws_rows.proofs.StepCases.{IsCleared, IsReplaced}
use Rattle.laws_rows.specs.Left.{one_if}
use Rattle.laws_rows.specs.SoundDisks.{are_distinct, are_sound}
use Rattle.bosh_rows.specs.Disks.{active, coming, is_active, is_spare, is_spare_beside, meets}
use Rattle.laws_kept_facts.proofs.RoomyLemmas.{held}

-- a count is no more than that of a test that each of them meets
count_less : (test other : DiskRow → Bool) (xs : List DiskRow) →
    ((d : DiskRow) → IsIn d xs → test d ≡ true → other d ≡ true) → count_by test xs ≤ count_by other xs
count_less test other [] each = omega arith
count_less test other (x ∷ xs) each =
    let first : one_if (test x) ≤ one_if (other x) = by_truth (test x) (other x) (each x (inl refl)) in
    let rest : count_by test xs ≤ count_by other xs = count_less test other xs (λ d is. each d (inr is)) in
    let a : count_by test (x ∷ xs) ≡ one_if (test x) + count_by test xs = count-cons test x xs in
    let b : count_by other (x ∷ xs) ≡ one_if (other x) + count_by other xs = count-cons other x xs in omega arith
  where
    by_truth : (a b : Bool) → (a ≡ true → b ≡ true) → one_if a ≤ one_if b
    by_truth true true less = omega arith
    by_truth true false less = absurd (let is : false ≡ true = less refl in cc)
    by_truth false b less = omega arith

-- the disk is the one that comes
abbrev comes : Option DiskRow → DiskRow → Bool
comes new d = meets (λ it. it.disk == d.disk) new

comes_once : (new : Option DiskRow) (xs : List DiskRow) → are_distinct xs ≡ true → count_by (comes new) xs ≤ 1
comes_once None xs distinct = (count-one (comes None) 0 xs distinct (λ d is. absurd cc)).0
comes_once (Some it) xs distinct =
    (count-one (comes (Some it)) it.disk xs distinct
    (λ d is. eq-eqb d.disk it.disk (sym (eqb-true it.disk d.disk is)))).0

-- a disk that is not spare is the active one, or comes
used : (new : Option DiskRow) (d : DiskRow) (role : Role) →
    is_spare_beside new (record d { role = role }) ≡ false →
    (is_active (record d { role = role }) ≡ true) ⊎ (comes new d ≡ true)
used new d Active unspare = inl refl
used new d New unspare = inr (by_truth (comes new d) unspare)
  where
    by_truth : (b : Bool) → (false || (true && not b)) ≡ false → b ≡ true
    by_truth true is = refl
    by_truth false is = absurd cc
used new d Old unspare = absurd cc

-- .. and so is each that is attached where the spare ones are cleared
used_of : (w : GoalRow) (row : Row) (it : Vm) (wanted : DiskWant) → IsCleared w row it → w.disk ≡ Some wanted →
    (d : DiskRow) → IsIn d row.disks → d.attached ≡ true →
    (is_active d ≡ true) ⊎ (comes (coming (Some wanted) row.disks) d ≡ true)
used_of w row it wanted cleared wants d is on =
    used (coming (Some wanted) row.disks) d d.role
    ((λ i. is_spare (sym wants i) row.disks d)
    ∙ by_truth (is_spare w.disk row.disks d) d.attached on
    (all_in (λ d. not (is_spare w.disk row.disks d && d.attached)) d row.disks
    (least_none (λ d. is_spare w.disk row.disks d && d.attached) row.disks cleared.detached) is))
  where
    by_truth : (a b : Bool) → b ≡ true → not (a && b) ≡ true → a ≡ false
    by_truth true true on none = absurd cc
    by_truth true false on none = absurd cc
    by_truth false b on none = refl

one_active : (xs : List DiskRow) → are_sound xs ≡ true → count_by is_active xs ≤ 1
one_active xs sound = leb-true (count_by is_active xs) 1 (one_of xs sound)

counted : (test : DiskRow → Bool) (d : DiskRow) (xs : List DiskRow) → IsIn d xs → test d ≡ true →
    1 ≤ count_by test xs
counted test d [] is holds = absurd is
counted test d (x ∷ xs) (inl same) holds =
    let first : one_if (test x) ≡ 1 = ap one_if (ap test same ∙ holds) in
    let a : count_by test (x ∷ xs) ≡ one_if (test x) + count_by test xs = count-cons test x xs in omega arith
counted test d (x ∷ xs) (inr is) holds =
    let rest : 1 ≤ count_by test xs = counted test d xs is holds in
    let a : count_by test (x ∷ xs) ≡ one_if (test x) + count_by test xs = count-cons test x xs in omega arith

-- there is one active disk
same_active : (xs : List DiskRow) → count_by is_active xs ≤ 1 → (d e : DiskRow) → IsIn d xs → IsIn e xs →
    is_active d ≡ true → is_active e ≡ true → d ≡ e
same_active [] one d e is also first second = absurd is
same_active (x ∷ xs) one d e is also first second =
    by_place is also (λ one is also. same_active xs one d e is also first second)
  where
    more : count_by is_active (x ∷ xs) ≡ one_if (is_active x) + count_by is_active xs
    more = count-cons is_active x xs

    by_place : IsIn d (x ∷ xs) → IsIn e (x ∷ xs) →
        (count_by is_active xs ≤ 1 → IsIn d xs → IsIn e xs → d ≡ e) → d ≡ e
    by_place (inl here) (inl there) others = sym here ∙ there
    by_place (inl here) (inr also) others =
        absurd (let now : one_if (is_active x) ≡ 1 = ap one_if (ap is_active here ∙ first) in
        let rest : 1 ≤ count_by is_active xs = counted is_active e xs also second in
        omega (arith, one, more, now, rest))
    by_place (inr is) (inl there) others =
        absurd (let now : one_if (is_active x) ≡ 1 = ap one_if (ap is_active there ∙ second) in
        let rest : 1 ≤ count_by is_active xs = counted is_active d xs is first in omega (arith, one, more, now, rest))
    by_place (inr is) (inr also) others = others (omega (arith, one, more)) is also

-- the active disk is attached
pub active_placed : (w : GoalRow) (row : Row) (it : Vm) (wanted : DiskWant) (old : DiskRow) →
    are_sound row.disks ≡ true → IsCleared w row it → w.disk ≡ Some wanted → active row.disks ≡ Some old →
    old.attached ≡ false → held row.disks + 1 ≤ 2
active_placed w row it wanted old sound cleared wants was off =
    let low : held row.disks ≤ count_by (comes (coming (Some wanted) row.disks)) row.disks =
    count_less is_held (comes (coming (Some wanted) row.disks)) row.disks
    (λ d is on. by_use d is on (used_of w row it wanted cleared wants d is on)) in
    let one : count_by (comes (coming (Some wanted) row.disks)) row.disks ≤ 1 =
    comes_once (coming (Some wanted) row.disks) row.disks (distinct_of row.disks sound) in omega (arith, low, one)
  where
    by_use : (d : DiskRow) → IsIn d row.disks → d.attached ≡ true →
        (is_active d ≡ true) ⊎ (comes (coming (Some wanted) row.disks) d ≡ true) →
        comes (coming (Some wanted) row.disks) d ≡ true
    by_use d is on (inr comes_next) = comes_next
    by_use d is on (inl plays) =
        absurd (let same : d ≡ old =
        same_active row.disks (one_active row.disks sound) d old is (active_found old row.disks was).is_in plays
        (active_found old row.disks was).meets in
        let too : old.attached ≡ true = ap (λ d. d.attached) (sym same) ∙ on in cc)

-- the disk that comes is attached
pub coming_placed : (w : GoalRow) (row : Row) (it : Vm) (wanted : DiskWant) (old new : DiskRow) →
    are_sound row.disks ≡ true → IsReplaced w row it wanted old → coming (Some wanted) row.disks ≡ Some new →
    new.attached ≡ false → held row.disks + 1 ≤ 2
coming_placed w row it wanted old new sound replaced is_next off =
    let low : held row.disks ≤ count_by is_active row.disks =
    count_less is_held is_active row.disks
    (λ d is on. by_use d is on (used_of w row it wanted replaced.cleared replaced.wants d is on)) in
    let one : count_by is_active row.disks ≤ 1 = one_active row.disks sound in omega (arith, low, one)
  where
    two : AreTwo wanted row.disks old new
    two =
        two_of wanted row.disks old new (distinct_of row.disks sound) replaced.is_active replaced.wrong is_next

    by_use : (d : DiskRow) → IsIn d row.disks → d.attached ≡ true →
        (is_active d ≡ true) ⊎ (comes (coming (Some wanted) row.disks) d ≡ true) → is_active d ≡ true
    by_use d is on (inl plays) = plays
    by_use d is on (inr comes_next) =
        absurd (let number : (new.disk == d.disk) ≡ true = sym (ap (λ o. comes o d) is_next) ∙ comes_next in
        let same : new ≡ d = same_disk row.disks (distinct_of row.disks sound) d new is two.new_in number in
        let too : new.attached ≡ true = ap (λ d. d.attached) same ∙ on in cc)
