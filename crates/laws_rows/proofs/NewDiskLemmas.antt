-- What is left to do for the disks of a row falls where a disk is created, and where the contents are moved to it;
-- and no
-- disk stands twice then, nor are two active.
use Rattle.std.proofs.Common.{◌≡◌, ℕ, ◌+◌, ◌≤◌, Bool, true, false, Some, None, List, [], ◌∷◌, ◌++◌, refl, sym, ◌∙◌, ap, inl, inr, arith}
use Rattle.std.specs.Prelude.{◌&&◌, ◌||◌, ◌==◌, not, if◌then◌else◌, filter, fold, is_some, map}
use Rattle.std.specs.List.{list_all, sum_by}
use Rattle.std.proofs.lemmas.Bool.{and_parts, eqb-true, eq-eqb, not-true}
use Rattle.std.proofs.lemmas.List.Sums.{sum_by-cons, sum_by-append}
use Rattle.bosh_base.specs.declared.disk_want.DiskWant.{DiskWant}
use Rattle.bosh_base.specs.declared.row.DiskRow.{DiskRow}
use Rattle.bosh_rows.specs.After.{new_role}
use Rattle.bosh_rows.specs.Disks.{active, coming, is_active, is_new, is_old, is_right, is_spare_beside, least, lesser, meets}
use Rattle.laws_rows.proofs.ListLemmas.{IsIn, active_none, all_in, any_in, least_none, sum_stays}
use Rattle.laws_rows.proofs.WorkLemmas.{new_not_spare, spare_beside_none}
use Rattle.laws_rows.specs.Left.{disk_left, disk_work, disks_missing, left_by, missing_beside, one_if, to_place}
use Rattle.laws_rows.specs.SoundDisks.{are_distinct, is_recorded}

-- ---- one more disk

-- a disk as it is recorded when it is made or found
abbrev pub found_row : ℕ → ℕ → DiskWant → List DiskRow → DiskRow
found_row d tag wanted xs =
    record { disk = d; tag = tag; want = wanted; role = new_role xs; attached = false; mounted = false }

active_more : (xs : List DiskRow) (new : DiskRow) → active xs ≡ None →
    active (xs ++ new ∷ []) ≡ active (new ∷ [])
active_more [] new none = refl
active_more (x ∷ xs) new none = by_role (active_more xs new) (is_active x) none
  where
    by_role : (active xs ≡ None → active (xs ++ new ∷ []) ≡ active (new ∷ [])) → (b : Bool) →
        (if b then Some x else active xs) ≡ None →
        (if b then Some x else active (xs ++ new ∷ [])) ≡ active (new ∷ [])
    by_role others true none = absurd cc
    by_role others false none = others none

active_still : (xs : List DiskRow) (new a : DiskRow) → active xs ≡ Some a → active (xs ++ new ∷ []) ≡ Some a
active_still [] new a is = absurd cc
active_still (x ∷ xs) new a is = by_role (active_still xs new a) (is_active x) is
  where
    by_role : (active xs ≡ Some a → active (xs ++ new ∷ []) ≡ Some a) → (b : Bool) →
        (if b then Some x else active xs) ≡ Some a → (if b then Some x else active (xs ++ new ∷ [])) ≡ Some a
    by_role others true is = is
    by_role others false is = others is

least_more : (test : DiskRow → Bool) (xs : List DiskRow) (new : DiskRow) → list_all (λ d. not (test d)) xs ≡ true →
    test new ≡ true → least test (xs ++ new ∷ []) ≡ Some new
least_more test [] new none is = ap (λ b. fold lesser None (if b then new ∷ [] else [])) is
least_more test (x ∷ xs) new none is =
    let parts : (not (test x) ≡ true) × (list_all (λ d. not (test d)) xs ≡ true) =
    and_parts (not (test x)) _ none in
    ap (λ b. fold lesser None (if b then x ∷ filter test (xs ++ new ∷ []) else filter test (xs ++ new ∷ [])))
    (not-true (test x) parts.0)
    ∙ least_more test xs new parts.1 is

sum_le : (w v : DiskRow → ℕ) (xs : List DiskRow) → ((d : DiskRow) → IsIn d xs → v d ≤ w d) →
    sum_by v xs ≤ sum_by w xs
sum_le w v [] each = omega arith
sum_le w v (x ∷ xs) each =
    let first : v x ≤ w x = each x (inl refl) in
    let rest : sum_by v xs ≤ sum_by w xs = sum_le w v xs (λ d is. each d (inr is)) in
    let new : sum_by v (x ∷ xs) ≡ v x + sum_by v xs = sum_by-cons v x xs in
    let old : sum_by w (x ∷ xs) ≡ w x + sum_by w xs = sum_by-cons w x xs in omega arith

same_le : (a b : ℕ) → a ≡ b → a ≤ b
same_le a b same = omega arith

-- a disk as it is created
pub record IsCreated (wanted : DiskWant) (new : DiskRow) : Type 0 where
  pub right : is_right wanted new ≡ true
  pub unattached : new.attached ≡ false
  pub unmounted : new.mounted ≡ false

two : (new : DiskRow) → new.attached ≡ false → new.mounted ≡ false → to_place new ≡ 2
two new a m = λ i. one_if (not (a i)) + one_if (not (m i))

-- the sum with one more, of which each other stays
sum_more : (w v : DiskRow → ℕ) (xs : List DiskRow) (new : DiskRow) → ((d : DiskRow) → IsIn d xs → v d ≡ w d) →
    v new ≡ 2 → sum_by v (xs ++ new ∷ []) ≤ sum_by w xs + 2
sum_more w v xs new same last =
    let parts : sum_by v (xs ++ new ∷ []) ≡ sum_by v xs + sum_by v (new ∷ []) = sum_by-append v xs (new ∷ []) in
    let one : sum_by v (new ∷ []) ≡ v new + sum_by v [] = sum_by-cons v new [] in
    let none : sum_by v [] ≡ 0 = refl in
    let rest : sum_by v xs ≤ sum_by w xs = sum_le w v xs (λ d is. same_le (v d) (w d) (same d is)) in omega arith

-- the first disk of an instance becomes its active one
pub provided-falls : (wanted : DiskWant) (xs : List DiskRow) (new : DiskRow) → active xs ≡ None →
    is_active new ≡ true → IsCreated wanted new →
    disk_work (Some wanted) (xs ++ new ∷ []) + 1 ≤ disk_work (Some wanted) xs
provided-falls wanted xs new none role made =
    let sum : sum_by (disk_left (Some wanted) (xs ++ new ∷ [])) (xs ++ new ∷ [])
    ≤ sum_by (disk_left (Some wanted) xs) xs + 2 =
    sum_more (disk_left (Some wanted) xs) (disk_left (Some wanted) (xs ++ new ∷ [])) xs new each last in
    let missing : disks_missing (Some wanted) (xs ++ new ∷ []) ≡ 0 =
    (λ i. missing_beside wanted (now i) (alone i)) ∙ ap (λ (b : Bool). if b then 0 else 6) made.right in
    let before : disks_missing (Some wanted) xs ≡ 3 =
    (λ i. missing_beside wanted (none i) (coming (Some wanted) xs)) in omega arith
  where
    now : active (xs ++ new ∷ []) ≡ Some new
    now = active_more xs new none ∙ ap (λ b. if b then Some new else None) role

    alone : coming (Some wanted) (xs ++ new ∷ []) ≡ None
    alone =
        ap (λ (b : Bool).
        if b then None else least (λ d. is_new d && is_right wanted d) (xs ++ new ∷ []))
        (ap (meets (is_right wanted)) now ∙ made.right)

    last : disk_left (Some wanted) (xs ++ new ∷ []) new ≡ 2
    last =
        ap (λ b. left_by (b || (is_some (active (xs ++ new ∷ []))
        && not (is_spare_beside (coming (Some wanted) (xs ++ new ∷ [])) new))) new) role
        ∙ two new made.unattached made.unmounted

    each : (d : DiskRow) → IsIn d xs →
        disk_left (Some wanted) (xs ++ new ∷ []) d ≡ disk_left (Some wanted) xs d
    each d is =
        let other : is_active d ≡ false =
        not-true (is_active d) (all_in (λ it. not (is_active it)) d xs (active_none xs none) is) in
        (λ i. left_by (other i || (is_some (now i) && not (is_spare_beside (alone i) d))) d)
        ∙ (λ i. left_by (not (spare_beside_none d other i)) d)
        ∙ sym (λ i. left_by (other i || (is_some (none i) && not (is_spare_beside (coming (Some wanted) xs) d))) d)

apart : (xs : List DiskRow) (number : ℕ) → is_recorded xs number ≡ false → (d : DiskRow) → IsIn d xs →
    (number == d.disk) ≡ false
apart xs number none d is = by_truth (number == d.disk) refl
  where
    by_truth : (b : Bool) → (number == d.disk) ≡ b → b ≡ false
    by_truth true same =
        let number_is : number ≡ d.disk = eqb-true number d.disk same in
        absurd (let any : is_recorded xs number ≡ true =
        any_in (λ it. it.disk == number) d xs is (eq-eqb d.disk number (sym number_is)) in cc)
    by_truth false same = refl

-- another disk is to take the place of the active one
pub replaced-falls : (wanted : DiskWant) (xs : List DiskRow) (old new : DiskRow) → active xs ≡ Some old →
    is_right wanted old ≡ false → coming (Some wanted) xs ≡ None → is_new new ≡ true → is_active new ≡ false →
    is_recorded xs new.disk ≡ false → IsCreated wanted new →
    disk_work (Some wanted) (xs ++ new ∷ []) + 1 ≤ disk_work (Some wanted) xs
replaced-falls wanted xs old new was wrong none role other fresh made =
    let sum : sum_by (disk_left (Some wanted) (xs ++ new ∷ [])) (xs ++ new ∷ [])
    ≤ sum_by (disk_left (Some wanted) xs) xs + 2 =
    sum_more (disk_left (Some wanted) xs) (disk_left (Some wanted) (xs ++ new ∷ [])) xs new each last in
    let missing : disks_missing (Some wanted) (xs ++ new ∷ []) ≡ 3 =
    (λ i. missing_beside wanted (now i) (comes i)) ∙ ap (λ (b : Bool). if b then 0 else 3) wrong in
    let before : disks_missing (Some wanted) xs ≡ 6 =
    (λ i. missing_beside wanted (was i) (none i)) ∙ ap (λ (b : Bool). if b then 0 else 6) wrong in omega arith
  where
    now : active (xs ++ new ∷ []) ≡ Some old
    now = active_still xs new old was

    nobody : least (λ d. is_new d && is_right wanted d) xs ≡ None
    nobody =
        sym (ap (λ (b : Bool). if b then None else least (λ d. is_new d && is_right wanted d) xs)
        (ap (meets (is_right wanted)) was ∙ wrong))
        ∙ none

    comes : coming (Some wanted) (xs ++ new ∷ []) ≡ Some new
    comes =
        ap (λ (b : Bool). if b then None else least (λ d. is_new d && is_right wanted d) (xs ++ new ∷ []))
        (ap (meets (is_right wanted)) now ∙ wrong)
        ∙ least_more (λ d. is_new d && is_right wanted d) xs new
        (least_none (λ d. is_new d && is_right wanted d) xs nobody) (λ i. role i && made.right i)

    last : disk_left (Some wanted) (xs ++ new ∷ []) new ≡ 2
    last =
        (λ i. left_by (other i || (is_some (now i) && not (is_spare_beside (comes i) new))) new)
        ∙ (λ i. left_by (not (new_not_spare new role i)) new) ∙ two new made.unattached made.unmounted

    each : (d : DiskRow) → IsIn d xs →
        disk_left (Some wanted) (xs ++ new ∷ []) d ≡ disk_left (Some wanted) xs d
    each d is =
        (λ i. left_by (is_active d || (is_some (now i) && not (is_spare_beside (comes i) d))) d)
        ∙ (λ i. left_by (is_active d || not (is_old d || (is_new d && not (apart xs new.disk fresh d is i)))) d)
        ∙ sym (λ i. left_by (is_active d || (is_some (was i) && not (is_spare_beside (none i) d))) d)

-- ---- the contents are moved

pub map-in : (f : DiskRow → DiskRow) (e : DiskRow) (xs : List DiskRow) → IsIn e (map f xs) →
    (d : DiskRow) × (IsIn d xs × (f d ≡ e))
map-in f e [] is = absurd is
map-in f e (x ∷ xs) (inl same) = (x, (inl refl, same))
map-in f e (x ∷ xs) (inr is) =
    let it : (d : DiskRow) × (IsIn d xs × (f d ≡ e)) = map-in f e xs is in (it.0, (inr it.1.0, it.1.1))

pub in-map : (f : DiskRow → DiskRow) (d : DiskRow) (xs : List DiskRow) → IsIn d xs → IsIn (f d) (map f xs)
in-map f d [] is = absurd is
in-map f d (x ∷ xs) (inl same) = inl (ap f same)
in-map f d (x ∷ xs) (inr is) = inr (in-map f d xs is)

-- a sum grows by two at most where the disk of one number alone grows by so much
pub sum_grows : (w v : DiskRow → ℕ) (f : DiskRow → DiskRow) (number : ℕ) (xs : List DiskRow) → are_distinct xs ≡ true →
    ((d : DiskRow) → IsIn d xs → (d.disk == number) ≡ false → v (f d) ≤ w d) →
    ((d : DiskRow) → IsIn d xs → (d.disk == number) ≡ true → v (f d) ≤ w d + 2) →
    sum_by v (map f xs) ≤ sum_by w xs + 2
sum_grows w v f number [] distinct each here = omega arith
sum_grows w v f number (x ∷ xs) distinct each here =
    by_number (x.disk == number) refl
    (sum_grows w v f number xs parts.1 (λ d is. each d (inr is)) (λ d is. here d (inr is)))
  where
    parts : (not (is_recorded xs x.disk) ≡ true) × (are_distinct xs ≡ true)
    parts = and_parts (not (is_recorded xs x.disk)) (are_distinct xs) distinct

    new : sum_by v (f x ∷ map f xs) ≡ v (f x) + sum_by v (map f xs)
    new = sum_by-cons v (f x) (map f xs)

    old : sum_by w (x ∷ xs) ≡ w x + sum_by w xs
    old = sum_by-cons w x xs

    by_number : (b : Bool) → (x.disk == number) ≡ b → sum_by v (map f xs) ≤ sum_by w xs + 2 →
        sum_by v (f x ∷ map f xs) ≤ sum_by w (x ∷ xs) + 2
    by_number true same others =
        let first : v (f x) ≤ w x + 2 = here x (inl refl) same in
        let is_it : x.disk ≡ number = eqb-true x.disk number same in
        let rest : sum_by v (map f xs) ≤ sum_by w xs =
        sum_stays w v f xs (λ d is. each d (inr is)
        (let none : (x.disk == d.disk) ≡ false = apart xs x.disk (not-true (is_recorded xs x.disk) parts.0) d is in
        swapped d none is_it)) in
        omega (arith, new, old, first, rest)
      where
        swapped : (d : DiskRow) → (x.disk == d.disk) ≡ false → x.disk ≡ number → (d.disk == number) ≡ false
        swapped d other is_it = by_truth (d.disk == number) refl
          where
            by_truth : (b : Bool) → (d.disk == number) ≡ b → b ≡ false
            by_truth true same =
                let too : d.disk ≡ number = eqb-true d.disk number same in
                absurd (let is_same : (x.disk == d.disk) ≡ true = eq-eqb x.disk d.disk (is_it ∙ sym too) in cc)
            by_truth false same = refl
    by_number false same others =
        let first : v (f x) ≤ w x = each x (inl refl) same in omega (arith, new, old, first, others)
