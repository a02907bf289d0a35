-- What is left to do for the disks of a row falls where the contents are moved.
use Rattle.std.proofs.Common.{◌≡◌, ℕ, ◌+◌, ◌≤◌, Bool, true, false, Option, Some, None, List, [], ◌∷◌, refl, sym, ◌∙◌, ap, subst, arith}
use Rattle.std.specs.Prelude.{◌&&◌, ◌||◌, ◌==◌, not, if◌then◌else◌, is_some, map}
use Rattle.std.specs.List.{sum_by}
use Rattle.std.proofs.lemmas.Bool.{and_parts, eqb-true, eq-eqb, not-true}
use Rattle.bosh_base.specs.declared.disk_want.DiskWant.{DiskWant}
use Rattle.bosh_base.specs.declared.row.DiskRow.{DiskRow}
use Rattle.bosh_base.specs.declared.row.Role.{Role}
use Rattle.bosh_base.specs.declared.row.Role.TheVariants.{Active, New, Old}
use Rattle.bosh_rows.specs.After.{migrated_disks}
use Rattle.bosh_rows.specs.Disks.{active, coming, is_active, is_new, is_old, is_right, is_spare_beside, least, meets}
use Rattle.laws_rows.proofs.ListLemmas.{IsFound, IsIn, active_found, active_none, all_in, least_found, same_disk}
use Rattle.laws_rows.proofs.NewDiskLemmas.{in-map, map-in, sum_grows}
use Rattle.laws_rows.proofs.StopLemmas.{only_active}
use Rattle.laws_rows.proofs.WorkLemmas.{spare_beside_none}
use Rattle.laws_rows.specs.Left.{disk_left, disk_work, disks_missing, is_of_use, left_by, missing_beside, one_if, to_free, to_place}
use Rattle.laws_rows.specs.SoundDisks.{are_distinct, has_one_active, is_recorded}

abbrev as_old : DiskRow → DiskRow
as_old d = record d { role = Old }

abbrev as_active : DiskRow → DiskRow
as_active d = record d { role = Active }

-- what a migration makes of a disk
abbrev pub moved : ℕ → ℕ → DiskRow → DiskRow
moved from to d =
    if (if d.disk == from then as_old d else d).disk == to
    then as_active (if d.disk == from then as_old d else d)
    else (if d.disk == from then as_old d else d)

map_twice : (f g : DiskRow → DiskRow) (xs : List DiskRow) → map g (map f xs) ≡ map (λ d. g (f d)) xs
map_twice f g [] = refl
map_twice f g (x ∷ xs) = ap (λ rest. g (f x) ∷ rest) (map_twice f g xs)

pub migrated-map : (from to : ℕ) (xs : List DiskRow) → migrated_disks from to xs ≡ map (moved from to) xs
migrated-map from to xs =
    map_twice (λ d. if d.disk == from then as_old d else d) (λ d. if d.disk == to then as_active d else d) xs

-- ---- each disk

number_of_old : (from : ℕ) (d : DiskRow) → (if d.disk == from then as_old d else d).disk ≡ d.disk
number_of_old from d = by_truth (d.disk == from)
  where
    by_truth : (b : Bool) → (if b then as_old d else d).disk ≡ d.disk
    by_truth true = refl
    by_truth false = refl

pub moved-from : (from to : ℕ) (d : DiskRow) → (d.disk == from) ≡ true → (d.disk == to) ≡ false →
    moved from to d ≡ as_old d
moved-from from to d here other =
    (λ i. if number_of_old from d i == to
    then as_active (if d.disk == from then as_old d else d)
    else (if d.disk == from then as_old d else d))
    ∙ ap (λ b. if b then as_active (if d.disk == from then as_old d else d) else
    (if d.disk == from then as_old d else d))
    other
    ∙ ap (λ b. if b then as_old d else d) here

pub moved-to : (from to : ℕ) (d : DiskRow) → (d.disk == from) ≡ false → (d.disk == to) ≡ true →
    moved from to d ≡ as_active d
moved-to from to d other here =
    ap (λ b. if (if b then as_old d else d).disk == to then as_active (if b then as_old d else d)
    else (if b then as_old d else d)) other
    ∙ ap (λ b. if b then as_active d else d) here

pub moved-other : (from to : ℕ) (d : DiskRow) → (d.disk == from) ≡ false → (d.disk == to) ≡ false →
    moved from to d ≡ d
moved-other from to d other too =
    ap (λ b. if (if b then as_old d else d).disk == to then as_active (if b then as_old d else d)
    else (if b then as_old d else d)) other
    ∙ ap (λ b. if b then as_active d else d) too

pub moved-number : (from to : ℕ) (d : DiskRow) → (moved from to d).disk ≡ d.disk
moved-number from to d = by_truth (d.disk == from) (d.disk == to)
  where
    by_truth : (b c : Bool) → (if (if b then as_old d else d).disk == to then as_active (if b then as_old d else d)
        else (if b then as_old d else d)).disk ≡ d.disk
    by_truth true c = by_other (d.disk == to)
      where
        by_other : (c : Bool) → (if c then as_active (as_old d) else as_old d).disk ≡ d.disk
        by_other true = refl
        by_other false = refl
    by_truth false c = by_other (d.disk == to)
      where
        by_other : (c : Bool) → (if c then as_active d else d).disk ≡ d.disk
        by_other true = refl
        by_other false = refl

-- ---- a migration from the only active disk, at its place, to the one that comes

pub record IsMigration (wanted : DiskWant) (xs : List DiskRow) (old new : DiskRow) : Type 0 where
  pub distinct : are_distinct xs ≡ true
  pub one : has_one_active xs ≡ true
  pub was : active xs ≡ Some old
  pub wrong : is_right wanted old ≡ false
  pub comes : coming (Some wanted) xs ≡ Some new
  pub attached : new.attached ≡ true
  pub mounted : new.mounted ≡ true

pub record AreTwo (wanted : DiskWant) (xs : List DiskRow) (old new : DiskRow) : Type 0 where
  pub old_in : IsIn old xs
  pub new_in : IsIn new xs
  pub active : is_active old ≡ true
  pub is_new : is_new new ≡ true
  pub right : is_right wanted new ≡ true
  pub apart : (old.disk == new.disk) ≡ false

new_not_active : (d : DiskRow) (role : Role) → is_new (record d { role = role }) ≡ true →
    is_active (record d { role = role }) ≡ false
new_not_active d Active new = absurd cc
new_not_active d New new = refl
new_not_active d Old new = refl

pub two_of : (wanted : DiskWant) (xs : List DiskRow) (old new : DiskRow) → are_distinct xs ≡ true →
    active xs ≡ Some old → is_right wanted old ≡ false → coming (Some wanted) xs ≡ Some new →
    AreTwo wanted xs old new
two_of wanted xs old new distinct was wrong comes =
    let first : IsFound is_active old xs = active_found old xs was in
    let nearest : least (λ d. is_new d && is_right wanted d) xs ≡ Some new =
    sym (ap (λ (b : Bool). if b then None else least (λ d. is_new d && is_right wanted d) xs)
    (ap (meets (is_right wanted)) was ∙ wrong)) ∙ comes in
    let next : IsFound (λ d. is_new d && is_right wanted d) new xs =
    least_found (λ d. is_new d && is_right wanted d) new xs nearest in
    let both : (is_new new ≡ true) × (is_right wanted new ≡ true) =
    and_parts (is_new new) (is_right wanted new) next.meets in record {
      old_in = first.is_in;
      new_in = next.is_in;
      active = first.meets;
      is_new = both.0;
      right = both.1;
      apart = by_truth first next both.0 (old.disk == new.disk) refl;
    }
  where
    by_truth : IsFound is_active old xs → IsFound (λ d. is_new d && is_right wanted d) new xs → is_new new ≡ true →
        (b : Bool) → (old.disk == new.disk) ≡ b → b ≡ false
    by_truth first next role true same =
        let one : old ≡ new = same_disk xs distinct new old next.is_in first.is_in same in
        absurd (let other : is_active new ≡ false = new_not_active new new.role role in
        let is : is_active new ≡ true = ap is_active (sym one) ∙ first.meets in cc)
    by_truth first next role false same = refl

-- ---- what is left

left_most : (serves a m : Bool) (d : DiskRow) → left_by serves (record d { attached = a; mounted = m }) ≤ 2
left_most true true true d = omega arith
left_most true true false d = omega arith
left_most true false true d = omega arith
left_most true false false d = omega arith
left_most false true true d = omega arith
left_most false true false d = omega arith
left_most false false true d = omega arith
left_most false false false d = omega arith

pub at_most_two : (serves : Bool) (d : DiskRow) → left_by serves d ≤ 2
at_most_two serves d = left_most serves d.attached d.mounted d

abbrev after : DiskRow → DiskRow → List DiskRow → List DiskRow
after old new xs = map (moved old.disk new.disk) xs

false_from : (a b : ℕ) → a ≡ b → (a == b) ≡ false → ⊥
false_from a b same other = let is : (a == b) ≡ true = eq-eqb a b same in cc

-- the one that the contents were moved to is active, and right
record IsMoved (wanted : DiskWant) (xs : List DiskRow) (old new : DiskRow) : Type 0 where
  a : DiskRow
  now : active (after old new xs) ≡ Some a
  right : is_right wanted a ≡ true

is_moved : (wanted : DiskWant) (xs : List DiskRow) (old new : DiskRow) → IsMigration wanted xs old new →
    AreTwo wanted xs old new → IsMoved wanted xs old new
is_moved wanted xs old new it two = by_active (active (after old new xs)) refl
  where
    to_other : (new.disk == old.disk) ≡ false
    to_other = by_truth (new.disk == old.disk) refl
      where
        by_truth : (b : Bool) → (new.disk == old.disk) ≡ b → b ≡ false
        by_truth true same = absurd (false_from old.disk new.disk (sym (eqb-true new.disk old.disk same)) two.apart)
        by_truth false same = refl

    by_disk : (a d : DiskRow) → active (after old new xs) ≡ Some a → is_active a ≡ true → IsIn d xs →
        moved old.disk new.disk d ≡ a → (from to : Bool) → (d.disk == old.disk) ≡ from → (d.disk == new.disk) ≡ to →
        IsMoved wanted xs old new
    by_disk a d now role is same true true here too =
        absurd (false_from old.disk new.disk (sym (eqb-true d.disk old.disk here) ∙ eqb-true d.disk new.disk too)
        two.apart)
    by_disk a d now role is same true false here too =
        absurd (let old_is : is_active a ≡ false =
        ap is_active (sym same ∙ moved-from old.disk new.disk d here too) in cc)
    by_disk a d now role is same false true here too =
        let one : d ≡ new = same_disk xs it.distinct new d two.new_in is too in record {
          a = a;
          now = now;
          right =
              ap (is_right wanted) (sym same ∙ moved-to old.disk new.disk d here too)
              ∙ ap (λ e. is_right wanted (as_active e)) one ∙ two.right;
        }
    by_disk a d now role is same false false here too =
        let it_is : d ≡ a = sym (moved-other old.disk new.disk d here too) ∙ same in
        let one : d ≡ old = only_active xs it.one old d it.was is (ap is_active it_is ∙ role) in
        absurd (false_from d.disk old.disk (ap (λ e. e.disk) one) here)

    by_active : (a : Option DiskRow) → active (after old new xs) ≡ a → IsMoved wanted xs old new
    by_active None none =
        absurd (let other : is_active (moved old.disk new.disk new) ≡ false =
        not-true (is_active (moved old.disk new.disk new))
        (all_in (λ d. not (is_active d)) (moved old.disk new.disk new) (after old new xs)
        (active_none (after old new xs) none) (in-map (moved old.disk new.disk) new xs two.new_in)) in
        let is : is_active (moved old.disk new.disk new) ≡ true =
        ap is_active (moved-to old.disk new.disk new to_other (eq-eqb new.disk new.disk refl)) in cc)
    by_active (Some a) now =
        let found : IsFound is_active a (after old new xs) = active_found a (after old new xs) now in
        let from : (d : DiskRow) × (IsIn d xs × (moved old.disk new.disk d ≡ a)) =
        map-in (moved old.disk new.disk) a xs found.is_in in
        by_disk a from.0 now found.meets from.1.0 from.1.1 (from.0.disk == old.disk) (from.0.disk == new.disk) refl refl

left_moved : (wanted : DiskWant) (xs : List DiskRow) (old new : DiskRow) → IsMigration wanted xs old new →
    AreTwo wanted xs old new → IsMoved wanted xs old new → (d : DiskRow) → IsIn d xs →
    (d.disk == old.disk) ≡ false →
    disk_left (Some wanted) (after old new xs) (moved old.disk new.disk d) ≤ disk_left (Some wanted) xs d
left_moved wanted xs old new it two moves d is other = by_number (d.disk == new.disk) refl
  where
    alone : coming (Some wanted) (after old new xs) ≡ None
    alone =
        ap (λ (b : Bool). if b then None else least (λ d. is_new d && is_right wanted d) (after old new xs))
        (ap (meets (is_right wanted)) moves.now ∙ moves.right)

    placed : to_place new ≡ 0
    placed = λ i. one_if (not (it.attached i)) + one_if (not (it.mounted i))

    by_role : (b : Bool) → is_active d ≡ b → b ≡ false
    by_role true role =
        absurd (false_from d.disk old.disk (ap (λ e. e.disk) (only_active xs it.one old d it.was is role)) other)
    by_role false role = refl

    idle : is_active d ≡ false
    idle = by_role (is_active d) refl

    by_number : (b : Bool) → (d.disk == new.disk) ≡ b →
        disk_left (Some wanted) (after old new xs) (moved old.disk new.disk d) ≤ disk_left (Some wanted) xs d
    by_number true same =
        let one : d ≡ new = same_disk xs it.distinct new d two.new_in is same in
        let left : disk_left (Some wanted) (after old new xs) (moved old.disk new.disk d) ≡ 0 =
        ap (disk_left (Some wanted) (after old new xs)) (moved-to old.disk new.disk d other same)
        ∙ ap to_place one ∙ placed in omega arith
    by_number false apart_from =
        let number : (new.disk == d.disk) ≡ false = swapped apart_from in
        let after_is : disk_left (Some wanted) (after old new xs) (moved old.disk new.disk d) ≡ to_free d =
        ap (disk_left (Some wanted) (after old new xs)) (moved-other old.disk new.disk d other apart_from)
        ∙ (λ i. left_by (idle i || (is_some (moves.now i) && not (is_spare_beside (alone i) d))) d)
        ∙ (λ i. left_by (not (spare_beside_none d idle i)) d) in
        let before_is : disk_left (Some wanted) xs d ≡ to_free d =
        (λ i. left_by (idle i || (is_some (it.was i) && not (is_spare_beside (it.comes i) d))) d)
        ∙ (λ i. left_by (not (is_old d || (is_new d && not (number i)))) d)
        ∙ (λ i. left_by (not (spare_beside_none d idle i)) d) in omega arith
      where
        swapped : (d.disk == new.disk) ≡ false → (new.disk == d.disk) ≡ false
        swapped other = by_truth (new.disk == d.disk) refl
          where
            by_truth : (b : Bool) → (new.disk == d.disk) ≡ b → b ≡ false
            by_truth true same =
                absurd (false_from d.disk new.disk (sym (eqb-true new.disk d.disk same)) other)
            by_truth false same = refl

pub migrated-falls : (wanted : DiskWant) (xs : List DiskRow) (old new : DiskRow) → IsMigration wanted xs old new →
    disk_work (Some wanted) (migrated_disks old.disk new.disk xs) + 1 ≤ disk_work (Some wanted) xs
migrated-falls wanted xs old new it =
    let two : AreTwo wanted xs old new = two_of wanted xs old new it.distinct it.was it.wrong it.comes in
    let moves : IsMoved wanted xs old new = is_moved wanted xs old new it two in
    let sum : sum_by (disk_left (Some wanted) (after old new xs)) (after old new xs)
    ≤ sum_by (disk_left (Some wanted) xs) xs + 2 =
    sum_grows (disk_left (Some wanted) xs) (disk_left (Some wanted) (after old new xs)) (moved old.disk new.disk)
    old.disk xs it.distinct (left_moved wanted xs old new it two moves)
    (λ d is same. most (disk_left (Some wanted) (after old new xs) (moved old.disk new.disk d))
    (disk_left (Some wanted) xs d)
    (at_most_two (is_of_use (Some wanted) (after old new xs) (moved old.disk new.disk d))
    (moved old.disk new.disk d))) in
    let missing : disks_missing (Some wanted) (after old new xs) ≡ 0 =
    (λ i. missing_beside wanted (moves.now i) (coming (Some wanted) (after old new xs)))
    ∙ none moves.a (coming (Some wanted) (after old new xs)) moves.right in
    let before : disks_missing (Some wanted) xs ≡ 3 =
    (λ i. missing_beside wanted (it.was i) (it.comes i)) ∙ ap (λ (b : Bool). if b then 0 else 3) it.wrong in
    subst (λ (ys : List DiskRow). disk_work (Some wanted) ys + 1 ≤ disk_work (Some wanted) xs)
    (sym (migrated-map old.disk new.disk xs)) (omega arith)
  where
    most : (v w : ℕ) → v ≤ 2 → v ≤ w + 2
    most v w low = omega arith

    none : (a : DiskRow) (new : Option DiskRow) → is_right wanted a ≡ true → missing_beside wanted (Some a) new ≡ 0
    none a None right = ap (λ (b : Bool). if b then 0 else 6) right
    none a (Some new) right = ap (λ (b : Bool). if b then 0 else 3) right

-- ---- none stands twice, and one is active

pub distinct-map : (f : DiskRow → DiskRow) → ((d : DiskRow) → (f d).disk ≡ d.disk) → (xs : List DiskRow) →
    are_distinct (map f xs) ≡ are_distinct xs
distinct-map f number [] = refl
distinct-map f number (x ∷ xs) =
    λ i. not (recorded-map f number xs (number x i) i) && distinct-map f number xs i
  where
    recorded-map : (f : DiskRow → DiskRow) → ((d : DiskRow) → (f d).disk ≡ d.disk) → (xs : List DiskRow) (n : ℕ) →
        is_recorded (map f xs) n ≡ is_recorded xs n
    recorded-map f number [] n = refl
    recorded-map f number (y ∷ ys) n = λ i. number y i == n || recorded-map f number ys n i
