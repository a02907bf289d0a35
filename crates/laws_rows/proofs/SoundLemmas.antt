-- No disk stands twice, and at most one is active, after each call.
use Rattle.std.proofs.Common.{◌≡◌, ℕ, ◌+◌, ◌≤◌, Bool, true, false, None, List, [], ◌∷◌, ◌++◌, refl, sym, ◌∙◌, ap, subst, inl, inr, arith}
use Rattle.std.specs.Prelude.{◌&&◌, ◌==◌, not, nat_le, if◌then◌else◌, map, count_by}
use Rattle.std.specs.List.{list_all}
use Rattle.std.proofs.lemmas.Bool.{and_parts, and_from, eqb-true, eq-eqb, not-true, leb-true, le-leb, or_parts, or_from}
use Rattle.std.proofs.lemmas.List.Sums.{sum_by_push}
use Rattle.bosh_base.specs.declared.disk_want.DiskWant.{DiskWant}
use Rattle.bosh_base.specs.declared.row.DiskRow.{DiskRow}
use Rattle.bosh_rows.specs.After.{migrated_disks}
use Rattle.bosh_rows.specs.Disks.{active, is_active}
use Rattle.laws_rows.proofs.ListLemmas.{IsIn, active_none}
use Rattle.laws_rows.proofs.MigrationLemmas.{AreTwo, IsMigration, distinct-map, migrated-map, moved, moved-from, moved-number, moved-other, two_of}
use Rattle.laws_rows.proofs.StopLemmas.{counted, only_active}
use Rattle.laws_rows.proofs.WorkLemmas.{Keeps, active-by}
use Rattle.laws_rows.specs.SoundDisks.{are_distinct, are_sound, has_one_active, is_recorded}

pub distinct_of : (xs : List DiskRow) → are_sound xs ≡ true → are_distinct xs ≡ true
distinct_of xs sound = (and_parts (are_distinct xs) (has_one_active xs) sound).0

pub one_of : (xs : List DiskRow) → are_sound xs ≡ true → has_one_active xs ≡ true
one_of xs sound = (and_parts (are_distinct xs) (has_one_active xs) sound).1

-- ---- where each disk stays what it is

count-map : (f : DiskRow → DiskRow) → ((d : DiskRow) → is_active (f d) ≡ is_active d) → (xs : List DiskRow) →
    count_by is_active (map f xs) ≡ count_by is_active xs
count-map f same [] = refl
count-map f same (x ∷ xs) =
    counted (f x) (map f xs)
    ∙ (λ i. (if◌then◌else◌ {A = ℕ} (same x i) 1 0) + count-map f same xs i)
    ∙ sym (counted x xs)

pub sound-map : (f : DiskRow → DiskRow) → Keeps f → (xs : List DiskRow) → are_sound (map f xs) ≡ are_sound xs
sound-map f keeps xs =
    λ i. distinct-map f keeps.number xs i
    && nat_le (count-map f (λ d. active-by d (f d) (keeps.role d)) xs i) 1

-- ---- where one more comes

recorded-more : (xs : List DiskRow) (new : DiskRow) (number : ℕ) → is_recorded xs number ≡ false →
    (new.disk == number) ≡ false → is_recorded (xs ++ new ∷ []) number ≡ false
recorded-more [] new number none other = or_from (new.disk == number) false other refl
recorded-more (x ∷ xs) new number none other =
    let parts : ((x.disk == number) ≡ false) × (is_recorded xs number ≡ false) =
    or_parts (x.disk == number) (is_recorded xs number) none in
    or_from (x.disk == number) (is_recorded (xs ++ new ∷ []) number) parts.0
    (recorded-more xs new number parts.1 other)

distinct-more : (xs : List DiskRow) (new : DiskRow) → are_distinct xs ≡ true → is_recorded xs new.disk ≡ false →
    are_distinct (xs ++ new ∷ []) ≡ true
distinct-more [] new distinct fresh = refl
distinct-more (x ∷ xs) new distinct fresh =
    let parts : (not (is_recorded xs x.disk) ≡ true) × (are_distinct xs ≡ true) =
    and_parts (not (is_recorded xs x.disk)) (are_distinct xs) distinct in
    let apart : ((x.disk == new.disk) ≡ false) × (is_recorded xs new.disk ≡ false) =
    or_parts (x.disk == new.disk) (is_recorded xs new.disk) fresh in
    and_from (not (is_recorded (xs ++ new ∷ []) x.disk)) (are_distinct (xs ++ new ∷ []))
    (ap not (recorded-more xs new x.disk (not-true (is_recorded xs x.disk) parts.0)
    (swapped apart.0)))
    (distinct-more xs new parts.1 apart.1)
  where
    swapped : (x.disk == new.disk) ≡ false → (new.disk == x.disk) ≡ false
    swapped other = by_truth (new.disk == x.disk) refl
      where
        by_truth : (b : Bool) → (new.disk == x.disk) ≡ b → b ≡ false
        by_truth true same =
            absurd (let is : (x.disk == new.disk) ≡ true = eq-eqb x.disk new.disk
            (sym (eqb-true new.disk x.disk same)) in
            cc)
        by_truth false same = refl

count_none : (xs : List DiskRow) → list_all (λ d. not (is_active d)) xs ≡ true → count_by is_active xs ≡ 0
count_none [] all = refl
count_none (x ∷ xs) all =
    let parts : (not (is_active x) ≡ true) × (list_all (λ d. not (is_active d)) xs ≡ true) =
    and_parts (not (is_active x)) _ all in
    counted x xs
    ∙ (λ i. (if◌then◌else◌ {A = ℕ} (not-true (is_active x) parts.0 i) 1 0) + count_none xs parts.1 i)

count_more : (xs : List DiskRow) (new : DiskRow) →
    count_by is_active (xs ++ new ∷ []) ≡ count_by is_active xs + (if◌then◌else◌ {A = ℕ} (is_active new) 1 0)
count_more xs new =
    sum_by_push (λ d. if◌then◌else◌ {A = ℕ} (is_active d) 1 0) xs new

pub sound-more : (xs : List DiskRow) (new : DiskRow) → are_sound xs ≡ true → is_recorded xs new.disk ≡ false →
    is_active new ≡ false → are_sound (xs ++ new ∷ []) ≡ true
sound-more xs new sound fresh other =
    and_from (are_distinct (xs ++ new ∷ [])) (has_one_active (xs ++ new ∷ []))
    (distinct-more xs new (distinct_of xs sound) fresh)
    (let old : count_by is_active xs ≤ 1 = leb-true (count_by is_active xs) 1 (one_of xs sound) in
    let none : ◌≡◌ {A = ℕ} (if is_active new then 1 else 0) 0 =
    ap (λ (b : Bool). if◌then◌else◌ {A = ℕ} b 1 0) other in
    let all : count_by is_active (xs ++ new ∷ []) ≡ count_by is_active xs +
    (if◌then◌else◌ {A = ℕ} (is_active new) 1 0) =
    count_more xs new in
    le-leb (count_by is_active (xs ++ new ∷ [])) 1 (omega arith))

pub sound-first : (xs : List DiskRow) (new : DiskRow) → are_sound xs ≡ true → is_recorded xs new.disk ≡ false →
    active xs ≡ None → is_active new ≡ true → are_sound (xs ++ new ∷ []) ≡ true
sound-first xs new sound fresh none role =
    and_from (are_distinct (xs ++ new ∷ [])) (has_one_active (xs ++ new ∷ []))
    (distinct-more xs new (distinct_of xs sound) fresh)
    (let old : count_by is_active xs ≡ 0 = count_none xs (active_none xs none) in
    let one : ◌≡◌ {A = ℕ} (if is_active new then 1 else 0) 1 =
    ap (λ (b : Bool). if◌then◌else◌ {A = ℕ} b 1 0) role in
    let all : count_by is_active (xs ++ new ∷ []) ≡ count_by is_active xs +
    (if◌then◌else◌ {A = ℕ} (is_active new) 1 0) =
    count_more xs new in
    le-leb (count_by is_active (xs ++ new ∷ [])) 1 (omega arith))

-- ---- where the contents are moved

-- where a disk of one number alone is active, at most one is
count_number : (number : ℕ) (f : DiskRow → DiskRow) (xs : List DiskRow) → are_distinct xs ≡ true →
    ((d : DiskRow) → IsIn d xs → is_active (f d) ≡ true → (d.disk == number) ≡ true) →
    (count_by is_active (map f xs) ≤ 1) × (is_recorded xs number ≡ false → count_by is_active (map f xs) ≡ 0)
count_number number f [] distinct each = (omega arith, λ none. refl)
count_number number f (x ∷ xs) distinct each =
    by_role (count_number number f xs parts.1 (λ d is. each d (inr is))) (is_active (f x)) refl
  where
    parts : (not (is_recorded xs x.disk) ≡ true) × (are_distinct xs ≡ true)
    parts = and_parts (not (is_recorded xs x.disk)) (are_distinct xs) distinct

    more : count_by is_active (f x ∷ map f xs)
        ≡ (if◌then◌else◌ {A = ℕ} (is_active (f x)) 1 0) + count_by is_active (map f xs)
    more = counted (f x) (map f xs)

    by_role : (count_by is_active (map f xs) ≤ 1)
        × (is_recorded xs number ≡ false → count_by is_active (map f xs) ≡ 0) → (b : Bool) → is_active (f x) ≡ b →
        (count_by is_active (f x ∷ map f xs) ≤ 1)
        × (is_recorded (x ∷ xs) number ≡ false → count_by is_active (f x ∷ map f xs) ≡ 0)
    by_role others true role =
        let first : ◌≡◌ {A = ℕ} (if is_active (f x) then 1 else 0) 1 =
        ap (λ (b : Bool). if◌then◌else◌ {A = ℕ} b 1 0) role in
        let same : x.disk ≡ number = eqb-true x.disk number (each x (inl refl) role) in
        let none : is_recorded xs number ≡ false =
        ap (is_recorded xs) (sym same) ∙ not-true (is_recorded xs x.disk) parts.0 in
        let rest : count_by is_active (map f xs) ≡ 0 = others.1 none in (
          omega (arith, more, first, rest),
          λ no_one. absurd (let here : (x.disk == number) ≡ false =
              (or_parts (x.disk == number) (is_recorded xs number) no_one).0 in
              let is : (x.disk == number) ≡ true = each x (inl refl) role in cc),
        )
    by_role others false role =
        let first : ◌≡◌ {A = ℕ} (if is_active (f x) then 1 else 0) 0 =
        ap (λ (b : Bool). if◌then◌else◌ {A = ℕ} b 1 0) role in
        let low : count_by is_active (map f xs) ≤ 1 = others.0 in (
          omega (arith, more, first, low),
          λ no_one.
              let rest : count_by is_active (map f xs) ≡ 0 =
              others.1 (or_parts (x.disk == number) (is_recorded xs number) no_one).1 in
              omega (arith, more, first, rest),
        )

false_from : (a b : ℕ) → a ≡ b → (a == b) ≡ false → ⊥
false_from a b same other = let is : (a == b) ≡ true = eq-eqb a b same in cc

pub sound-migrated : (wanted : DiskWant) (xs : List DiskRow) (old new : DiskRow) → IsMigration wanted xs old new →
    are_sound (migrated_disks old.disk new.disk xs) ≡ true
sound-migrated wanted xs old new it =
    subst (λ (ys : List DiskRow). are_sound ys ≡ true) (sym (migrated-map old.disk new.disk xs))
    (and_from (are_distinct (map (moved old.disk new.disk) xs)) (has_one_active (map (moved old.disk new.disk) xs))
    (distinct-map (moved old.disk new.disk) (moved-number old.disk new.disk) xs ∙ it.distinct)
    (le-leb (count_by is_active (map (moved old.disk new.disk) xs)) 1
    (count_number new.disk (moved old.disk new.disk) xs it.distinct each).0))
  where
    two : AreTwo wanted xs old new
    two = two_of wanted xs old new it.distinct it.was it.wrong it.comes

    by_disk : (d : DiskRow) → IsIn d xs → is_active (moved old.disk new.disk d) ≡ true → (from to : Bool) →
        (d.disk == old.disk) ≡ from → (d.disk == new.disk) ≡ to → to ≡ true
    by_disk d is role from true here too = refl
    by_disk d is role true false here too =
        absurd (let other : is_active (moved old.disk new.disk d) ≡ false =
        ap is_active (moved-from old.disk new.disk d here too) in cc)
    by_disk d is role false false here too =
        absurd (let same : d ≡ old =
        only_active xs it.one old d it.was is
        (sym (ap is_active (moved-other old.disk new.disk d here too)) ∙ role) in
        false_from d.disk old.disk (ap (λ e. e.disk) same) here)

    each : (d : DiskRow) → IsIn d xs → is_active (moved old.disk new.disk d) ≡ true → (d.disk == new.disk) ≡ true
    each d is role = by_disk d is role (d.disk == old.disk) (d.disk == new.disk) refl refl
