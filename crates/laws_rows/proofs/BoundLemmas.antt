-- How much is left to do at most.
use Rattle.std.proofs.Common.{◌≡◌, ℕ, ◌+◌, ◌*◌, ◌≤◌, Bool, true, false, Option, Some, None, List, [], ◌∷◌, refl, sym, ◌∙◌, ap, inl, inr, arith}
use Rattle.std.specs.Prelude.{◌&&◌, ◌||◌, ◌==◌, not, if◌then◌else◌, is_some, map, count_by}
use Rattle.std.specs.List.{sum_by}
use Rattle.std.proofs.lemmas.Bool.{and_parts, eqb-true, eq-eqb, leb-true, not-true, or_parts}
use Rattle.std.proofs.lemmas.List.Sums.{sum_by-cons}
use Rattle.bosh_base.specs.declared.disk_want.DiskWant.{DiskWant}
use Rattle.bosh_base.specs.declared.goal.GoalRow.{GoalRow}
use Rattle.bosh_base.specs.declared.row.DiskRow.{DiskRow}
use Rattle.bosh_base.specs.declared.row.Role.{Role}
use Rattle.bosh_base.specs.declared.row.Role.TheVariants.{Active, New, Old}
use Rattle.bosh_base.specs.declared.row.Row.{Row}
use Rattle.bosh_base.specs.declared.row.Vm as vm
use Rattle.bosh_rows.specs.After.{let_go}
use Rattle.bosh_rows.specs.Disks.{active, coming, is_active, is_detached, is_right, is_running, is_spare_beside, meets}
use Rattle.bosh_rows.specs.NextStep.{has_to_go, has_to_stop, spec_differs}
use Rattle.laws_rows.proofs.FallLemmas.{IsSteady}
use Rattle.laws_rows.proofs.ListLemmas.{IsIn}
use Rattle.laws_rows.proofs.SoundLemmas.{distinct_of, one_of, sound-map}
use Rattle.laws_rows.proofs.WorkLemmas.{keeps-let_go}
use Rattle.laws_rows.specs.Left.{disk_left, disk_work, disks_missing, left_at_rest, left_by, left_from_nothing, left_known, left_of_machine, left_to_remove, left_to_tend, missing_beside, one_if, to_free}
use Rattle.laws_rows.specs.SoundDisks.{are_distinct, are_sound, is_recorded}

abbrev pub is_held : DiskRow → Bool
is_held d = d.attached

pub one-most : (b : Bool) → one_if b ≤ 1
one-most true = omega arith
one-most false = omega arith

pub count-cons : (test : DiskRow → Bool) (x : DiskRow) (xs : List DiskRow) →
    count_by test (x ∷ xs) ≡ one_if (test x) + count_by test xs
count-cons test x xs = sum_by-cons (λ it. if◌then◌else◌ {A = ℕ} (test it) 1 0) x xs ∙ ap (λ n. n + count_by test xs)
    (by_test (test x))
  where
    by_test : (b : Bool) → if◌then◌else◌ {A = ℕ} b 1 0 ≡ one_if b
    by_test true = refl
    by_test false = refl

-- at most one has a number
pub count-one : (test : DiskRow → Bool) (number : ℕ) (xs : List DiskRow) → are_distinct xs ≡ true →
    ((d : DiskRow) → test d ≡ true → (d.disk == number) ≡ true) →
    (count_by test xs ≤ 1) × (is_recorded xs number ≡ false → count_by test xs ≡ 0)
count-one test number [] distinct each = (omega arith, λ none. refl)
count-one test number (x ∷ xs) distinct each = by_test (count-one test number xs parts.1 each) (test x) refl
  where
    parts : (not (is_recorded xs x.disk) ≡ true) × (are_distinct xs ≡ true)
    parts = and_parts (not (is_recorded xs x.disk)) (are_distinct xs) distinct

    more : count_by test (x ∷ xs) ≡ one_if (test x) + count_by test xs
    more = count-cons test x xs

    by_test : (count_by test xs ≤ 1) × (is_recorded xs number ≡ false → count_by test xs ≡ 0) → (b : Bool) →
        test x ≡ b →
        (count_by test (x ∷ xs) ≤ 1) × (is_recorded (x ∷ xs) number ≡ false → count_by test (x ∷ xs) ≡ 0)
    by_test others true holds =
        let first : one_if (test x) ≡ 1 = ap one_if holds in
        let same : x.disk ≡ number = eqb-true x.disk number (each x holds) in
        let none : is_recorded xs number ≡ false =
        ap (is_recorded xs) (sym same) ∙ not-true (is_recorded xs x.disk) parts.0 in
        let rest : count_by test xs ≡ 0 = others.1 none in (
          omega (arith, more, first, rest),
          λ no_one. absurd (let here : (x.disk == number) ≡ false =
              (or_parts (x.disk == number) (is_recorded xs number) no_one).0 in
              let is : (x.disk == number) ≡ true = each x holds in cc),
        )
    by_test others false holds =
        let first : one_if (test x) ≡ 0 = ap one_if holds in
        let low : count_by test xs ≤ 1 = others.0 in (
          omega (arith, more, first, low),
          λ no_one.
              let rest : count_by test xs ≡ 0 = others.1 (or_parts (x.disk == number) (is_recorded xs number)
              no_one).1 in
              omega (arith, more, first, rest),
        )

-- ---- the disks

-- the disk is the one that comes
abbrev comes : Option DiskRow → DiskRow → Bool
comes new d = meets (λ it. it.disk == d.disk) new

serves_for : (has : Bool) (new : Option DiskRow) (d : DiskRow) (role : Role) →
    one_if (is_active (record d { role = role }) || (has && not (is_spare_beside new (record d { role = role }))))
    ≤ one_if (is_active (record d { role = role })) + one_if (comes new d)
serves_for has new d Active = omega arith
serves_for true new d New = by_truth (comes new d)
  where
    by_truth : (b : Bool) → one_if (not (not b)) ≤ 0 + one_if b
    by_truth true = omega arith
    by_truth false = omega arith
serves_for false new d New = omega arith
serves_for true new d Old = omega arith
serves_for false new d Old = omega arith

left_within : (serves : Bool) (d : DiskRow) → left_by serves d ≤ to_free d + 2 * one_if serves
left_within true d = by_truth d.attached d.mounted
  where
    by_truth : (a m : Bool) → one_if (not a) + one_if (not m) ≤ (one_if a + one_if m) + 2
    by_truth true true = omega arith
    by_truth true false = omega arith
    by_truth false true = omega arith
    by_truth false false = omega arith
left_within false d = omega arith

sum_within : (has : Bool) (new : Option DiskRow) (xs : List DiskRow) →
    sum_by (λ d. left_by (is_active d || (has && not (is_spare_beside new d))) d) xs
    ≤ sum_by to_free xs + 2 * (count_by is_active xs + count_by (comes new) xs)
sum_within has new [] = omega arith
sum_within has new (x ∷ xs) =
    let first : left_by (is_active x || (has && not (is_spare_beside new x))) x
    ≤ to_free x + 2 * one_if (is_active x || (has && not (is_spare_beside new x))) =
    left_within (is_active x || (has && not (is_spare_beside new x))) x in
    let for_use : one_if (is_active x || (has && not (is_spare_beside new x))) ≤ one_if (is_active x) + one_if
    (comes new x) =
    serves_for has new x x.role in
    let rest : sum_by (λ d. left_by (is_active d || (has && not (is_spare_beside new d))) d) xs
    ≤ sum_by to_free xs + 2 * (count_by is_active xs + count_by (comes new) xs) = sum_within has new xs in
    let a : sum_by (λ d. left_by (is_active d || (has && not (is_spare_beside new d))) d) (x ∷ xs)
    ≡ left_by (is_active x || (has && not (is_spare_beside new x))) x
    + sum_by (λ d. left_by (is_active d || (has && not (is_spare_beside new d))) d) xs =
    sum_by-cons (λ d. left_by (is_active d || (has && not (is_spare_beside new d))) d) x xs in
    let b : sum_by to_free (x ∷ xs) ≡ to_free x + sum_by to_free xs = sum_by-cons to_free x xs in
    let c : count_by is_active (x ∷ xs) ≡ one_if (is_active x) + count_by is_active xs = count-cons is_active x xs in
    let d : count_by (comes new) (x ∷ xs) ≡ one_if (comes new x) + count_by (comes new) xs =
    count-cons (comes new) x xs in omega arith

comes_most : (new : Option DiskRow) (xs : List DiskRow) → are_distinct xs ≡ true → count_by (comes new) xs ≤ 1
comes_most None xs distinct = (count-one (comes None) 0 xs distinct (λ d is. absurd cc)).0
comes_most (Some it) xs distinct =
    (count-one (comes (Some it)) it.disk xs distinct
    (λ d is. eq-eqb d.disk it.disk (sym (eqb-true it.disk d.disk is)))).0

missing_most : (want : Option DiskWant) (xs : List DiskRow) → disks_missing want xs ≤ 6
missing_most None xs = omega arith
missing_most (Some wanted) xs = by_disks (active xs) (coming (Some wanted) xs)
  where
    by_right : (b : Bool) (n : ℕ) → n ≤ 6 → if◌then◌else◌ {A = ℕ} b 0 n ≤ 6
    by_right true n low = omega arith
    by_right false n low = low

    by_disks : (old new : Option DiskRow) → missing_beside wanted old new ≤ 6
    by_disks None new = omega arith
    by_disks (Some old) None = by_right (is_right wanted old) 6 (omega arith)
    by_disks (Some old) (Some new) = by_right (is_right wanted old) 3 (omega arith)

pub work-most : (want : Option DiskWant) (xs : List DiskRow) → are_sound xs ≡ true →
    disk_work want xs ≤ sum_by to_free xs + 10
work-most None xs sound = omega arith
work-most (Some wanted) xs sound =
    let sum : sum_by (disk_left (Some wanted) xs) xs
    ≤ sum_by to_free xs + 2 * (count_by is_active xs + count_by (comes (coming (Some wanted) xs)) xs) =
    sum_within (is_some (active xs)) (coming (Some wanted) xs) xs in
    let one : count_by is_active xs ≤ 1 = leb-true (count_by is_active xs) 1 (one_of xs sound) in
    let new : count_by (comes (coming (Some wanted) xs)) xs ≤ 1 =
    comes_most (coming (Some wanted) xs) xs (distinct_of xs sound) in
    let missing : disks_missing (Some wanted) xs ≤ 6 = missing_most (Some wanted) xs in omega arith

free_none : (xs : List DiskRow) → sum_by to_free (map let_go xs) ≡ 0
free_none [] = refl
free_none (x ∷ xs) =
    let more : sum_by to_free (let_go x ∷ map let_go xs) ≡ 0 + sum_by to_free (map let_go xs) =
    sum_by-cons to_free (let_go x) (map let_go xs) in
    let rest : sum_by to_free (map let_go xs) ≡ 0 = free_none xs in omega arith

free_most : (xs : List DiskRow) → ((d : DiskRow) → IsIn d xs → d.mounted ≡ true → d.attached ≡ true) →
    sum_by to_free xs ≤ 2 * count_by is_held xs
free_most [] held = omega arith
free_most (x ∷ xs) held =
    let first : to_free x ≤ 2 * one_if x.attached = by_truth x.attached x.mounted (held x (inl refl)) in
    let rest : sum_by to_free xs ≤ 2 * count_by is_held xs = free_most xs (λ d is. held d (inr is)) in
    let a : sum_by to_free (x ∷ xs) ≡ to_free x + sum_by to_free xs = sum_by-cons to_free x xs in
    let b : count_by is_held (x ∷ xs) ≡ one_if x.attached + count_by is_held xs = count-cons is_held x xs in
    omega arith
  where
    by_truth : (a m : Bool) → (m ≡ true → a ≡ true) → one_if a + one_if m ≤ 2 * one_if a
    by_truth true true held = omega arith
    by_truth true false held = omega arith
    by_truth false true held = absurd (let is : false ≡ true = held refl in cc)
    by_truth false false held = omega arith

-- ---- the row

pub nothing-most : (want : Option GoalRow) (xs : List DiskRow) → are_sound xs ≡ true → left_from_nothing want xs ≤ 13
nothing-most None xs sound = omega arith
nothing-most (Some w) xs sound =
    let work : disk_work w.disk (map let_go xs) ≤ sum_by to_free (map let_go xs) + 10 =
    work-most w.disk (map let_go xs) (sound-map let_go keeps-let_go xs ∙ sound) in
    let none : sum_by to_free (map let_go xs) ≡ 0 = free_none xs in
    let runs : one_if (is_running w.state) ≤ 1 = one-most (is_running w.state) in
    by_state (is_detached w.state) (2 + disk_work w.disk (map let_go xs) + one_if (is_running w.state)) (omega arith)
  where
    by_state : (b : Bool) (n : ℕ) → n ≤ 13 → if◌then◌else◌ {A = ℕ} b 0 n ≤ 13
    by_state true n low = omega arith
    by_state false n low = low

-- two attached disks at most
pub known-most : (want : Option GoalRow) (row : Row) → IsSteady row → count_by is_held row.disks ≤ 2 →
    left_known want row ≤ 20
known-most want row steady room = by_machine want row.vm
  where
    free : sum_by to_free row.disks ≤ 2 * count_by is_held row.disks
    free = free_most row.disks steady.held

    removing : left_to_remove row ≤ 7
    removing =
        let a : one_if (row.running && not row.drained) ≤ 1 = one-most (row.running && not row.drained) in
        let b : one_if row.running ≤ 1 = one-most row.running in omega (arith, free, room, a, b)

    resting : (w : GoalRow) → left_at_rest w row ≤ 16
    resting w =
        let work : disk_work w.disk row.disks ≤ sum_by to_free row.disks + 10 =
        work-most w.disk row.disks steady.sound in
        let a : one_if (spec_differs w row) ≤ 1 = one-most (spec_differs w row) in
        let b : one_if (is_running w.state) ≤ 1 = one-most (is_running w.state) in omega (arith, work, free, room, a, b)

    tending : (w : GoalRow) → left_to_tend w row ≤ 20
    tending w = by_running row.running (has_to_stop w row)
      where
        by_running : (runs stops : Bool) →
            (if runs then (if stops then one_if (not row.drained) + 1 + left_at_rest w row else 0) else left_at_rest w
            row)
            ≤ 20
        by_running true true =
            let a : one_if (not row.drained) ≤ 1 = one-most (not row.drained) in
            let b : left_at_rest w row ≤ 16 = resting w in omega arith
        by_running true false = omega arith
        by_running false stops = let b : left_at_rest w row ≤ 16 = resting w in omega arith

    by_machine : (want : Option GoalRow) (it : Option vm.Vm) → left_of_machine want row it ≤ 20
    by_machine want None =
        let low : left_from_nothing want row.disks ≤ 13 = nothing-most want row.disks steady.sound in omega arith
    by_machine None (Some it) = let low : left_to_remove row ≤ 7 = removing in omega arith
    by_machine (Some w) (Some it) = by_way (has_to_go w row it)
      where
        by_way : (b : Bool) →
            (if b then left_to_remove row + left_from_nothing (Some w) row.disks else left_to_tend w row) ≤ 20
        by_way true =
            let a : left_to_remove row ≤ 7 = removing in
            let b : left_from_nothing (Some w) row.disks ≤ 13 = nothing-most (Some w) row.disks steady.sound in
            omega arith
        by_way false = tending w
