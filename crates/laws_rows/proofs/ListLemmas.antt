-- Disks of a list: sums over them, the least, the first, and those of one number.
use Rattle.std.proofs.Common.{◌≡◌, ℕ, ◌+◌, ◌≤◌, Bool, true, false, Option, Some, None, List, [], ◌∷◌, refl, sym, ◌∙◌, ap, subst, inl, inr, arith}
use Rattle.std.specs.Prelude.{◌⊎◌, ◌&&◌, ◌||◌, ◌==◌, not, nat_lt, if◌then◌else◌, filter, fold, is_some, map}
use Rattle.std.specs.List.{list_all, list_any, sum_by}
use Rattle.std.proofs.lemmas.Bool.{and_parts, and_from, eqb-true, eq-eqb, not-true}
use Rattle.std.proofs.lemmas.List.Sums.{sum_by-cons}
use Rattle.bosh_base.specs.declared.row.DiskRow.{DiskRow}
use Rattle.bosh_rows.specs.Disks.{active, is_active, least, lesser}
use Rattle.laws_rows.specs.SoundDisks.{are_distinct, is_recorded}

-- the disk is one of the list
abbrev pub IsIn : DiskRow → List DiskRow → Type 0
IsIn d [] = ⊥
IsIn d (x ∷ xs) = (x ≡ d) ⊎ IsIn d xs

-- what holds of all holds of one
pub all_in : (p : DiskRow → Bool) (d : DiskRow) (xs : List DiskRow) → list_all p xs ≡ true → IsIn d xs → p d ≡ true
all_in p d [] all is = absurd is
all_in p d (x ∷ xs) all (inl same) = ap p (sym same) ∙ (and_parts (p x) (list_all p xs) all).0
all_in p d (x ∷ xs) all (inr is) = all_in p d xs (and_parts (p x) (list_all p xs) all).1 is

-- .. and where it holds of each, it holds of all
pub all_from : (p : DiskRow → Bool) (xs : List DiskRow) → ((d : DiskRow) → IsIn d xs → p d ≡ true) →
    list_all p xs ≡ true
all_from p [] each = refl
all_from p (x ∷ xs) each =
    and_from (p x) (list_all p xs) (each x (inl refl)) (all_from p xs (λ d is. each d (inr is)))

pub any_in : (p : DiskRow → Bool) (d : DiskRow) (xs : List DiskRow) → IsIn d xs → p d ≡ true → list_any p xs ≡ true
any_in p d [] is holds = absurd is
any_in p d (x ∷ xs) (inl same) holds = ap (λ b. b || list_any p xs) (ap p same ∙ holds)
any_in p d (x ∷ xs) (inr is) holds = ap (λ b. p x || b) (any_in p d xs is holds) ∙ or_true (p x)
  where
    or_true : (b : Bool) → (b || true) ≡ true
    or_true true = refl
    or_true false = refl

-- ---- the one that is found

filter_in : (test : DiskRow → Bool) (d : DiskRow) (xs : List DiskRow) → IsIn d (filter test xs) →
    IsIn d xs × (test d ≡ true)
filter_in test d [] is = absurd is
filter_in test d (x ∷ xs) is = by_test (filter_in test d xs) (test x) refl is
  where
    by_test : (IsIn d (filter test xs) → IsIn d xs × (test d ≡ true)) → (b : Bool) → test x ≡ b →
        IsIn d (if b then x ∷ filter test xs else filter test xs) → IsIn d (x ∷ xs) × (test d ≡ true)
    by_test others true holds (inl same) = (inl same, ap test (sym same) ∙ holds)
    by_test others true holds (inr is) = let it : IsIn d xs × (test d ≡ true) = others is in (inr it.0, it.1)
    by_test others false holds is = let it : IsIn d xs × (test d ≡ true) = others is in (inr it.0, it.1)

lesser_is : (acc : Option DiskRow) (x d : DiskRow) → lesser acc x ≡ Some d → (acc ≡ Some d) ⊎ (x ≡ d)
lesser_is None x d is = inr (let same : x ≡ d = cc in same)
lesser_is (Some c) x d is = by_order (nat_lt x.disk c.disk) is
  where
    by_order : (b : Bool) → (if b then Some x else Some c) ≡ Some d → (Some c ≡ Some d) ⊎ (x ≡ d)
    by_order true is = inr (let same : x ≡ d = cc in same)
    by_order false is = inl is

fold_in : (acc : Option DiskRow) (d : DiskRow) (xs : List DiskRow) → fold lesser acc xs ≡ Some d →
    (acc ≡ Some d) ⊎ IsIn d xs
fold_in acc d [] is = inl is
fold_in acc d (x ∷ xs) is = by_way (fold_in (lesser acc x) d xs is)
  where
    by_first : ((acc ≡ Some d) ⊎ (x ≡ d)) → (acc ≡ Some d) ⊎ IsIn d (x ∷ xs)
    by_first (inl was) = inl was
    by_first (inr same) = inr (inl same)

    by_way : ((lesser acc x ≡ Some d) ⊎ IsIn d xs) → (acc ≡ Some d) ⊎ IsIn d (x ∷ xs)
    by_way (inl was) = by_first (lesser_is acc x d was)
    by_way (inr is) = inr (inr is)

pub record IsFound (test : DiskRow → Bool) (d : DiskRow) (xs : List DiskRow) : Type 0 where
  pub is_in : IsIn d xs
  pub meets : test d ≡ true

pub least_found : (test : DiskRow → Bool) (d : DiskRow) (xs : List DiskRow) → least test xs ≡ Some d →
    IsFound test d xs
least_found test d xs is = by_way (fold_in None d (filter test xs) is)
  where
    by_way : ((None ≡ Some d) ⊎ IsIn d (filter test xs)) → IsFound test d xs
    by_way (inl none) = absurd cc
    by_way (inr is) = let it : IsIn d xs × (test d ≡ true) = filter_in test d xs is in record {
      is_in = it.0;
      meets = it.1;
    }

lesser_some : (acc : Option DiskRow) (x : DiskRow) → is_some (lesser acc x) ≡ true
lesser_some None x = refl
lesser_some (Some c) x = by_order (nat_lt x.disk c.disk)
  where
    by_order : (b : Bool) → is_some (if b then Some x else Some c) ≡ true
    by_order true = refl
    by_order false = refl

fold_some : (acc : Option DiskRow) (xs : List DiskRow) → is_some acc ≡ true → is_some (fold lesser acc xs) ≡ true
fold_some acc [] is = is
fold_some acc (x ∷ xs) is = fold_some (lesser acc x) xs (lesser_some acc x)

-- where no least one is found none meets the test
pub least_none : (test : DiskRow → Bool) (xs : List DiskRow) → least test xs ≡ None →
    list_all (λ d. not (test d)) xs ≡ true
least_none test [] none = refl
least_none test (x ∷ xs) none = by_test (least_none test xs) (test x) refl none
  where
    by_test : (least test xs ≡ None → list_all (λ d. not (test d)) xs ≡ true) → (b : Bool) → test x ≡ b →
        fold lesser None (if b then x ∷ filter test xs else filter test xs) ≡ None →
        (not (test x) && list_all (λ d. not (test d)) xs) ≡ true
    by_test others true holds none =
        absurd (let some : is_some (fold lesser (Some x) (filter test xs)) ≡ true =
        fold_some (Some x) (filter test xs) refl in cc)
    by_test others false holds none = and_from (not (test x)) _ (ap not holds) (others none)

pub active_found : (d : DiskRow) (xs : List DiskRow) → active xs ≡ Some d → IsFound is_active d xs
active_found d [] is = absurd cc
active_found d (x ∷ xs) is = by_role (active_found d xs) (is_active x) refl is
  where
    by_role : (active xs ≡ Some d → IsFound is_active d xs) → (b : Bool) → is_active x ≡ b →
        (if b then Some x else active xs) ≡ Some d → IsFound is_active d (x ∷ xs)
    by_role others true holds is =
        let same : x ≡ d = cc in record { is_in = inl same; meets = ap is_active (sym same) ∙ holds }
    by_role others false holds is =
        let it : IsFound is_active d xs = others is in record { is_in = inr it.is_in; meets = it.meets }

pub active_none : (xs : List DiskRow) → active xs ≡ None → list_all (λ d. not (is_active d)) xs ≡ true
active_none [] none = refl
active_none (x ∷ xs) none = by_role (active_none xs) (is_active x) refl none
  where
    by_role : (active xs ≡ None → list_all (λ d. not (is_active d)) xs ≡ true) → (b : Bool) → is_active x ≡ b →
        (if b then Some x else active xs) ≡ None → (not (is_active x) && list_all (λ d. not (is_active d)) xs) ≡ true
    by_role others true holds none = absurd cc
    by_role others false holds none = and_from (not (is_active x)) _ (ap not holds) (others none)

-- ---- those of one number

-- each disk of the number meets the test
abbrev pub AllOf : ℕ → (DiskRow → Bool) → List DiskRow → Type 0
AllOf number test xs = (d : DiskRow) → IsIn d xs → (d.disk == number) ≡ true → test d ≡ true

not_recorded : (xs : List DiskRow) (number : ℕ) (d : DiskRow) → is_recorded xs number ≡ false → IsIn d xs →
    (d.disk == number) ≡ true → ⊥
not_recorded xs number d none is same =
    let any : is_recorded xs number ≡ true = any_in (λ it. it.disk == number) d xs is same in cc

-- where no number stands twice a disk of the number of one is that one
pub same_disk : (xs : List DiskRow) → are_distinct xs ≡ true → (d e : DiskRow) → IsIn d xs → IsIn e xs →
    (e.disk == d.disk) ≡ true → e ≡ d
same_disk [] distinct d e is also same = absurd is
same_disk (x ∷ xs) distinct d e is also same =
    by_place
    (λ is also. same_disk xs (and_parts (not (is_recorded xs x.disk)) (are_distinct xs) distinct).1 d e is also same) is
    also
  where
    none : is_recorded xs x.disk ≡ false
    none =
        not-true (is_recorded xs x.disk) (and_parts (not (is_recorded xs x.disk)) (are_distinct xs) distinct).0

    by_place : (IsIn d xs → IsIn e xs → e ≡ d) → ((x ≡ d) ⊎ IsIn d xs) → ((x ≡ e) ⊎ IsIn e xs) → e ≡ d
    by_place others (inl first) (inl too) = sym too ∙ first
    by_place others (inl first) (inr also) =
        absurd (not_recorded xs x.disk e none also (ap (λ it. e.disk == it.disk) first ∙ same))
    by_place others (inr is) (inl too) =
        absurd (not_recorded xs x.disk d none is
        (let number : e.disk ≡ d.disk = eqb-true e.disk d.disk same in
        eq-eqb d.disk x.disk (sym number ∙ ap (λ it. it.disk) (sym too))))
    by_place others (inr is) (inr also) = others is also

pub all_of_one : (test : DiskRow → Bool) (xs : List DiskRow) → are_distinct xs ≡ true → (d : DiskRow) → IsIn d xs →
    test d ≡ true → AllOf d.disk test xs
all_of_one test xs distinct d is holds e also same =
    let one : e ≡ d = same_disk xs distinct d e is also same in ap test one ∙ holds

-- ---- sums

pub sum_stays : (w v : DiskRow → ℕ) (f : DiskRow → DiskRow) (xs : List DiskRow) →
    ((d : DiskRow) → IsIn d xs → v (f d) ≤ w d) → sum_by v (map f xs) ≤ sum_by w xs
sum_stays w v f [] each = omega arith
sum_stays w v f (x ∷ xs) each =
    let first : v (f x) ≤ w x = each x (inl refl) in
    let rest : sum_by v (map f xs) ≤ sum_by w xs = sum_stays w v f xs (λ e is. each e (inr is)) in
    let new : sum_by v (f x ∷ map f xs) ≡ v (f x) + sum_by v (map f xs) = sum_by-cons v (f x) (map f xs) in
    let old : sum_by w (x ∷ xs) ≡ w x + sum_by w xs = sum_by-cons w x xs in omega arith

-- a sum of terms of which none grows, and one falls, falls
pub sum_falls : (w v : DiskRow → ℕ) (f : DiskRow → DiskRow) (xs : List DiskRow) →
    ((d : DiskRow) → IsIn d xs → v (f d) ≤ w d) → (d : DiskRow) → IsIn d xs → v (f d) + 1 ≤ w d →
    sum_by v (map f xs) + 1 ≤ sum_by w xs
sum_falls w v f [] each d is less = absurd is
sum_falls w v f (x ∷ xs) each d (inl same) less =
    let first : v (f x) + 1 ≤ w x = subst (λ (it : DiskRow). v (f it) + 1 ≤ w it) (sym same) less in
    let rest : sum_by v (map f xs) ≤ sum_by w xs = sum_stays w v f xs (λ e is. each e (inr is)) in
    let new : sum_by v (f x ∷ map f xs) ≡ v (f x) + sum_by v (map f xs) = sum_by-cons v (f x) (map f xs) in
    let old : sum_by w (x ∷ xs) ≡ w x + sum_by w xs = sum_by-cons w x xs in omega arith
sum_falls w v f (x ∷ xs) each d (inr is) less =
    let first : v (f x) ≤ w x = each x (inl refl) in
    let rest : sum_by v (map f xs) + 1 ≤ sum_by w xs = sum_falls w v f xs (λ e is. each e (inr is)) d is less in
    let new : sum_by v (f x ∷ map f xs) ≡ v (f x) + sum_by v (map f xs) = sum_by-cons v (f x) (map f xs) in
    let old : sum_by w (x ∷ xs) ≡ w x + sum_by w xs = sum_by-cons w x xs in omega arith
