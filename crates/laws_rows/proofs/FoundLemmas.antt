-- What is found by the number of a call.
use Rattle.std.proofs.Common.{◌≡◌, ℕ, ◌+◌, ◌≤◌, Bool, true, false, Option, Some, None, List, [], ◌∷◌, ◌++◌, refl, sym, ◌∙◌, ap, inl, inr, arith}
use Rattle.std.specs.Prelude.{◌⊎◌, ◌&&◌, ◌||◌, ◌==◌, nat_le, if◌then◌else◌, find}
use Rattle.std.specs.List.{list_all}
use Rattle.std.proofs.lemmas.Bool.{and_parts, and_from, eqb-true, eq-eqb, leb-true, or_right}
use Rattle.bosh_base.specs.CallStep.{found_disk, found_vm, has_number}
use Rattle.bosh_base.specs.Cloud.{creates_disk, creates_vm, disk_created, disk_creation, disks_created, is_disk_there, is_vm_there, numbers_to, vm_created, vm_creation, vms_created, when}
use Rattle.bosh_base.specs.History.{chosen, latest_seen}
use Rattle.bosh_base.specs.declared.call.Call.TheVariants.{CreateVm, CreateDisk}
use Rattle.bosh_base.specs.declared.disk_want.DiskWant.{DiskWant}
use Rattle.bosh_base.specs.declared.entry.Effect as effect
use Rattle.bosh_base.specs.declared.entry.Entry.{Entry}
use Rattle.bosh_base.specs.declared.entry.Entry.TheVariants.{Effect}
use Rattle.bosh_base.specs.declared.make.Make.{Make}
use Rattle.bosh_base.specs.declared.row.Row.{Row}
use Rattle.laws_effects.proofs.CreationLemmas.{disk_creation_next, disk_creation_stays, disks-grown, is_disk_there-grown, is_vm_there-grown, vm_creation_next, vm_creation_stays, vms-grown}
use Rattle.laws_effects.specs.Orderly.{is_of_call, is_taken}
use Rattle.laws_rows.proofs.FilterLemmas.{numbers-more, numbers_within}
use Rattle.laws_rows.proofs.TieLemmas.{of_row, with_call}
use Rattle.laws_rows.specs.Rightful.{IsAmong}

-- ---- a creation is one of the effects

among_chosen : (a : Option (Option effect.Effect)) (d : Option effect.Effect) (e : effect.Effect)
    (x : Entry) → ((e : effect.Effect) → a ≡ Some (Some e) → x ≡ Effect e) → chosen a d ≡ Some e →
    (d ≡ Some e) ⊎ (x ≡ Effect e)
among_chosen (Some a) d e x tells is = inr (tells e (ap Some is))
among_chosen None d e x tells is = inl is

among_seen : (answer : List Entry → Entry → Option (Option effect.Effect)) →
    ((before : List Entry) (x : Entry) (e : effect.Effect) → answer before x ≡ Some (Some e) → x ≡ Effect e) →
    (d : Option effect.Effect) (before xs : List Entry) (e : effect.Effect) →
    latest_seen answer d before xs ≡ Some e → (d ≡ Some e) ⊎ IsAmong e xs
among_seen answer tells d before [] e is = inl is
among_seen answer tells d before (x ∷ xs) e is =
    by_way (among_seen answer tells (chosen (answer before x) d) (before ++ x ∷ []) xs e is)
  where
    by_first : ((d ≡ Some e) ⊎ (x ≡ Effect e)) → (d ≡ Some e) ⊎ IsAmong e (x ∷ xs)
    by_first (inl was) = inl was
    by_first (inr first) = inr (inl first)

    by_way : ((chosen (answer before x) d ≡ Some e) ⊎ IsAmong e xs) → (d ≡ Some e) ⊎ IsAmong e (x ∷ xs)
    by_way (inl was) = by_first (among_chosen (answer before x) d e x (tells before x) was)
    by_way (inr is) = inr (inr is)

tells_vm : (v : ℕ) (before : List Entry) (x : Entry) (e : effect.Effect) → vm_created v before x ≡ Some (Some e) →
    x ≡ Effect e
tells_vm v before (Effect it) e is = by_truth (creates_vm it.call && vms_created before + 1 == v) is
  where
    by_truth : (b : Bool) → when b (Some it) ≡ Some (Some e) → Effect it ≡ Effect e
    by_truth true is = let same : it ≡ e = cc in ap Effect same
    by_truth false is = absurd cc
tells_vm v before x e is = absurd cc

tells_disk : (d : ℕ) (before : List Entry) (x : Entry) (e : effect.Effect) → disk_created d before x ≡ Some (Some e) →
    x ≡ Effect e
tells_disk d before (Effect it) e is = by_truth (creates_disk it.call && disks_created before + 1 == d) is
  where
    by_truth : (b : Bool) → when b (Some it) ≡ Some (Some e) → Effect it ≡ Effect e
    by_truth true is = let same : it ≡ e = cc in ap Effect same
    by_truth false is = absurd cc
tells_disk d before x e is = absurd cc

pub vm-among : (xs : List Entry) (v : ℕ) (e : effect.Effect) → vm_creation xs v ≡ Some e → IsAmong e xs
vm-among xs v e is = by_way (among_seen (vm_created v) (tells_vm v) None [] xs e is)
  where
    by_way : ((None ≡ Some e) ⊎ IsAmong e xs) → IsAmong e xs
    by_way (inl none) = absurd cc
    by_way (inr is) = is

pub disk-among : (xs : List Entry) (d : ℕ) (e : effect.Effect) → disk_creation xs d ≡ Some e → IsAmong e xs
disk-among xs d e is = by_way (among_seen (disk_created d) (tells_disk d) None [] xs e is)
  where
    by_way : ((None ≡ Some e) ⊎ IsAmong e xs) → IsAmong e xs
    by_way (inl none) = absurd cc
    by_way (inr is) = is

pub taken : (xs : List Entry) (e : effect.Effect) (n : ℕ) → IsAmong e xs → e.n ≡ n → is_taken xs n ≡ true
taken [] e n is same = absurd is
taken (x ∷ xs) e n (inl first) same =
    ap (λ b. b || is_taken xs n) (ap (is_of_call n) first ∙ eq-eqb e.n n same)
taken (x ∷ xs) e n (inr is) same = or_right (is_of_call n x) (is_taken xs n) (taken xs e n is same)

-- no creation has the number of a new call
pub unnumbered : (xs : List Entry) (n : ℕ) (o : Option effect.Effect) →
    ((e : effect.Effect) → o ≡ Some e → IsAmong e xs) → is_taken xs n ≡ false → has_number n o ≡ false
unnumbered xs n None among fresh = refl
unnumbered xs n (Some e) among fresh = by_truth (e.n == n) refl
  where
    by_truth : (b : Bool) → (e.n == n) ≡ b → b ≡ false
    by_truth true same =
        absurd (let is : is_taken xs n ≡ true = taken xs e n (among e refl) (eqb-true e.n n same) in cc)
    by_truth false same = refl

-- ---- the one that was made last is found

find_last : (p : ℕ → Bool) (n : ℕ) (ks : List ℕ) (k : ℕ) → list_all (λ k. nat_le k n) ks ≡ true →
    ((k : ℕ) → k ≤ n → p k ≡ false) → p k ≡ true → find p (ks ++ k ∷ []) ≡ Some k
find_last p n [] k low none is = ap (λ (b : Bool). if b then Some k else None) is
find_last p n (j ∷ ks) k low none is =
    let parts : (nat_le j n ≡ true) × (list_all (λ k. nat_le k n) ks ≡ true) = and_parts (nat_le j n) _ low in
    ap (λ (b : Bool). if b then Some j else find p (ks ++ k ∷ [])) (none j (leb-true j n parts.0))
    ∙ find_last p n ks k parts.1 none is

pub found-made_vm : (xs : List Entry) (row : Row) (make : Make) (hint : List ℕ) (n : ℕ) (dep : List ℕ) →
    is_taken xs n ≡ false → found_vm (with_call xs row n dep (CreateVm make hint)) n ≡ Some (vms_created xs + 1)
found-made_vm xs row make hint n dep fresh =
    (λ i. find (λ v. is_vm_there (with_call xs row n dep (CreateVm make hint)) v
    && has_number n (vm_creation (with_call xs row n dep (CreateVm make hint)) v))
    (numbers_to (vms-grown xs (Effect (of_row row n dep (CreateVm make hint))) i)))
    ∙ ap (find (λ v. is_vm_there (with_call xs row n dep (CreateVm make hint)) v
    && has_number n (vm_creation (with_call xs row n dep (CreateVm make hint)) v))) (numbers-more (vms_created xs))
    ∙ find_last (λ v. is_vm_there (with_call xs row n dep (CreateVm make hint)) v
    && has_number n (vm_creation (with_call xs row n dep (CreateVm make hint)) v)) (vms_created xs)
    (numbers_to (vms_created xs)) (vms_created xs + 1)
    (numbers_within (vms_created xs) (vms_created xs) (omega arith))
    (λ v low.
    ap (λ o. is_vm_there (with_call xs row n dep (CreateVm make hint)) v && has_number n o)
    (vm_creation_stays xs (Effect (of_row row n dep (CreateVm make hint))) v low)
    ∙ ap (λ b. is_vm_there (with_call xs row n dep (CreateVm make hint)) v && b)
    (unnumbered xs n (vm_creation xs v) (λ e is. vm-among xs v e is) fresh)
    ∙ dull (is_vm_there (with_call xs row n dep (CreateVm make hint)) v))
    (and_from (is_vm_there (with_call xs row n dep (CreateVm make hint)) (vms_created xs + 1)) _
    (is_vm_there-grown xs (Effect (of_row row n dep (CreateVm make hint))) (vms_created xs + 1)
    ∙ ap (λ b. chosen (when b true) (is_vm_there xs (vms_created xs + 1)))
    (eq-eqb (vms_created xs + 1) (vms_created xs + 1) refl))
    (ap (has_number n) (vm_creation_next xs (of_row row n dep (CreateVm make hint)) refl) ∙ eq-eqb n n refl))
  where
    dull : (b : Bool) → (b && false) ≡ false
    dull true = refl
    dull false = refl

pub found-made_disk : (xs : List Entry) (row : Row) (wanted : DiskWant) (v n : ℕ) (dep : List ℕ) →
    is_taken xs n ≡ false →
    found_disk (with_call xs row n dep (CreateDisk wanted v)) n ≡ Some (disks_created xs + 1)
found-made_disk xs row wanted v n dep fresh =
    (λ i. find (λ d. is_disk_there (with_call xs row n dep (CreateDisk wanted v)) d
    && has_number n (disk_creation (with_call xs row n dep (CreateDisk wanted v)) d))
    (numbers_to (disks-grown xs (Effect (of_row row n dep (CreateDisk wanted v))) i)))
    ∙ ap (find (λ d. is_disk_there (with_call xs row n dep (CreateDisk wanted v)) d
    && has_number n (disk_creation (with_call xs row n dep (CreateDisk wanted v)) d))) (numbers-more (disks_created xs))
    ∙ find_last (λ d. is_disk_there (with_call xs row n dep (CreateDisk wanted v)) d
    && has_number n (disk_creation (with_call xs row n dep (CreateDisk wanted v)) d)) (disks_created xs)
    (numbers_to (disks_created xs)) (disks_created xs + 1)
    (numbers_within (disks_created xs) (disks_created xs) (omega arith))
    (λ d low.
    ap (λ o. is_disk_there (with_call xs row n dep (CreateDisk wanted v)) d && has_number n o)
    (disk_creation_stays xs (Effect (of_row row n dep (CreateDisk wanted v))) d low)
    ∙ ap (λ b. is_disk_there (with_call xs row n dep (CreateDisk wanted v)) d && b)
    (unnumbered xs n (disk_creation xs d) (λ e is. disk-among xs d e is) fresh)
    ∙ dull (is_disk_there (with_call xs row n dep (CreateDisk wanted v)) d))
    (and_from (is_disk_there (with_call xs row n dep (CreateDisk wanted v)) (disks_created xs + 1)) _
    (is_disk_there-grown xs (Effect (of_row row n dep (CreateDisk wanted v))) (disks_created xs + 1)
    ∙ ap (λ b. chosen (when b true) (is_disk_there xs (disks_created xs + 1)))
    (eq-eqb (disks_created xs + 1) (disks_created xs + 1) refl))
    (ap (has_number n) (disk_creation_next xs (of_row row n dep (CreateDisk wanted v)) refl) ∙ eq-eqb n n refl))
  where
    dull : (b : Bool) → (b && false) ≡ false
    dull true = refl
    dull false = refl

-- ---- what is found is there, and was made by a call of the number

pub record IsFoundVm (xs : List Entry) (n v : ℕ) : Type 0 where
  pub there : is_vm_there xs v ≡ true
  pub e : effect.Effect
  pub made : vm_creation xs v ≡ Some e
  pub number : e.n ≡ n

pub record IsFoundDisk (xs : List Entry) (n d : ℕ) : Type 0 where
  pub there : is_disk_there xs d ≡ true
  pub e : effect.Effect
  pub made : disk_creation xs d ≡ Some e
  pub number : e.n ≡ n

find_meets : (p : ℕ → Bool) (ks : List ℕ) (k : ℕ) → find p ks ≡ Some k → p k ≡ true
find_meets p [] k is = absurd cc
find_meets p (j ∷ ks) k is = by_test (find_meets p ks k) (p j) refl is
  where
    by_test : (find p ks ≡ Some k → p k ≡ true) → (b : Bool) → p j ≡ b → (if b then Some j else find p ks) ≡ Some k →
        p k ≡ true
    by_test others true holds is = let same : j ≡ k = cc in ap p (sym same) ∙ holds
    by_test others false holds is = others is

numbered : (n : ℕ) (o : Option effect.Effect) → has_number n o ≡ true → (e : effect.Effect) × ((o ≡ Some e) × (e.n ≡ n))
numbered n (Some e) is = (e, (refl, eqb-true e.n n is))
numbered n None is = absurd cc

pub vm-found : (xs : List Entry) (n v : ℕ) → found_vm xs n ≡ Some v → IsFoundVm xs n v
vm-found xs n v is =
    let both : (is_vm_there xs v ≡ true) × (has_number n (vm_creation xs v) ≡ true) =
    and_parts (is_vm_there xs v) (has_number n (vm_creation xs v))
    (find_meets (λ v. is_vm_there xs v && has_number n (vm_creation xs v)) (numbers_to (vms_created xs)) v is) in
    let it : (e : effect.Effect) × ((vm_creation xs v ≡ Some e) × (e.n ≡ n)) = numbered n (vm_creation xs v) both.1 in
    record { there = both.0; e = it.0; made = it.1.0; number = it.1.1 }

pub disk-found : (xs : List Entry) (n d : ℕ) → found_disk xs n ≡ Some d → IsFoundDisk xs n d
disk-found xs n d is =
    let both : (is_disk_there xs d ≡ true) × (has_number n (disk_creation xs d) ≡ true) =
    and_parts (is_disk_there xs d) (has_number n (disk_creation xs d))
    (find_meets (λ d. is_disk_there xs d && has_number n (disk_creation xs d)) (numbers_to (disks_created xs)) d is) in
    let it : (e : effect.Effect) × ((disk_creation xs d ≡ Some e) × (e.n ≡ n)) =
    numbered n (disk_creation xs d) both.1 in
    record { there = both.0; e = it.0; made = it.1.0; number = it.1.1 }
