-- What was created has one of the numbers so far.
use Rattle.std.proofs.Common.{◌≡◌, ℕ, ◌+◌, ◌≤◌, Bool, true, false, Option, Some, List, [], ◌∷◌, ◌++◌, refl, sym, ◌∙◌, subst, arith}
use Rattle.std.specs.Prelude.{◌&&◌, ◌==◌}
use Rattle.std.proofs.lemmas.Bool.{eqb-true}
use Rattle.bosh_base.proofs.HistoryLemmas.{kept_along}
use Rattle.bosh_base.specs.Cloud.{creates_disk, creates_vm, disk_created, disk_creation, disks_created, is_disk_creation, is_vm_creation, vm_created, vm_creation, vms_created, when}
use Rattle.bosh_base.specs.History.{EachAfter, chosen}
use Rattle.bosh_base.specs.declared.entry.Effect as effect
use Rattle.bosh_base.specs.declared.entry.Entry.{Entry}
use Rattle.bosh_base.specs.declared.entry.Entry.TheVariants.{Effect}
use Rattle.laws_effects.proofs.CreationLemmas.{disk_creation-grown, disks-grown, one_if, vm_creation-grown, vms-grown}

pub record AreWithin (xs : List Entry) : Type 0 where
  pub vms : (v : ℕ) (e : effect.Effect) → vm_creation xs v ≡ Some e → v ≤ vms_created xs
  pub disks : (d : ℕ) (e : effect.Effect) → disk_creation xs d ≡ Some e → d ≤ disks_created xs

by_creation : (creates : Bool) (n v : ℕ) (new : effect.Effect) (old : Option effect.Effect) (e : effect.Effect) →
    ((e : effect.Effect) → old ≡ Some e → v ≤ n) →
    chosen (when (creates && n + 1 == v) (Some new)) old ≡ Some e → v ≤ n + one_if creates
by_creation true n v new old e low is = by_number (n + 1 == v) refl is
  where
    by_number : (b : Bool) → (n + 1 == v) ≡ b → chosen (when b (Some new)) old ≡ Some e → v ≤ n + 1
    by_number true same is = let next : n + 1 ≡ v = eqb-true (n + 1) v same in omega arith
    by_number false other is = let below : v ≤ n = low e is in omega arith
by_creation false n v new old e low is = let below : v ≤ n = low e is in omega arith

within_step : (xs : List Entry) (x : Entry) → AreWithin xs → Unit {0} → AreWithin (xs ++ x ∷ [])
within_step xs x it next = record {
  vms = λ v e is.
      subst (λ (n : ℕ). v ≤ n) (sym (vms-grown xs x)) (vm v e x (sym (vm_creation-grown xs x v) ∙ is));
  disks = λ d e is.
      subst (λ (n : ℕ). d ≤ n) (sym (disks-grown xs x)) (disk d e x (sym (disk_creation-grown xs x d) ∙ is));
}
  where
    vm : (v : ℕ) (e : effect.Effect) (x : Entry) → chosen (vm_created v xs x) (vm_creation xs v) ≡ Some e →
        v ≤ vms_created xs + one_if (is_vm_creation x)
    vm v e (Effect new) is =
        by_creation (creates_vm new.call) (vms_created xs) v new (vm_creation xs v) e (λ e is. it.vms v e is) is
    vm v e x is = let below : v ≤ vms_created xs = it.vms v e is in omega arith

    disk : (d : ℕ) (e : effect.Effect) (x : Entry) → chosen (disk_created d xs x) (disk_creation xs d) ≡ Some e →
        d ≤ disks_created xs + one_if (is_disk_creation x)
    disk d e (Effect new) is =
        by_creation (creates_disk new.call) (disks_created xs) d new (disk_creation xs d) e (λ e is. it.disks d e is) is
    disk d e x is = let below : d ≤ disks_created xs = it.disks d e is in omega arith

each_any : {X : Type 0} (before xs : List X) → EachAfter (λ (before : List X) (x : X). Unit {0}) before xs
each_any before [] = tt
each_any before (x ∷ xs) = (tt, each_any (before ++ x ∷ []) xs)

pub are_within : (xs : List Entry) → AreWithin xs
are_within xs =
    kept_along (λ before x. Unit {0}) AreWithin within_step [] xs
    (record { vms = λ v e is. absurd cc; disks = λ d e is. absurd cc }) (each_any [] xs)
