-- The least address is one that passes with none below it that does.
use Rattle.std.proofs.Common.{◌≡◌, ℕ, zero, suc, ◌^◌, ◌<◌, Bool, true, false, Option, Some, None, arith, refl, sym, ap, subst, if◌then◌else◌, ◌∙◌, inl, inr}
use Rattle.std.proofs.lemmas.Bool.{cases_lt}
use Rattle.bosh_base.specs.declared.addr.Addr.{Addr}
use Rattle.bosh_bands.specs.Least.{first_of, least_below, least, IsLeast, PassesNowhere}

-- where no number below one passes there is none
none_below : (test : Addr → Bool) (n : ℕ) → ((addr : Addr) → addr.0 < n → test addr ≡ false) → least_below test n ≡ None
unfolding least_below
none_below test zero fails = refl
none_below test (suc n) fails =
    let here : test (record { 0 = n }) ≡ false = fails (record { 0 = n }) (omega arith) in
    rw (none_below test n (λ addr below. fails addr (omega arith)), here) refl

-- the least that passes is found
found_below : (test : Addr → Bool) (n : ℕ) (addr : Addr) → addr.0 < n → IsLeast test addr → least_below test n ≡ Some addr
unfolding least_below
found_below test zero addr within is = absurd (omega arith)
found_below test (suc n) addr within is =
    elim (cases_lt addr.0 n) [
      | inl below ↦ rw (found_below test n addr below is) refl
      | inr above ↦
          let same : addr.0 ≡ n = omega arith in
          let here : record { 0 = n } ≡ addr = λ i. record { 0 = sym same i } in
          let none : least_below test n ≡ None = none_below test n (λ other lower. is.below other (omega arith)) in
          let passes : test (record { 0 = n }) ≡ true = ap test here ∙ is.passes in
          rw (none, passes) (ap Some here)
    ]

pub least-found : (test : Addr → Bool) (addr : Addr) → addr.0 < 2 ^ 32 → IsLeast test addr → least test ≡ Some addr
unfolding least
least-found test addr within is = found_below test (2 ^ 32) addr within is

pub least-nowhere : (test : Addr → Bool) → PassesNowhere test → least test ≡ None
unfolding least
least-nowhere test nowhere = none_below test (2 ^ 32) nowhere

some_same : {A : Type 0} {x y : A} → ◌≡◌ {A = Option A} (Some x) (Some y) → x ≡ y
some_same h = cc

-- where none was found below a number, none below it passes
nowhere_step : (test : Addr → Bool) (n : ℕ) (before : Option Addr) (here : Bool) → test (record { 0 = n }) ≡ here → (before ≡ None → (addr : Addr) → addr.0 < n → test addr ≡ false)
    → first_of before (if here then Some (record { 0 = n }) else None) ≡ None → (addr : Addr) → addr.0 < suc n → test addr ≡ false
nowhere_step test n (Some found) here is_here lower h = absurd (cc)
nowhere_step test n None true is_here lower h = absurd (cc)
nowhere_step test n None false is_here lower h = λ addr within.
    elim (cases_lt addr.0 n) [
      | inl below ↦ lower refl addr below
      | inr above ↦
          let same : addr.0 ≡ n = omega arith in
          let here : addr ≡ record { 0 = n } = λ i. record { 0 = same i } in
          ap test here ∙ is_here
    ]

nowhere_below : (test : Addr → Bool) (n : ℕ) → least_below test n ≡ None → (addr : Addr) → addr.0 < n → test addr ≡ false
unfolding least_below
nowhere_below test zero none = λ addr within. absurd (omega arith)
nowhere_below test (suc n) none = nowhere_step test n (least_below test n) (test (record { 0 = n })) refl (nowhere_below test n) none

-- what was found is the least
least_step : (test : Addr → Bool) (n : ℕ) (addr : Addr) (before : Option Addr) (here : Bool) → test (record { 0 = n }) ≡ here
    → (before ≡ None → (other : Addr) → other.0 < n → test other ≡ false) → ((found : Addr) → before ≡ Some found → IsLeast test found)
    → first_of before (if here then Some (record { 0 = n }) else None) ≡ Some addr → IsLeast test addr
least_step test n addr (Some found) here is_here none some h = subst (IsLeast test) (some_same h) (some found refl)
least_step test n addr None true is_here none some h =
    let same : record { 0 = n } ≡ addr = some_same h in
    subst (IsLeast test) same (record { passes = is_here; below = none refl })
least_step test n addr None false is_here none some h = absurd (cc)

least_of : (test : Addr → Bool) (n : ℕ) (addr : Addr) → least_below test n ≡ Some addr → IsLeast test addr
unfolding least_below
least_of test zero addr h = absurd (cc)
least_of test (suc n) addr h = least_step test n addr (least_below test n) (test (record { 0 = n })) refl (nowhere_below test n) (least_of test n) h

pub least-is : (test : Addr → Bool) (addr : Addr) → least test ≡ Some addr → IsLeast test addr
unfolding least
least-is test addr h = least_of test (2 ^ 32) addr h

pub least-none : (test : Addr → Bool) → least test ≡ None → PassesNowhere test
unfolding least
least-none test none = nowhere_below test (2 ^ 32) none
