-- The least address of which a test holds.
use Rattle.std.specs.Prelude.{◌≡◌, ℕ, zero, suc, ◌^◌, ◌<◌, Bool, true, false, Option, Some, None, if◌then◌else◌}
use Rattle.bosh_base.specs.declared.addr.Addr.{Addr}

-- the first where there is one, and else the second
abbrev pub first_of : {A : Type 0} → Option A → Option A → Option A
first_of (Some a) other = Some a
first_of None other = other

-- the least address below a number that passes a test
unfoldable pub least_below : (Addr → Bool) → ℕ → Option Addr
least_below test zero = None
least_below test (suc n) =
    first_of (least_below test n) (if test (record { 0 = n }) then Some (record { 0 = n }) else None)

-- the least address that passes a test
unfoldable pub least : (Addr → Bool) → Option Addr
least test = least_below test (2 ^ 32)

-- an address passes a test, and none below it does
pub record IsLeast (test : Addr → Bool) (addr : Addr) : Type 0 where
  pub passes : test addr ≡ true
  pub below : (other : Addr) → other.0 < addr.0 → test other ≡ false

-- no address passes a test
abbrev pub PassesNowhere : (Addr → Bool) → Type 0
PassesNowhere test = (addr : Addr) → addr.0 < 2 ^ 32 → test addr ≡ false
