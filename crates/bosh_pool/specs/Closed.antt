-- The addresses of subnets that are not given to whoever asks for any, told by bands in order.
use Rattle.std.specs.Prelude.{◌≡◌, ℕ, ◌+◌, ◌<◌, List, length, max, slice_index_or, take}
use Rattle.std.specs.List.{fold}
use Rattle.bosh_base.specs.declared.addr.Band.{Band}
use Rattle.bosh_base.specs.declared.plan.Subnet.{Subnet}
use Rattle.bosh_bands.specs.Order.{IsInOrder}
use Rattle.bosh_pool.specs.Free.{AreClosed}
use Rattle.bosh_pool.specs.declared.closed.Closed.{Closed}

-- the greatest last address of bands, or 0
abbrev pub reach : List Band → ℕ
reach bands = fold (λ far band. max far band.last.0) 0 bands

-- how far the bands up to each place reach
pub record AreReaches (bands : List Band) (reaches : List ℕ) : Type 0 where
  pub count : length reaches ≡ length bands
  pub each : (k : ℕ) (d : ℕ) → k < length bands → slice_index_or reaches k d ≡ reach (take (k + 1) bands)

pub record IsClosed (subnet : Subnet) (closed : Closed) : Type 0 where
  pub order : IsInOrder closed.bands
  pub bands : AreClosed subnet closed.bands
  pub reaches : AreReaches closed.bands closed.reaches

-- those of each subnet
pub record AreAllClosed (subnets : List Subnet) (closed : List Closed) : Type 0 where
  pub count : length closed ≡ length subnets
  pub each :
      (k : ℕ) (subnet : Subnet) (one : Closed) → k < length subnets
      → IsClosed (slice_index_or subnets k subnet) (slice_index_or closed k one)
