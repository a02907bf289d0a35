-- The least addresses that nobody has.
use Rattle.std.specs.Prelude.{ℕ, zero, suc, ◌&&◌, ◌||◌, Bool, not, List, [], ◌∷◌, Option, Some, None}
use Rattle.bosh_base.specs.Plan.{is_dynamic}
use Rattle.bosh_base.specs.declared.addr.Addr.{Addr}
use Rattle.bosh_base.specs.declared.plan.NetPlan.{NetPlan}
use Rattle.bosh_bands.specs.Least.{least}
use Rattle.bosh_pool.specs.Fixed.{same_addr}

-- the network gives the address in the zone to whoever asks for any, and nobody has it
abbrev pub is_spare : NetPlan → List ℕ → List ℕ → (Addr → Bool) → Addr → Bool
is_spare plan net az used addr = is_dynamic plan net az addr && not (used addr)

-- an address, where there is one, and those after it
abbrev pub with_others : (Addr → List Addr) → Option Addr → List Addr
with_others others None = []
with_others others (Some addr) = addr ∷ others addr

-- the least of them, at most so many, in their order
abbrev pub spares : NetPlan → List ℕ → List ℕ → ℕ → (Addr → Bool) → List Addr
spares plan net az zero used = []
spares plan net az (suc most) used =
    with_others (λ addr. spares plan net az most (λ other. used other || same_addr other addr))
    (least (is_spare plan net az used))
