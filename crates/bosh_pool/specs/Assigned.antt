-- What assigned addresses are, in three sentences: a want whose address the manifest gives has that one; another whose
-- instance keeps one has that; each other has the least address that is dynamic for it and that nobody had before.
use Rattle.std.specs.Prelude.{◌≡◌, ◌&&◌, ◌||◌, not, Bool, List, [], ◌∷◌, Option, Some, None, find}
use Rattle.bosh_base.specs.Plan.{is_dynamic}
use Rattle.bosh_base.specs.declared.addr.Addr.{Addr}
use Rattle.bosh_base.specs.declared.plan.NetPlan.{NetPlan}
use Rattle.bosh_base.specs.declared.view.Held.{Held}
use Rattle.bosh_bands.specs.Least.{IsLeast}
use Rattle.bosh_pool.specs.Assignment.{is_held}
use Rattle.bosh_pool.specs.Fixed.{same_addr}
use Rattle.bosh_pool.specs.Kept.{is_kept}
use Rattle.bosh_pool.specs.declared.want.Want.{Want}

abbrev pub IsPlaced : NetPlan → (Addr → Bool) → Want → Addr → Option Addr → Option Held → Type 0
IsPlaced plan used want addr (Some fixed) entry = addr ≡ fixed
IsPlaced plan used want addr None (Some held) = addr ≡ held.addr
IsPlaced plan used want addr None None =
    IsLeast (λ other. is_dynamic plan want.net want.az other && not (used other)) addr

-- each want after those before it, where nobody may have what is used
abbrev pub ArePlaced : NetPlan → List Held → List Held → (Addr → Bool) → List Want → List Addr → Type 0
ArePlaced plan taken kept used [] [] = Unit {0}
ArePlaced plan taken kept used [] (addr ∷ addrs) = ⊥
ArePlaced plan taken kept used (want ∷ wants) [] = ⊥
ArePlaced plan taken kept used (want ∷ wants) (addr ∷ addrs) =
    IsPlaced plan used want addr want.fixed (find (is_kept plan taken want) kept)
    × ArePlaced plan taken kept (λ other. used other || same_addr other addr) wants addrs

-- used are at first the addresses that others hold, that are kept, and that a want has of its own
abbrev pub IsAssigned : List Want → NetPlan → List Held → List Held → List Addr → Type 0
IsAssigned wants plan taken kept addrs = ArePlaced plan taken kept (is_held plan taken kept wants) wants addrs
