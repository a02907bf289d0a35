-- Subnets that have no address in common (bosh.io, "Networks": the ranges of a manual network's subnets do not overlap;
-- that those of other networks do not either is this project's profile).
use Rattle.std.specs.Prelude.{◌≡◌, false, ◌&&◌, List}
use Rattle.std.specs.List.{AllPairs}
use Rattle.bosh_base.specs.Plan.{is_within}
use Rattle.bosh_base.specs.declared.addr.Addr.{Addr}
use Rattle.bosh_base.specs.declared.plan.Subnet.{Subnet}

abbrev pub AreApart : List Subnet → Type 0
AreApart subnets =
    AllPairs (λ one other. (addr : Addr) → (is_within addr one.range && is_within addr other.range) ≡ false) subnets
