-- The least address that is static and reserved, by bands in another order.
use Rattle.std.proofs.Common.{◌≡◌, ◌&&◌, List, sym, ap, ◌∙◌}
use Rattle.std.specs.List.Sorted.{IsPermutation}
use Rattle.std.proofs.lemmas.List.Sorted.{list_any-IsPermutation}
use Rattle.bosh_base.specs.Plan.{is_in_some, is_reserved, is_within}
use Rattle.bosh_base.specs.declared.addr.Addr.{Addr}
use Rattle.bosh_base.specs.declared.addr.Band.{Band}
use Rattle.bosh_base.specs.declared.plan.Subnet.{Subnet}
use Rattle.bosh_bands.specs.Least.{least}
use Rattle.bosh_cloudcfg.specs.Passes.{static_reserved}

pub static_reserved-ordered :
    (subnet : Subnet) (fixed ordered reserved others : List Band) → fixed ≡ subnet.fixed → IsPermutation fixed ordered
    → ((addr : Addr) → is_in_some addr reserved ≡ is_reserved subnet addr) → IsPermutation reserved others
    → least (λ addr. is_in_some addr ordered && is_in_some addr others) ≡ static_reserved subnet
static_reserved-ordered subnet fixed ordered reserved others is_fixed permuted is_reserved_by moved =
    let first : (addr : Addr) → is_in_some addr ordered ≡ is_in_some addr subnet.fixed =
    λ addr. sym (list_any-IsPermutation (λ band. is_within addr band) fixed ordered permuted) ∙ ap (is_in_some addr) is_fixed in
    let second : (addr : Addr) → is_in_some addr others ≡ is_reserved subnet addr =
    λ addr. sym (list_any-IsPermutation (λ band. is_within addr band) reserved others moved) ∙ is_reserved_by addr in
    ap least (λ i addr. first addr i && second addr i)
