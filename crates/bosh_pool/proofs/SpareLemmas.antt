-- How spare addresses are found one after another.
use Rattle.std.proofs.Common.{◌≡◌, ◌∙◌, ℕ, suc, Bool, ◌||◌, List, [], ◌∷◌, ◌++◌, Option, Some, None, append_assoc, append-nil, ap, sym}
use Rattle.std.specs.BTreeSet.{BTreeSet}
use Rattle.bosh_base.specs.declared.addr.Addr.{Addr}
use Rattle.bosh_base.specs.declared.plan.NetPlan.{NetPlan}
use Rattle.bosh_bands.specs.Least.{least}
use Rattle.bosh_pool.specs.Fixed.{same_addr}
use Rattle.bosh_pool.specs.Free.{is_used}
use Rattle.bosh_pool.specs.Spare.{is_spare, spares, with_others}

-- one more is found
pub spares-more :
    (plan : NetPlan) (net az : List ℕ) (most : ℕ) (old new : BTreeSet ℕ) (addr : Addr) (addrs : List Addr)
    → least (is_spare plan net az (is_used old)) ≡ Some addr
    → ((other : Addr) → is_used new other ≡ (is_used old other || same_addr other addr))
    → addrs ++ spares plan net az (suc most) (is_used old) ≡ (addrs ++ addr ∷ []) ++ spares plan net az most (is_used new)
spares-more plan net az most old new addr addrs found noted =
    let others : Addr → List Addr = λ next. spares plan net az most (λ other. is_used old other || same_addr other next) in
    ap (λ (next : Option Addr). addrs ++ with_others others next) found
    ∙ (sym (append_assoc addrs (addr ∷ []) (others addr))
    ∙ ap (λ (used : Addr → Bool). (addrs ++ addr ∷ []) ++ spares plan net az most used) (λ j other. sym (noted other) j))

-- none is found
pub spares-end :
    (plan : NetPlan) (net az : List ℕ) (most : ℕ) (used : BTreeSet ℕ) (addrs : List Addr)
    → least (is_spare plan net az (is_used used)) ≡ None
    → addrs ++ spares plan net az (suc most) (is_used used) ≡ addrs
spares-end plan net az most used addrs none =
    let others : Addr → List Addr = λ next. spares plan net az most (λ other. is_used used other || same_addr other next) in
    ap (λ (next : Option Addr). addrs ++ with_others others next) none ∙ append-nil addrs
