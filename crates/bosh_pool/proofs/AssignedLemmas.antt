-- What is given is assigned.
use Rattle.std.proofs.Common.{◌≡◌, Bool, ◌&&◌, ◌||◌, not, List, [], ◌∷◌, Option, Some, None, Result, Ok, Err, find, refl, sym, subst}
use Rattle.std.specs.Option.{option_map}
use Rattle.bosh_base.specs.Plan.{is_dynamic}
use Rattle.bosh_base.specs.declared.addr.Addr.{Addr}
use Rattle.bosh_base.specs.declared.plan.NetPlan.{NetPlan}
use Rattle.bosh_base.specs.declared.view.Held.{Held}
use Rattle.bosh_bands.specs.Least.{first_of}
use Rattle.bosh_bands.proofs.LeastLemmas.{least-is}
use Rattle.bosh_pool.specs.declared.fault.PoolFault.{PoolFault}
use Rattle.bosh_pool.specs.declared.want.Want.{Want}
use Rattle.bosh_pool.specs.Assigned.{ArePlaced, IsAssigned, IsPlaced}
use Rattle.bosh_pool.specs.Assignment.{◌>>=◌, assignment, free_for, given_addresses, is_held, placed, unless}
use Rattle.bosh_pool.specs.Fixed.{fixed_faults, same_addr}
use Rattle.bosh_pool.specs.Kept.{addr_of, is_kept, own}

some_same : {A : Type 0} {x y : A} → ◌≡◌ {A = Option A} (Some x) (Some y) → x ≡ y
some_same h = cc

-- a want has its place
is_placed : (plan : NetPlan) (used : Addr → Bool) (want : Want) (addr : Addr) (fixed : Option Addr) (entry : Option Held)
    → first_of (first_of fixed (option_map addr_of entry)) (free_for plan used want) ≡ Some addr → IsPlaced plan used want addr fixed entry
is_placed plan used want addr (Some fixed) entry h = sym (some_same h)
is_placed plan used want addr None (Some held) h = sym (some_same h)
is_placed plan used want addr None None h = least-is (λ other. is_dynamic plan want.net want.az other && not (used other)) addr h

pub placed_some : (want : Want) (place : Option Addr) (addr : Addr) → placed want place ≡ Ok addr → place ≡ Some addr
placed_some want None addr h = absurd (cc)
placed_some want (Some a) addr h = cc

pub bind-ok : {A B : Type 0} (read : Result A PoolFault) (f : A → Result B PoolFault) (b : B) → (read >>= f) ≡ Ok b → (a : A) × (read ≡ Ok a) × (f a ≡ Ok b)
bind-ok (Ok a) f b h = (a, refl, h)
bind-ok (Err fault) f b h = absurd (cc)

pub ok_same : {A : Type 0} {x y : A} → ◌≡◌ {A = Result A PoolFault} (Ok x) (Ok y) → x ≡ y
ok_same h = cc

are_placed : (plan : NetPlan) (taken kept : List Held) (used : Addr → Bool) (wants : List Want) (addrs : List Addr)
    → given_addresses plan (own plan taken kept) used wants ≡ Ok addrs → ArePlaced plan taken kept used wants addrs
are_placed plan taken kept used [] addrs h = subst (ArePlaced plan taken kept used []) (ok_same h) tt
are_placed plan taken kept used (want ∷ wants) addrs h =
    let (addr, is_addr, rest) = bind-ok (placed want (first_of (own plan taken kept want) (free_for plan used want)))
    (λ addr. given_addresses plan (own plan taken kept) (λ other. used other || same_addr other addr) wants >>= λ others. Ok (addr ∷ others)) addrs h in
    let (others, is_others, whole) = bind-ok (given_addresses plan (own plan taken kept) (λ other. used other || same_addr other addr) wants) (λ others. Ok (addr ∷ others)) addrs rest in
    let here = is_placed plan used want addr want.fixed (find (is_kept plan taken want) kept) (placed_some want _ addr is_addr) in
    subst (ArePlaced plan taken kept used (want ∷ wants)) (ok_same whole) (here, are_placed plan taken kept (λ other. used other || same_addr other addr) wants others is_others)

pub unless_ok : (fault : Option PoolFault) (answer : Result (List Addr) PoolFault) (addrs : List Addr) → unless fault answer ≡ Ok addrs → answer ≡ Ok addrs
unless_ok None answer addrs h = h
unless_ok (Some fault) answer addrs h = absurd (cc)

pub given-assigned : (wants : List Want) (plan : NetPlan) (taken kept : List Held) (addrs : List Addr) → assignment wants plan taken kept ≡ Ok addrs → IsAssigned wants plan taken kept addrs
given-assigned wants plan taken kept addrs h =
    are_placed plan taken kept (is_held plan taken kept wants) wants addrs (unless_ok (fixed_faults plan taken kept [] wants) _ addrs h)
