-- Which address each want has.
use Rattle.std.specs.Prelude.{◌&&◌, ◌||◌, Bool, not, List, [], ◌∷◌, Option, Some, None, Result, Ok, Err}
use Rattle.std.specs.List.{list_any}
use Rattle.bosh_base.specs.Plan.{is_dynamic}
use Rattle.bosh_base.specs.declared.addr.Addr.{Addr}
use Rattle.bosh_base.specs.declared.plan.NetPlan.{NetPlan}
use Rattle.bosh_base.specs.declared.view.Held.{Held}
use Rattle.bosh_bands.specs.Least.{first_of, least}
use Rattle.bosh_pool.specs.Fixed.{fixed_faults, is_given, same_addr}
use Rattle.bosh_pool.specs.Kept.{is_taken, own}
use Rattle.bosh_pool.specs.declared.fault.PoolFault.{PoolFault}
use Rattle.bosh_pool.specs.declared.fault.PoolFault.TheVariants.{Empty}
use Rattle.bosh_pool.specs.declared.want.Want.{Want}

-- the least address that is dynamic for a want, and that nobody has
abbrev pub free_for : NetPlan → (Addr → Bool) → Want → Option Addr
free_for plan used want = least (λ addr. is_dynamic plan want.net want.az addr && not (used addr))

-- the address of a want, or the refusal where there is none
abbrev pub placed : Want → Option Addr → Result Addr PoolFault
placed want None = Err (Empty want.net)
placed want (Some addr) = Ok addr

-- the address of a want and those of the others
infixl 10 ◌>>=◌
abbrev pub ◌>>=◌ : {A B : Type 0} → Result A PoolFault → (A → Result B PoolFault) → Result B PoolFault
(Ok a) >>= f = f a
(Err fault) >>= f = Err fault

-- each want has its own address, or else the least that is free for it; what one has no later one is given
abbrev pub given_addresses : NetPlan → (Want → Option Addr) → (Addr → Bool) → List Want → Result (List Addr) PoolFault
given_addresses plan own used [] = Ok []
given_addresses plan own used (want ∷ wants) = do
  addr ← placed want (first_of (own want) (free_for plan used want))
  others ← given_addresses plan own (λ other. used other || same_addr other addr) wants
  Ok (addr ∷ others)

-- an address is held by others, is kept for the deployment, or is one that a want has of its own
abbrev pub is_held : NetPlan → List Held → List Held → List Want → Addr → Bool
is_held plan taken kept wants addr =
    is_taken taken addr || (is_taken kept addr || list_any (λ want. is_given addr (own plan taken kept want)) wants)

abbrev pub unless : Option PoolFault → Result (List Addr) PoolFault → Result (List Addr) PoolFault
unless None answer = answer
unless (Some fault) answer = Err fault

-- the addresses of the wants, in their order, or the first fault
abbrev pub assignment : List Want → NetPlan → List Held → List Held → Result (List Addr) PoolFault
assignment wants plan taken kept =
    unless (fixed_faults plan taken kept [] wants)
    (given_addresses plan (own plan taken kept) (is_held plan taken kept wants) wants)
