-- What a call answers, and what a test does.
use Rattle.std.specs.Prelude.{◌≡◌, ◌⊎◌, Option, Some, None, Result, Ok, Err}
use Rattle.bosh_pool.specs.declared.fault.PoolFault.{PoolFault}
use Rattle.bosh_pool.specs.declared.fault.PoolFault.TheVariants.{Memory}

-- a call's answer is the one that the rules give, or want of memory
abbrev pub IsAnswer : {A : Type 0} → Result A PoolFault → Result A PoolFault → Type 0
IsAnswer (Ok value) answer = answer ≡ Ok value
IsAnswer (Err fault) answer = (fault ≡ Memory) ⊎ (answer ≡ Err fault)

-- a test passes where the rules find no fault, and refuses with the fault that they find, or for want of memory
abbrev pub IsTest : {A : Type 0} → Result A PoolFault → Option PoolFault → Type 0
IsTest (Ok passed) found = found ≡ None
IsTest (Err fault) found = (fault ≡ Memory) ⊎ (found ≡ Some fault)
