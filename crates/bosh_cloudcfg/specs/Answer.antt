-- What a check answers: the fault that the rules find, or none.
use Rattle.std.specs.Prelude.{◌≡◌, ◌⊎◌, Option, Some, None, Result, Ok, Err}
use Rattle.bosh_fields.specs.declared.fault.FieldFault.{FieldFault}
use Rattle.bosh_fields.specs.declared.fault.FieldFault.TheVariants as field
use Rattle.bosh_cloudcfg.specs.declared.fault.ConfigFault.{ConfigFault}
use Rattle.bosh_cloudcfg.specs.declared.fault.ConfigFault.TheVariants.{Missing, WrongKind, Repeated, Address, Unsupported, Limit, Memory}

-- the texts without the form that their keys take are those of addresses
abbrev pub fault_of : FieldFault → ConfigFault
fault_of (field.Missing key) = Missing key
fault_of (field.WrongKind key) = WrongKind key
fault_of (field.Repeated name) = Repeated name
fault_of (field.Malformed key) = Address key
fault_of (field.Unsupported key) = Unsupported key
fault_of (field.Limit key) = Limit key
fault_of field.Memory = Memory

-- a call's answer is the one that the rules give, or want of memory
abbrev pub IsAnswer : {A : Type 0} → Result A ConfigFault → Result A ConfigFault → Type 0
IsAnswer (Ok value) answer = answer ≡ Ok value
IsAnswer (Err fault) answer = (fault ≡ Memory) ⊎ (answer ≡ Err fault)

-- a test passes where the rules find no fault, and refuses with the fault that they find, or for want of memory
abbrev pub IsTest : {A : Type 0} → Result A ConfigFault → Option ConfigFault → Type 0
IsTest (Ok passed) found = found ≡ None
IsTest (Err fault) found = (fault ≡ Memory) ⊎ (found ≡ Some fault)
