-- What a check answers: the fault that the rules find, or none.
use Rattle.std.specs.Prelude.{◌≡◌, ◌⊎◌, Result, Ok, Err}
use Rattle.bosh_fields.specs.declared.fault.FieldFault.{FieldFault}
use Rattle.bosh_fields.specs.declared.fault.FieldFault.TheVariants as field
use Rattle.bosh_manifest.specs.declared.fault.ManifestFault.{ManifestFault}
use Rattle.bosh_manifest.specs.declared.fault.ManifestFault.TheVariants.{Missing, WrongKind, Repeated, Unsupported, BadUpdate, Limit, Memory}

-- the texts without the form that their keys take are those of update rules
abbrev pub fault_of : FieldFault → ManifestFault
fault_of (field.Missing key) = Missing key
fault_of (field.WrongKind key) = WrongKind key
fault_of (field.Repeated name) = Repeated name
fault_of (field.Malformed key) = BadUpdate key
fault_of (field.Unsupported key) = Unsupported key
fault_of (field.Limit key) = Limit key
fault_of field.Memory = Memory

-- a call's answer is the one that the rules give, or want of memory
abbrev pub IsAnswer : {A : Type 0} → Result A ManifestFault → Result A ManifestFault → Type 0
IsAnswer (Ok value) answer = answer ≡ Ok value
IsAnswer (Err fault) answer = (fault ≡ Memory) ⊎ (answer ≡ Err fault)
