-- The manifest that a node is, or its first fault.
use Rattle.std.specs.Prelude.{ℕ, List, Result, Ok, Err, codes, if◌then◌else◌}
use Rattle.std.specs.Str.{bytes_eq}
use Rattle.bosh_yaml.specs.Tree.{Tree}
use Rattle.bosh_fields.specs.Field.{required}
use Rattle.bosh_fields.specs.Kind.{a_name}
use Rattle.bosh_fields.specs.declared.fault.FieldFault.{FieldFault}
use Rattle.bosh_manifest.specs.declared.fault.ManifestFault.{ManifestFault}
use Rattle.bosh_manifest.specs.declared.fault.ManifestFault.TheVariants.{NameDiffers}
use Rattle.bosh_manifest.specs.declared.manifest.Contents.{Contents}
use Rattle.bosh_manifest.specs.Answer.{fault_of}
use Rattle.bosh_manifest.specs.Manifest.{a_manifest}

abbrev pub of_fields : {A : Type 0} → Result A FieldFault → Result A ManifestFault
of_fields (Ok value) = Ok value
of_fields (Err fault) = Err (fault_of fault)

-- the name has to be the deployment's
abbrev pub named : List ℕ → Result (List ℕ) FieldFault → Tree → Result Contents ManifestFault
named deployment (Err fault) t = Err (fault_of fault)
named deployment (Ok name) t =
    if bytes_eq name deployment then of_fields (a_manifest name t) else Err (NameDiffers name)

-- the manifest of a deployment
abbrev pub manifest_of : List ℕ → Tree → Result Contents ManifestFault
manifest_of deployment t = named deployment (required a_name (codes "name") t) t
