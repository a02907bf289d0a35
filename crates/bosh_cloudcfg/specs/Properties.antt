-- What a type of machines or disks asks of the cloud (bosh.io, "Cloud config": `cloud_properties`).
use Rattle.std.specs.Prelude.{ℕ, List, Option, Some, None, codes}
use Rattle.bosh_yaml.specs.Canon.{canon_text}
use Rattle.bosh_yaml.specs.Tree.{Tree, null}
use Rattle.bosh_fields.specs.Field.{value_at}

abbrev pub properties_text : Option Tree → List ℕ
properties_text None = canon_text null
properties_text (Some t) = canon_text t

-- the properties as compact JSON; `null` where there are none
abbrev pub properties : Tree → List ℕ
properties t = properties_text (value_at (codes "cloud_properties") t)
