-- What the spec of a package says, and the name of a release (bosh.io, "Packages", "Package specification").
use Rattle.std.specs.Prelude.{ℕ, Bool, List, Option, Some, None, Result, Ok, codes}
use Rattle.bosh_fields.specs.Answer.{◌>>=◌}
use Rattle.bosh_fields.specs.Empty.{nothing_at}
use Rattle.bosh_fields.specs.Field.{required, value_at}
use Rattle.bosh_fields.specs.Kind.{Kind, a_mapping, a_name, a_text}
use Rattle.bosh_fields.specs.declared.fault.FieldFault.{FieldFault}
use Rattle.bosh_release_specs.specs.JobSpec.{list_at}
use Rattle.bosh_release_specs.specs.declared.package_file.PackageDescription.{PackageDescription}
use Rattle.bosh_yaml.specs.Tree.{Tree}

-- files that are left out are not offered
unfoldable pub nothing_excluded : Tree → Result Bool FieldFault
nothing_excluded t = nothing_at (codes "excluded_files") t

abbrev pub a_package_spec : Kind PackageDescription
a_package_spec key t = do
  item ← a_mapping key t
  name ← required a_name (codes "name") item
  dependencies ← list_at a_name (codes "dependencies") item
  files ← list_at a_text (codes "files") item
  none ← nothing_excluded item
  Ok (record { name = name; dependencies = dependencies; files = files })

-- a release is named by `name`, or by `final_name` where that is absent
abbrev pub named_by : Option Tree → Tree → Result (List ℕ) FieldFault
named_by (Some t) item = a_name (codes "name") t
named_by None item = required a_name (codes "final_name") item

abbrev pub a_release : Kind (List ℕ)
a_release key t = do
  item ← a_mapping key t
  named_by (value_at (codes "name") item) item
