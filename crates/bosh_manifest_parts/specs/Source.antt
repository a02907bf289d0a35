-- The releases and stemcells that a deployment uses (bosh.io, "Deployment manifest": `releases` and `stemcells`).
use Rattle.std.specs.Prelude.{ℕ, List, Option, Some, None, Result, Ok, Err, codes, if◌then◌else◌}
use Rattle.std.specs.Fmt.{signed_decimal}
use Rattle.std.specs.Str.{bytes_eq}
use Rattle.bosh_base.specs.Version.{is_version}
use Rattle.bosh_yaml.specs.Tree.{Tree, integer, text}
use Rattle.bosh_fields.specs.Answer.{◌>>=◌, both}
use Rattle.bosh_fields.specs.Distinct.{a_distinct_list, name_in}
use Rattle.bosh_fields.specs.Field.{required}
use Rattle.bosh_fields.specs.Kind.{Kind, a_name}
use Rattle.bosh_fields.specs.List.{no_limit}
use Rattle.bosh_fields.specs.declared.fault.FieldFault.{FieldFault}
use Rattle.bosh_fields.specs.declared.fault.FieldFault.TheVariants.{WrongKind}
use Rattle.bosh_manifest_parts.specs.Unoffered.{absent}
use Rattle.bosh_manifest_parts.specs.declared.source.ReleaseUse.{ReleaseUse}
use Rattle.bosh_manifest_parts.specs.declared.source.StemcellUse.{StemcellUse}

-- the version of a text; `latest` asks for none in particular
abbrev pub version_in : List ℕ → List ℕ → Result (Option (List ℕ)) FieldFault
version_in key s =
    if bytes_eq s (codes "latest") then Ok None
    else if is_version s then Ok (Some s) else Err (WrongKind key)

-- a text, or an integer in decimal
abbrev pub version_text : Kind (List ℕ)
version_text key (text s) = Ok s
version_text key (integer n) = Ok (signed_decimal n)
version_text key t = Err (WrongKind key)

abbrev pub a_version : Kind (Option (List ℕ))
a_version key t = do
  s ← version_text key t
  version_in key s

abbrev pub a_release : List ℕ → Tree → Result ReleaseUse FieldFault
a_release name t = do
  version ← required a_version (codes "version") t
  Ok (record { name = name; version = version })

-- a stemcell is asked for by its operating system; by its name none is offered
abbrev pub a_stemcell : List ℕ → Tree → Result StemcellUse FieldFault
a_stemcell alias t = do
  given ← both (required a_name (codes "os") t) (required a_version (codes "version") t)
  unnamed ← absent (codes "name") t
  Ok (record { alias = alias; os = given.0; version = given.1 })

-- a list of any number of mappings, in which no name stands twice
abbrev pub a_source_list : {A : Type 0} → List ℕ → (List ℕ → Tree → Result A FieldFault) → Kind (List A)
a_source_list name_key item = a_distinct_list (name_in name_key) item no_limit

-- the releases by their names, and the stemcells by their aliases
abbrev pub sources : Tree → Result (List ReleaseUse × List StemcellUse) FieldFault
sources t =
    both (required (a_source_list (codes "name") a_release) (codes "releases") t)
    (required (a_source_list (codes "alias") a_stemcell) (codes "stemcells") t)
