-- What the spec of a job says (bosh.io, "Jobs", "Job specification").
use Rattle.std.specs.Prelude.{ℕ, Bool, false, List, [], ◌∷◌, Option, Some, None, Result, Ok, Err, codes, map}
use Rattle.bosh_base.specs.declared.release.LinkSpec.{LinkSpec}
use Rattle.bosh_base.specs.declared.release.PropSpec.{PropSpec}
use Rattle.bosh_base.specs.declared.release.Setting.{Setting}
use Rattle.bosh_fields.specs.Answer.{◌>>=◌}
use Rattle.bosh_fields.specs.Field.{optional, required, value_at}
use Rattle.bosh_fields.specs.Kind.{Kind, a_flag, a_mapping, a_name, a_text}
use Rattle.bosh_fields.specs.List.{a_list}
use Rattle.bosh_fields.specs.declared.fault.FieldFault.{FieldFault}
use Rattle.bosh_fields.specs.declared.fault.FieldFault.TheVariants.{WrongKind}
use Rattle.bosh_release_specs.specs.Names.{by_name}
use Rattle.bosh_release_specs.specs.declared.job.JobDescription.{JobDescription}
use Rattle.bosh_release_specs.specs.declared.job.TemplatePlace.{TemplatePlace}
use Rattle.bosh_template.specs.Setting.{setting_of}
use Rattle.bosh_yaml.specs.Tree.{Tree, Fields, map as mapping, no_fields, field}

-- an absent list is empty
abbrev pub or_none : {A : Type 0} → Option (List A) → List A
or_none (Some items) = items
or_none None = []

-- the list at a key
abbrev pub list_at : {A : Type 0} → Kind A → List ℕ → Tree → Result (List A) FieldFault
list_at kind key holder = do
  items ← optional (a_list kind) key holder
  Ok (or_none items)

-- the values of a mapping, each of a kind, by their keys in order
abbrev pub each_field : {A : Type 0} → Kind A → Fields → Result (List (List ℕ × A)) FieldFault
each_field kind no_fields = Ok []
each_field kind (field key t more) = do
  first ← kind key t
  others ← each_field kind more
  Ok ((key, first) ∷ others)

abbrev pub a_mapping_of : {A : Type 0} → Kind A → Kind (List (List ℕ × A))
a_mapping_of kind key (mapping fields) = do
  values ← each_field kind fields
  Ok (by_name values)
a_mapping_of kind key t = Err (WrongKind key)

-- the mapping at a key, empty where nothing stands there
abbrev pub fields_at : {A : Type 0} → Kind A → List ℕ → Tree → Result (List (List ℕ × A)) FieldFault
fields_at kind key holder = do
  values ← optional (a_mapping_of kind) key holder
  Ok (or_none values)

-- a property is a mapping, whose default is none where it is null
abbrev pub a_fallback : Kind (Option Setting)
a_fallback key t = do
  item ← a_mapping key t
  Ok (setting_of (value_at (codes "default") item))

abbrev pub template : List ℕ × List ℕ → TemplatePlace
template it = record { source = it.0; destination = it.1 }

abbrev pub property : List ℕ × Option Setting → PropSpec
property it = record { name = it.0; fallback = it.1 }

-- a link that is provided
abbrev pub a_provided_link : Kind LinkSpec
a_provided_link key t = do
  item ← a_mapping key t
  name ← required a_name (codes "name") item
  kind ← required a_text (codes "type") item
  listed ← list_at a_text (codes "properties") item
  Ok (record { name = name; kind = kind; optional = false; properties = listed })

abbrev pub or_false : Option Bool → Bool
or_false (Some flag) = flag
or_false None = false

-- .. and one that is consumed
abbrev pub a_consumed_link : Kind LinkSpec
a_consumed_link key t = do
  item ← a_mapping key t
  name ← required a_name (codes "name") item
  kind ← required a_text (codes "type") item
  flag ← optional a_flag (codes "optional") item
  Ok (record { name = name; kind = kind; optional = or_false flag; properties = [] })

-- the name and the templates, by source
abbrev pub name_and_templates : Tree → Result (List ℕ × List TemplatePlace) FieldFault
name_and_templates item = do
  name ← required a_name (codes "name") item
  templates ← fields_at a_text (codes "templates") item
  Ok (name, map template templates)

-- the packages and the properties, by name
abbrev pub packages_and_properties : Tree → Result (List (List ℕ) × List PropSpec) FieldFault
packages_and_properties item = do
  packages ← list_at a_name (codes "packages") item
  properties ← fields_at a_fallback (codes "properties") item
  Ok (packages, map property properties)

-- the links that are provided, and those that are consumed
abbrev pub links : Tree → Result (List LinkSpec × List LinkSpec) FieldFault
links item = do
  provides ← list_at a_provided_link (codes "provides") item
  consumes ← list_at a_consumed_link (codes "consumes") item
  Ok (provides, consumes)

abbrev pub a_job_spec : Kind JobDescription
a_job_spec key t = do
  item ← a_mapping key t
  first ← name_and_templates item
  second ← packages_and_properties item
  third ← links item
  Ok (record {
    name = first.0;
    templates = first.1;
    packages = second.0;
    properties = second.1;
    provides = third.0;
    consumes = third.1;
  })
