-- The jobs of a group (bosh.io, "Deployment manifest": `jobs` of an instance group).
use Rattle.std.specs.Prelude.{ℕ, List, Option, Some, None, Result, Ok, codes}
use Rattle.bosh_yaml.specs.Tree.{Tree, map, no_fields}
use Rattle.bosh_fields.specs.Answer.{◌>>=◌, both}
use Rattle.bosh_fields.specs.Field.{required, value_at}
use Rattle.bosh_fields.specs.Kind.{a_mapping, a_name}
use Rattle.bosh_fields.specs.declared.fault.FieldFault.{FieldFault}
use Rattle.bosh_manifest_parts.specs.Link.{a_consume, a_provide, links_at}
use Rattle.bosh_manifest_parts.specs.Named.{a_named_list}
use Rattle.bosh_manifest_parts.specs.declared.job.JobUse.{JobUse}
use Rattle.bosh_manifest_parts.specs.declared.link.Consume.{Consume}
use Rattle.bosh_manifest_parts.specs.declared.link.Provide.{Provide}

-- a mapping, which is empty where nothing stands there
abbrev pub properties_from : Option Tree → Result Tree FieldFault
properties_from None = Ok (map no_fields)
properties_from (Some t) = a_mapping (codes "properties") t

abbrev pub properties : Tree → Result Tree FieldFault
properties t = properties_from (value_at (codes "properties") t)

-- the links that a job provides, and those that it consumes
abbrev pub links : List ℕ → Tree → Result (List Provide × List Consume) FieldFault
links own t = both (links_at a_provide (codes "provides") t) (links_at (a_consume own) (codes "consumes") t)

-- a job of a deployment
abbrev pub a_job : List ℕ → List ℕ → Tree → Result JobUse FieldFault
a_job own name t = do
  given ← both (required a_name (codes "release") t) (properties t)
  linked ← links own t
  Ok (record {
    name = name;
    release = given.0;
    properties = given.1;
    provides = linked.0;
    consumes = linked.1;
  })

-- at most 64 jobs
abbrev pub group_jobs : List ℕ → Tree → Result (List JobUse) FieldFault
group_jobs own t = required (a_named_list (a_job own) 64) (codes "jobs") t
