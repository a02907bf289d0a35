-- The files of an instance (bosh.io/docs/job-templates; a file lies below the folder of its job).
use Rattle.std.specs.Prelude.{ℕ, List, [], ◌∷◌, ◌++◌, codes, length, Result, Ok, Err}
use Rattle.bosh_base.specs.declared.addr.Addr.{Addr}
use Rattle.bosh_base.specs.declared.release.TemplateSpec.{TemplateSpec}
use Rattle.bosh_base.specs.declared.spec.Placed.{Placed}
use Rattle.bosh_template.specs.Environment.{Env, JobEnv}
use Rattle.bosh_template.specs.Rendering.{rendered}
use Rattle.bosh_template.specs.declared.fault.TemplateFault.{TemplateFault}
use Rattle.bosh_template.specs.declared.template.Part.{Part}
use Rattle.bosh_files.specs.Gathered.{gather}
use Rattle.bosh_files.specs.Parsed.{parts_in}

-- a job whose files an instance has, with what its templates look up in any instance
pub record FiledJob : Type 0 where
  pub name : List ℕ
  pub templates : List TemplateSpec
  pub env : JobEnv

abbrev pub rendered_parts : Env → Result (List Part) TemplateFault → Result (List ℕ) TemplateFault
rendered_parts env (Ok parts) = rendered (record { parts = parts }) env
rendered_parts env (Err fault) = Err fault

-- the text of a template for an instance
abbrev pub text_for : Env → List ℕ → Result (List ℕ) TemplateFault
text_for env text = rendered_parts env (parts_in text)

-- where the file of a template of a job lies
abbrev pub path_of : List ℕ → List ℕ → List ℕ
path_of job destination = codes "jobs/" ++ (job ++ (codes "/" ++ destination))

abbrev pub placed : List ℕ → TemplateSpec → Result (List ℕ) TemplateFault → Result (List Placed) TemplateFault
placed job template (Ok text) = Ok (record { path = path_of job template.destination; text = text } ∷ [])
placed job template (Err fault) = Err fault

abbrev pub file : List ℕ → Env → TemplateSpec → Result (List Placed) TemplateFault
file job env template = placed job template (text_for env template.text)

-- those of a job, by its templates
abbrev pub job_files : List ℕ → Env → List TemplateSpec → Result (List Placed) TemplateFault
job_files job env templates = gather (file job env) templates

-- an instance, by its index in its group, its availability zone and its address on the gateway's network
abbrev pub env_at : ℕ → List ℕ → Addr → JobEnv → Env
env_at index az addr job = record { job = job; index = index; az = az; addr = addr }

-- those of an instance, job by job
abbrev pub files : ℕ → List ℕ → Addr → List FiledJob → Result (List Placed) TemplateFault
files index az addr jobs =
    gather (λ job. job_files job.name (env_at index az addr job.env) job.templates) jobs

-- the bytes of a file
abbrev pub bytes_of : Placed → ℕ
bytes_of file = length file.text
