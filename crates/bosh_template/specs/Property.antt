-- The values of a job's properties (bosh.io/docs/jobs, "Properties"; bosh.io/docs/links, what a provider shares).
use Rattle.std.specs.Prelude.{ℕ, List, Option, Some, None, find}
use Rattle.std.specs.Str.{bytes_eq}
use Rattle.bosh_base.specs.declared.release.PropSpec.{PropSpec}
use Rattle.bosh_base.specs.declared.release.Setting.{Setting}
use Rattle.bosh_template.specs.Environment.{JobEnv}
use Rattle.bosh_template.specs.Setting.{given_setting, or_else}

-- the default of a property that is declared
abbrev pub default_of : Option PropSpec → Option Setting
default_of None = None
default_of (Some spec) = spec.fallback

-- what the manifest gives at the dotted path, else the default
abbrev pub property_of : JobEnv → List ℕ → Option Setting
property_of job name =
    or_else (given_setting name job.given) (default_of (find (λ spec. bytes_eq spec.name name) job.declared))
