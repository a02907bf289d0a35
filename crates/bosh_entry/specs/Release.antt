-- How releases are spelled.
use Rattle.std.specs.Prelude.{ℕ, Bool, true, List, ◌&&◌, [], ◌∷◌, ◌++◌}
use Rattle.bosh_base.specs.Name.{is_name}
use Rattle.bosh_base.specs.declared.release.Setting.{Setting}
use Rattle.bosh_base.specs.declared.release.Setting.TheVariants.{Scalar, Compound}
use Rattle.bosh_base.specs.declared.release.Prop.{Prop}
use Rattle.bosh_base.specs.declared.release.PropSpec.{PropSpec}
use Rattle.bosh_base.specs.declared.release.LinkSpec.{LinkSpec}
use Rattle.bosh_base.specs.declared.release.TemplateSpec.{TemplateSpec}
use Rattle.bosh_base.specs.declared.release.JobSpec.{JobSpec}
use Rattle.bosh_base.specs.declared.release.PackageSpec.{PackageSpec}
use Rattle.bosh_base.specs.declared.release.Release.{Release}
use Rattle.bosh_entry.specs.Reading.{Reader, making, one_of_at, ◌with◌}
use Rattle.bosh_entry.specs.Choice.{flag, is_flag, flag_at, option, is_option, option_at}
use Rattle.bosh_entry.specs.List.{text, is_text, text_at, list, is_list, list_at}
use Rattle.bosh_entry.specs.Plain.{name_at, digest, is_digest, digest_at}

-- the value of a property
unfoldable pub setting : Setting → List ℕ
setting (Scalar t) = 0 ∷ text t
setting Compound = 1 ∷ []

unfoldable pub is_setting : Setting → Bool
is_setting (Scalar t) = is_text t
is_setting Compound = true

abbrev pub settings : List (Reader Setting)
settings =
    making Scalar with text_at
    ∷ making Compound
    ∷ []

unfoldable pub setting_at : Reader Setting
setting_at = one_of_at settings

-- a property that has a value
unfoldable pub prop : Prop → List ℕ
prop p = text p.name ++ setting p.value

unfoldable pub is_prop : Prop → Bool
is_prop p = is_text p.name && is_setting p.value

unfoldable pub prop_at : Reader Prop
prop_at = making (λ name value. record { name = name; value = value }) with text_at with setting_at

-- a property that a job declares
unfoldable pub prop_spec : PropSpec → List ℕ
prop_spec p = text p.name ++ option setting p.fallback

unfoldable pub is_prop_spec : PropSpec → Bool
is_prop_spec p = is_text p.name && is_option is_setting p.fallback

unfoldable pub prop_spec_at : Reader PropSpec
prop_spec_at =
    making (λ name fallback. record {
      name = name;
      fallback = fallback;
    })
    with text_at
    with option_at setting_at

-- a link that a job provides or consumes
unfoldable pub link_spec : LinkSpec → List ℕ
link_spec l = text l.name ++ text l.kind ++ flag l.optional ++ list text l.properties

unfoldable pub is_link_spec : LinkSpec → Bool
is_link_spec l =
    is_name l.name
    && is_text l.kind
    && is_flag l.optional
    && is_list is_text l.properties

unfoldable pub link_spec_at : Reader LinkSpec
link_spec_at =
    making (λ name kind optional properties. record {
      name = name;
      kind = kind;
      optional = optional;
      properties = properties;
    })
    with name_at
    with text_at
    with flag_at
    with list_at text_at

-- a template of a job
unfoldable pub template_spec : TemplateSpec → List ℕ
template_spec t = text t.source ++ text t.destination ++ text t.text

unfoldable pub is_template_spec : TemplateSpec → Bool
is_template_spec t = is_text t.source && is_text t.destination && is_text t.text

unfoldable pub template_spec_at : Reader TemplateSpec
template_spec_at =
    making (λ source destination text. record {
      source = source;
      destination = destination;
      text = text;
    })
    with text_at
    with text_at
    with text_at

-- a job of a release
unfoldable pub job_spec : JobSpec → List ℕ
job_spec j =
    text j.name
    ++ digest j.fingerprint
    ++ list template_spec j.templates
    ++ list text j.packages
    ++ list prop_spec j.properties
    ++ list link_spec j.provides
    ++ list link_spec j.consumes

unfoldable pub is_job_spec : JobSpec → Bool
is_job_spec j =
    is_name j.name
    && is_digest j.fingerprint
    && is_list is_template_spec j.templates
    && is_list is_name j.packages
    && is_list is_prop_spec j.properties
    && is_list is_link_spec j.provides
    && is_list is_link_spec j.consumes

unfoldable pub job_spec_at : Reader JobSpec
job_spec_at =
    making (λ name fingerprint templates packages properties provides consumes. record {
      name = name;
      fingerprint = fingerprint;
      templates = templates;
      packages = packages;
      properties = properties;
      provides = provides;
      consumes = consumes;
    })
    with name_at
    with digest_at
    with list_at template_spec_at
    with list_at name_at
    with list_at prop_spec_at
    with list_at link_spec_at
    with list_at link_spec_at

-- a package of a release
unfoldable pub package_spec : PackageSpec → List ℕ
package_spec p = text p.name ++ digest p.fingerprint ++ list text p.deps

unfoldable pub is_package_spec : PackageSpec → Bool
is_package_spec p = is_name p.name && is_digest p.fingerprint && is_list is_name p.deps

unfoldable pub package_spec_at : Reader PackageSpec
package_spec_at =
    making (λ name fingerprint deps. record {
      name = name;
      fingerprint = fingerprint;
      deps = deps;
    })
    with name_at
    with digest_at
    with list_at name_at

-- a release
unfoldable pub release : Release → List ℕ
release r = text r.name ++ text r.version ++ list job_spec r.jobs ++ list package_spec r.packages

unfoldable pub is_release : Release → Bool
is_release r =
    is_name r.name
    && is_text r.version
    && is_list is_job_spec r.jobs
    && is_list is_package_spec r.packages

unfoldable pub release_at : Reader Release
release_at =
    making (λ name version jobs packages. record {
      name = name;
      version = version;
      jobs = jobs;
      packages = packages;
    })
    with name_at
    with text_at
    with list_at job_spec_at
    with list_at package_spec_at
