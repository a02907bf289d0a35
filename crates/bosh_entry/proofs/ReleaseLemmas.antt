-- What is read is what was spelled.
use Rattle.std.proofs.Common.{◌≡◌, ℕ, true, List, ◌++◌, Some, refl}
use Rattle.bosh_base.specs.declared.release.Setting.{Setting}
use Rattle.bosh_base.specs.declared.release.Setting.TheVariants.{Scalar, Compound}
use Rattle.bosh_base.specs.declared.release.Prop.{Prop}
use Rattle.bosh_base.specs.declared.release.PropSpec.{PropSpec}
use Rattle.bosh_base.specs.declared.release.LinkSpec.{LinkSpec}
use Rattle.bosh_base.specs.declared.release.TemplateSpec.{TemplateSpec}
use Rattle.bosh_base.specs.declared.release.JobSpec.{JobSpec}
use Rattle.bosh_base.specs.declared.release.PackageSpec.{PackageSpec}
use Rattle.bosh_base.specs.declared.release.Release.{Release}
use Rattle.bosh_entry.specs.Reading.{one_of_at}
use Rattle.bosh_entry.specs.Release.{setting, is_setting, setting_at, settings, prop, is_prop, prop_at, prop_spec, is_prop_spec, prop_spec_at, link_spec, is_link_spec, link_spec_at, template_spec, is_template_spec, template_spec_at, job_spec, is_job_spec, job_spec_at, package_spec, is_package_spec, package_spec_at, release, is_release, release_at}
use Rattle.bosh_entry.proofs.CodingLemmas.{IsCoding, making_law, struct_law, ◌and◌}
use Rattle.bosh_entry.proofs.VariantLemmas.{AreVariants, variant_law, one_of_law}
use Rattle.bosh_entry.proofs.ChoiceLemmas.{flag_law, option_law}
use Rattle.bosh_entry.proofs.ListLemmas.{text_law, list_law}
use Rattle.bosh_entry.proofs.PlainLemmas.{name_law, digest_law}

setting_again : (x : Setting) (rest : List ℕ) → is_setting x ≡ true → one_of_at settings (setting x ++ rest) ≡ Some (x, rest)
unfolding setting is_setting
setting_again (Scalar t) rest h = (making_law Scalar and text_law).again (tt, t) rest h
setting_again Compound rest h = (making_law Compound).again tt rest h

settings_are : AreVariants setting is_setting 0 settings
unfolding setting is_setting
settings_are = (
  variant_law (making_law Scalar and text_law) (λ p. refl) (λ p. refl),
  (variant_law (making_law Compound) (λ p. refl) (λ p. refl), tt),
)

pub setting_law : IsCoding setting is_setting setting_at
unfolding setting_at
setting_law = one_of_law settings settings_are (λ x. setting_again x)

pub prop_law : IsCoding prop is_prop prop_at
unfolding prop is_prop prop_at
prop_law = struct_law (λ (p : Prop). ((tt, p.name), p.value)) (λ p. refl) (λ x. refl) (making_law (λ name value. record { name = name; value = value }) and text_law and setting_law)

pub prop_spec_law : IsCoding prop_spec is_prop_spec prop_spec_at
unfolding prop_spec is_prop_spec prop_spec_at
prop_spec_law = struct_law (λ (p : PropSpec). ((tt, p.name), p.fallback)) (λ p. refl) (λ x. refl) (making_law (λ name fallback. record { name = name; fallback = fallback }) and text_law and option_law setting_law)

pub link_spec_law : IsCoding link_spec is_link_spec link_spec_at
unfolding link_spec is_link_spec link_spec_at
link_spec_law = struct_law (λ (l : LinkSpec). ((((tt, l.name), l.kind), l.optional), l.properties)) (λ p. refl) (λ x. refl) (making_law (λ name kind optional properties. record { name = name; kind = kind; optional = optional; properties = properties }) and name_law and text_law and flag_law and list_law text_law)

pub template_spec_law : IsCoding template_spec is_template_spec template_spec_at
unfolding template_spec is_template_spec template_spec_at
template_spec_law = struct_law (λ (t : TemplateSpec). (((tt, t.source), t.destination), t.text)) (λ p. refl) (λ x. refl) (making_law (λ source destination text. record { source = source; destination = destination; text = text }) and text_law and text_law and text_law)

pub job_spec_law : IsCoding job_spec is_job_spec job_spec_at
unfolding job_spec is_job_spec job_spec_at
job_spec_law = struct_law (λ (j : JobSpec). (((((((tt, j.name), j.fingerprint), j.templates), j.packages), j.properties), j.provides), j.consumes)) (λ p. refl) (λ x. refl) (making_law (λ name fingerprint templates packages properties provides consumes. record { name = name; fingerprint = fingerprint; templates = templates; packages = packages; properties = properties; provides = provides; consumes = consumes }) and name_law and digest_law and list_law template_spec_law and list_law name_law and list_law prop_spec_law and list_law link_spec_law and list_law link_spec_law)

pub package_spec_law : IsCoding package_spec is_package_spec package_spec_at
unfolding package_spec is_package_spec package_spec_at
package_spec_law = struct_law (λ (p : PackageSpec). (((tt, p.name), p.fingerprint), p.deps)) (λ p. refl) (λ x. refl) (making_law (λ name fingerprint deps. record { name = name; fingerprint = fingerprint; deps = deps }) and name_law and digest_law and list_law name_law)

pub release_law : IsCoding release is_release release_at
unfolding release is_release release_at
release_law = struct_law (λ (r : Release). ((((tt, r.name), r.version), r.jobs), r.packages)) (λ p. refl) (λ x. refl) (making_law (λ name version jobs packages. record { name = name; version = version; jobs = jobs; packages = packages }) and name_law and text_law and list_law job_spec_law and list_law package_spec_law)
