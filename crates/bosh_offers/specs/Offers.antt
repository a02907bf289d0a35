-- What the jobs of a deployment offer to those that their links are tied to (bosh.io, "Links"; "Cross-deployment links").
use Rattle.std.specs.Prelude.{ℕ, Bool, true, false, List, [], Option, Some, None, cond, filter_map, option_map}
use Rattle.std.specs.List.{flat_map}
use Rattle.bosh_base.specs.declared.offer.Offer.{Offer}
use Rattle.bosh_base.specs.declared.release.LinkSpec.{LinkSpec}
use Rattle.bosh_base.specs.declared.release.Prop.{Prop}
use Rattle.bosh_base.specs.declared.release.Setting.{Setting}
use Rattle.bosh_links.specs.declared.provider.Provider.{Provider}
use Rattle.bosh_manifest_parts.specs.declared.link.Offering.{Offering}
use Rattle.bosh_manifest_parts.specs.declared.link.Provide.{Provide}
use Rattle.bosh_template.specs.Environment.{JobEnv}
use Rattle.bosh_template.specs.Property.{property_of}
use Rattle.bosh_ties.specs.Links.{joint_of, offering_in, provide_of, provider}
use Rattle.bosh_manifest_names.specs.Used.{UsedJob}
use Rattle.bosh_offers.specs.Sited.{Sited, gateway_addrs}
use Rattle.bosh_offers.specs.declared.offering.Choice.{Choice}
use Rattle.bosh_offers.specs.declared.offering.Choice.TheVariants.{All, Shared}

-- what a job has to give: its own properties
abbrev pub giving : List ℕ → List ℕ → UsedJob → JobEnv
giving dep group used = record {
  dep = dep;
  group = group;
  declared = used.spec.properties;
  given = used.job.properties;
  links = [];
}

abbrev pub named_prop : List ℕ → Setting → Prop
named_prop name value = record { name = name; value = value }

-- a property that has a value
abbrev pub prop_of : JobEnv → List ℕ → Option Prop
prop_of job name = option_map (named_prop name) (property_of job name)

-- those of the properties that a link lists
abbrev pub link_props : JobEnv → LinkSpec → List Prop
link_props job link = filter_map (prop_of job) link.properties

abbrev pub offer_of : Sited → JobEnv → LinkSpec → Provider → Offer
offer_of group job link found = record {
  joint = found.joint;
  kind = found.kind;
  public_name = found.public_name;
  addrs = gateway_addrs group;
  listed = link.properties;
  properties = link_props job link;
}

-- what a job offers by a link that it provides, unless the manifest withdraws the link
abbrev pub offered : List ℕ → Sited → UsedJob → LinkSpec → Option Offer
offered dep group used link =
    option_map (offer_of group (giving dep group.used.group.name used) link)
    (provider (joint_of dep group.used.group.name used link) link (provide_of used link))

-- whether other deployments may take it
abbrev pub shares : Option Offering → Bool
shares None = false
shares (Some offering) = offering.shared

-- all that jobs offer, or what other deployments may take
abbrev pub is_chosen : Choice → Option Provide → Bool
is_chosen All said = true
is_chosen Shared said = shares (offering_in said)

abbrev pub chosen : Choice → List ℕ → Sited → UsedJob → LinkSpec → Option Offer
chosen choice dep group used link = cond (is_chosen choice (provide_of used link)) (offered dep group used link) None

abbrev pub job_offers : Choice → List ℕ → Sited → UsedJob → List Offer
job_offers choice dep group used = filter_map (chosen choice dep group used) used.spec.provides

abbrev pub group_offers : Choice → List ℕ → Sited → List Offer
group_offers choice dep group = flat_map (job_offers choice dep group) group.used.jobs

-- in the order of the manifest; groups without instances take part
abbrev pub offers : Choice → List ℕ → List Sited → List Offer
offers choice dep groups = flat_map (group_offers choice dep) groups
