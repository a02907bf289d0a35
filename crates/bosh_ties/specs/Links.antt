-- The links of a deployment: what its jobs provide and consume, and what each consumer is tied to (bosh.io, "Links";
-- "Cross-deployment links").
use Rattle.std.specs.Prelude.{ℕ, false, List, ◌++◌, Option, Some, None, Result, Ok, cond, filter_map, is_none, unwrap_or}
use Rattle.std.specs.List.{flat_map}
use Rattle.bosh_base.specs.declared.link.Joint.{Joint}
use Rattle.bosh_base.specs.declared.link.Tie.{Tie}
use Rattle.bosh_base.specs.declared.offer.DepOffers.{DepOffers}
use Rattle.bosh_base.specs.declared.release.LinkSpec.{LinkSpec}
use Rattle.bosh_links.specs.Links.{resolution}
use Rattle.bosh_links.specs.declared.consumer.Consumer.{Consumer}
use Rattle.bosh_links.specs.declared.consumer.Source.{Source}
use Rattle.bosh_links.specs.declared.consumer.Source.TheVariants.{Implicit, Named, Blocked}
use Rattle.bosh_links.specs.declared.provider.Provider.{Provider}
use Rattle.bosh_manifest_parts.specs.declared.link.Consume.{Consume}
use Rattle.bosh_manifest_parts.specs.declared.link.Offering.{Offering}
use Rattle.bosh_manifest_parts.specs.declared.link.Origin.{Origin}
use Rattle.bosh_manifest_parts.specs.declared.link.Provide.{Provide}
use Rattle.bosh_share.specs.Shared.{across_resolution}
use Rattle.bosh_share.specs.declared.across.Across.{Across}
use Rattle.bosh_manifest_names.specs.Answer.{◌>>=◌, with_fault}
use Rattle.bosh_lookup.specs.Table.{first_named}
use Rattle.bosh_manifest_names.specs.Used.{UsedGroup, UsedJob}
use Rattle.bosh_manifest_names.specs.declared.fault.GoalFault.{GoalFault}
use Rattle.bosh_manifest_names.specs.declared.fault.GoalFault.TheVariants.{Link, Share}

abbrev pub joint_of : List ℕ → List ℕ → UsedJob → LinkSpec → Joint
joint_of dep group job link = record { dep = dep; group = group; job = job.job.name; link = link.name }

-- something of each job, in the order of the manifest; groups without instances take part
abbrev pub of_groups : {A : Type 0} → (List ℕ → List ℕ → UsedJob → List A) → List ℕ → List UsedGroup → List A
of_groups of_job dep groups = flat_map (λ group. flat_map (of_job dep group.group.name) group.jobs) groups

-- ---- providers

-- what the manifest says of a link that a job provides
abbrev pub provide_of : UsedJob → LinkSpec → Option Provide
provide_of job link = first_named (λ provide. provide.link) job.job.provides link.name

-- a link that the manifest does not name is offered under its own name; one that it names may be withdrawn
abbrev pub offering_in : Option Provide → Option Offering
offering_in None = Some (record { alias = None; shared = false })
offering_in (Some provide) = provide.offering

-- its public name is its alias, or its own name where it has none
abbrev pub public_provider : Joint → LinkSpec → Option (List ℕ) → Provider
public_provider joint link alias =
    record { joint = joint; kind = link.kind; public_name = unwrap_or alias link.name }

abbrev pub provider_by : Joint → LinkSpec → Option Offering → Option Provider
provider_by joint link None = None
provider_by joint link (Some offering) = Some (public_provider joint link offering.alias)

abbrev pub provider : Joint → LinkSpec → Option Provide → Option Provider
provider joint link said = provider_by joint link (offering_in said)

abbrev pub job_providers : List ℕ → List ℕ → UsedJob → List Provider
job_providers dep group job =
    filter_map (λ link. provider (joint_of dep group job link) link (provide_of job link)) job.spec.provides

abbrev pub providers : List ℕ → List UsedGroup → List Provider
providers = of_groups job_providers

-- ---- consumers

-- what the manifest says of a link that a job consumes
abbrev pub consume_of : UsedJob → LinkSpec → Option Consume
consume_of job link = first_named (λ consume. consume.link) job.job.consumes link.name

abbrev pub named_or_implicit : Option (List ℕ) → Source
named_or_implicit None = Implicit
named_or_implicit (Some name) = Named name

abbrev pub consumer_from : Joint → LinkSpec → Source → Consumer
consumer_from joint link from = record { joint = joint; kind = link.kind; optional = link.optional; from = from }

-- a consumer of a link of its own deployment
abbrev pub consumer_by : Joint → LinkSpec → Option Origin → Option Consumer
consumer_by joint link None = Some (consumer_from joint link Blocked)
consumer_by joint link (Some origin) =
    cond (is_none origin.deployment) (Some (consumer_from joint link (named_or_implicit origin.from))) None

abbrev pub consumer : Joint → LinkSpec → Option Consume → Option Consumer
consumer joint link None = Some (consumer_from joint link Implicit)
consumer joint link (Some consume) = consumer_by joint link consume.origin

-- a consumer of a link of another deployment
abbrev pub across_from : Joint → LinkSpec → Option (List ℕ) → Option (List ℕ) → Option Across
across_from joint link from None = None
across_from joint link from (Some dep) =
    Some (record { consumer = joint; kind = link.kind; optional = link.optional; dep = dep; from = from })

abbrev pub across_by : Joint → LinkSpec → Option Origin → Option Across
across_by joint link None = None
across_by joint link (Some origin) = across_from joint link origin.from origin.deployment

abbrev pub across : Joint → LinkSpec → Option Consume → Option Across
across joint link None = None
across joint link (Some consume) = across_by joint link consume.origin

abbrev pub job_consumers : List ℕ → List ℕ → UsedJob → List Consumer
job_consumers dep group job =
    filter_map (λ link. consumer (joint_of dep group job link) link (consume_of job link)) job.spec.consumes

abbrev pub consumers : List ℕ → List UsedGroup → List Consumer
consumers = of_groups job_consumers

abbrev pub job_across : List ℕ → List ℕ → UsedJob → List Across
job_across dep group job =
    filter_map (λ link. across (joint_of dep group job link) link (consume_of job link)) job.spec.consumes

abbrev pub all_across : List ℕ → List UsedGroup → List Across
all_across = of_groups job_across

-- ---- ties

abbrev pub own_ties : List ℕ → List UsedGroup → Result (List Tie) GoalFault
own_ties dep groups = with_fault Link (resolution (providers dep groups) (consumers dep groups))

abbrev pub ties_across : List ℕ → List UsedGroup → List DepOffers → Result (List Tie) GoalFault
ties_across dep groups known = with_fault Share (across_resolution known (all_across dep groups))

-- the ties within the deployment, and then those to others
abbrev pub ties : List ℕ → List UsedGroup → List DepOffers → Result (List Tie) GoalFault
ties dep groups known = do
  own ← own_ties dep groups
  others ← ties_across dep groups known
  Ok (own ++ others)
