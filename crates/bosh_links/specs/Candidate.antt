-- What a consumer may be tied to (bosh.io/docs/links and links-manual; of another deployment, "Cross-deployment links").
use Rattle.bosh_base.specs.declared.offer.Offer.{Offer}
use Rattle.bosh_links.specs.declared.candidate.Candidate.{Candidate}
use Rattle.bosh_links.specs.declared.provider.Provider.{Provider}

-- a candidate as a provider
abbrev pub provider_of : Candidate → Provider
provider_of c = record { joint = c.joint.now; kind = c.kind.now; public_name = c.public_name.now }

-- what another deployment offers, as a provider
abbrev pub offered_provider : Offer → Provider
offered_provider offer = record { joint = offer.joint; kind = offer.kind; public_name = offer.public_name }
