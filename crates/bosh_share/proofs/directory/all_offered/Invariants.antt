use Rattle.std.proofs.Common.{◌≡◌, map, take}
use Rattle.bosh_links.specs.Candidate.{offered_provider, provider_of}
use Rattle.bosh_share.proofs.directory.all_offered.Given as goal

abbrev pub invariant-loop-offer : goal.invariant-loop-offer
invariant-loop-offer l = map provider_of l.candidates.items ≡ map offered_provider (take l.offer-index l.offers)
