use Rattle.std.proofs.Common.{◌≡◌, map, take}
use Rattle.bosh_links.specs.Candidate.{provider_of}
use Rattle.bosh_links.proofs.candidate.all_provided.Given as goal

abbrev pub invariant-loop-provider : goal.invariant-loop-provider
invariant-loop-provider l = map provider_of l.candidates.items ≡ take l.provider-index l.providers
