use Rattle.std.proofs.Common.{◌≡◌, drop}
use Rattle.bosh_links.specs.Links.{resolution}
use Rattle.bosh_links.proofs.LinksLemmas.{after}
use Rattle.bosh_links.proofs.resolution.resolve.Given as goal

abbrev pub invariant-loop-consumer : goal.invariant-loop-consumer
invariant-loop-consumer l = resolution l.providers l.consumers ≡ after l.ties.items (resolution l.providers (drop l.consumer-index l.consumers))
