use Rattle.std.proofs.Common.{◌≡◌, drop}
use Rattle.bosh_links.proofs.LinksLemmas.{after}
use Rattle.bosh_share.specs.Shared.{across_resolution}
use Rattle.bosh_share.proofs.resolution.resolve_across.Given as goal

abbrev pub invariant-loop-across : goal.invariant-loop-across
invariant-loop-across l = across_resolution l.known l.list ≡ after l.ties.items (across_resolution l.known (drop l.across-index l.list))
