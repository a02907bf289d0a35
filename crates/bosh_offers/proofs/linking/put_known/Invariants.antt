use Rattle.std.proofs.Common.{[], drop}
use Rattle.std.specs.List.{flat_map}
use Rattle.bosh_offers.specs.Tied.{AreBySocket, offers_of}
use Rattle.bosh_offers.proofs.linking.put_known.Given as goal

-- the offers of the deployments from the place on are there
abbrev pub invariant-loop-place : goal.invariant-loop-place
invariant-loop-place l =
    AreBySocket (λ offer. offer.joint) (λ offer. offer.kind) [] l.fn.table
    → AreBySocket (λ offer. offer.joint) (λ offer. offer.kind) (flat_map offers_of (drop l.place l.known)) l.table
