use Rattle.std.proofs.Common.{◌≡◌, ◌+◌, drop}
use Rattle.bosh_offers.specs.Sited.{gateway_place}
use Rattle.bosh_offers.proofs.gateway.gateway_place.Given as goal

-- no network so far has the gateway
abbrev pub invariant-loop-place : goal.invariant-loop-place
invariant-loop-place l = gateway_place l.networks ≡ l.place + gateway_place (drop l.place l.networks)
