use Rattle.std.proofs.Common.{◌≡◌, ◌++◌, drop}
use Rattle.bosh_offers.specs.Sited.{sites}
use Rattle.bosh_offers.proofs.siting.sites.Given as goal

-- the groups so far, and those that follow, are all of them
abbrev pub invariant-loop-used : goal.invariant-loop-used
invariant-loop-used l = sites l.groups l.addrs ≡ l.all.items ++ sites (drop l.used-index l.groups) l.others
