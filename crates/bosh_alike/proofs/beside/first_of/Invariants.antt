use Rattle.std.proofs.Common.{◌≡◌, drop}
use Rattle.bosh_alike.specs.Search.{first_of}
use Rattle.bosh_alike.proofs.beside.first_of.Given as goal

-- none was found so far
abbrev pub invariant-loop-release : goal.invariant-loop-release
invariant-loop-release l = first_of (drop l.release-index l.releases) l.print ≡ first_of l.releases l.print
