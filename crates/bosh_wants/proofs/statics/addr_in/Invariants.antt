use Rattle.std.proofs.Common.{◌≡◌, drop}
use Rattle.bosh_wants.specs.Statics.{addr_in}
use Rattle.bosh_wants.proofs.statics.addr_in.Given as goal

abbrev pub invariant-loop-band : goal.invariant-loop-band
invariant-loop-band l = addr_in l.bands l.place ≡ addr_in (drop l.band-index l.bands) l.rest
