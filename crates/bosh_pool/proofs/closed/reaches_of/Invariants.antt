use Rattle.std.proofs.Common.{◌≡◌, take}
use Rattle.bosh_pool.specs.Closed.{AreReaches, reach}
use Rattle.bosh_pool.proofs.closed.reaches_of.Given as goal

abbrev pub invariant-loop-band : goal.invariant-loop-band
invariant-loop-band l = record {
  far : l.far ≡ reach (take l.band-index l.bands);
  reaches : AreReaches (take l.band-index l.bands) l.reaches.items;
}
