use Rattle.std.proofs.Common.{◌≡◌, drop}
use Rattle.bosh_cloudcfg.specs.Passes.{end_outside, first_in}
use Rattle.bosh_cloudcfg.proofs.place.some_end_outside.Given as goal

-- nothing was found so far
abbrev pub invariant-loop-band : goal.invariant-loop-band
invariant-loop-band l = first_in (end_outside l.range) l.bands ≡ first_in (end_outside l.range) (drop l.band-index l.bands)
