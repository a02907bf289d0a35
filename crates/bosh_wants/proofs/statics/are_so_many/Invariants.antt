use Rattle.std.proofs.Common.{◌≡◌, ◌+◌, drop, sum_by}
use Rattle.bosh_wants.specs.Statics.{size_of}
use Rattle.bosh_wants.proofs.statics.are_so_many.Given as goal

-- the rest is what the bands so far leave of the count
abbrev pub invariant-loop-band : goal.invariant-loop-band
invariant-loop-band l =
    sum_by size_of l.bands + l.rest ≡ l.count + sum_by size_of (drop l.band-index l.bands)
