use Rattle.std.proofs.Common.{◌≡◌, map, take}
use Rattle.bosh_instances.specs.Applied.{distinct}
use Rattle.bosh_instances.specs.Known.{AreKnown}
use Rattle.bosh_instances.proofs.known.distinct.Given as goal

abbrev pub invariant-loop-pack : goal.invariant-loop-pack
invariant-loop-pack l =
    AreKnown (distinct (map (λ p. p.now) (take l.pack-index l.packages))) l.known
    × (map (λ p. p.now) l.all.items ≡ distinct (map (λ p. p.now) (take l.pack-index l.packages)))
