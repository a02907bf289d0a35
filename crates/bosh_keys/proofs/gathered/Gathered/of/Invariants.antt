use Rattle.std.proofs.Common.{take}
use Rattle.bosh_keys.specs.Once.{IsGathered, each_once}
use Rattle.bosh_keys.specs.Works.{all_works, asked_keys}
use Rattle.bosh_keys.proofs.gathered.Gathered.of.Given as goal

abbrev pub invariant-loop-group : goal.invariant-loop-group
invariant-loop-group l = IsGathered (each_once (all_works (take l.group-index l.groups))) (asked_keys (take l.group-index l.groups)) l.gathered
