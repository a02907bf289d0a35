use Rattle.std.proofs.Common.{◌≡◌, ◌++◌, take, drop, map}
use Rattle.bosh_fates.specs.Fates.{nearer}
use Rattle.bosh_fates.proofs.fate.near_all.Given as goal

abbrev pub invariant-loop-doom : goal.invariant-loop-doom
invariant-loop-doom l = l.doom-items ≡ map (nearer l.method l.owner) (take l.doom-index l.initial.doom-items) ++ drop l.doom-index l.initial.doom-items
