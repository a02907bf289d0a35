use Rattle.std.proofs.Common.{take}
use Rattle.bosh_release_files.specs.Sources.{IsReach}
use Rattle.bosh_release_files.proofs.taking.reach_of.Given as goal

-- the reach of the patterns so far
abbrev pub invariant-loop-pattern : goal.invariant-loop-pattern
invariant-loop-pattern l = IsReach l.files (take l.pattern-index l.patterns) l.reach.items
