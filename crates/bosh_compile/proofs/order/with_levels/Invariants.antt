use Rattle.std.proofs.Common.{◌≡◌, map, take}
use Rattle.bosh_compile.specs.Rounds.{last_level}
use Rattle.bosh_compile.specs.Leveled.{with_level}
use Rattle.bosh_compile.proofs.order.with_levels.Given as goal

-- the works so far stand beside their levels
abbrev pub invariant-loop-place : goal.invariant-loop-place
invariant-loop-place l = l.all.items ≡ map (with_level (last_level l.works)) (take l.place l.works)
