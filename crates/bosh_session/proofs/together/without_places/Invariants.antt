use Rattle.std.proofs.Common.{◌≡◌, map, take}
use Rattle.bosh_session.specs.Running.{running_in}
use Rattle.bosh_session.proofs.together.without_places.Given as goal

-- the tasks so far
abbrev pub invariant-loop-it : goal.invariant-loop-it
invariant-loop-it l = l.running.items ≡ map running_in (take l.it-index l.placed)
