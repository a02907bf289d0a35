use Rattle.std.proofs.Common.{◌≡◌, map, take}
use Rattle.bosh_session.specs.Running.{running_in}
use Rattle.bosh_session.proofs.together.with_places.Given as goal

-- the tasks so far have their places
abbrev pub invariant-loop-it : goal.invariant-loop-it
invariant-loop-it l = map running_in l.placed.items ≡ take l.it-index l.running
