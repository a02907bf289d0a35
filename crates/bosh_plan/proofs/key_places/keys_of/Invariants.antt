use Rattle.std.proofs.Common.{◌≡◌, map, take}
use Rattle.bosh_plan.proofs.key_places.keys_of.Given as goal

abbrev pub invariant-loop-work : goal.invariant-loop-work
invariant-loop-work l = l.found.items ≡ map (λ work. work.key) (take l.work-index l.works)
