use Rattle.std.proofs.Common.{◌≡◌, drop}
use Rattle.bosh_answers.specs.Placed.{first_placed}
use Rattle.bosh_answers.proofs.placed.first_placed.Given as goal

-- none so far had the file
abbrev pub invariant-loop-slot : goal.invariant-loop-slot
invariant-loop-slot l = first_placed l.inst l.path (drop l.slot-index l.machines) ≡ first_placed l.inst l.path l.machines
