use Rattle.std.proofs.Common.{◌≡◌, take}
use Rattle.bosh_needed.specs.Marks.{wanted}
use Rattle.bosh_needed.proofs.needs.wanted.Given as goal

abbrev pub invariant-loop-work : goal.invariant-loop-work
invariant-loop-work l = l.all.items ≡ wanted l.marks l.compiled (take l.work-index l.works)
