use Rattle.std.proofs.Common.{take}
use Rattle.bosh_book.specs.Folds.{StandAll}
use Rattle.bosh_book.proofs.folding.fold.Given as goal

-- those so far are taken in
abbrev pub invariant-loop-place : goal.invariant-loop-place
invariant-loop-place l = StandAll 0 l.fn.records (take l.place l.entries) l.records
