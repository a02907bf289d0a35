use Rattle.std.proofs.Common.{◌≡◌, ◌++◌, take}
use Rattle.bosh_ties.proofs.tying.add_all.Given as goal

abbrev pub invariant-loop-tie : goal.invariant-loop-tie
invariant-loop-tie l = l.ties ≡ l.initial.ties ++ take l.tie-index l.others
