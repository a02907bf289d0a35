use Rattle.std.proofs.Common.{◌≡◌, ◌++◌}
use Rattle.bosh_answers.specs.Checks.{orphans_of}
use Rattle.bosh_answers.proofs.check.orphans_of.Given as goal

-- those so far, and those of the others
abbrev pub invariant-loop-disk : goal.invariant-loop-disk
invariant-loop-disk l = l.orphans.items ++ orphans_of l.dep l.disk-iterator ≡ orphans_of l.dep l.records.orphans.places.entries
