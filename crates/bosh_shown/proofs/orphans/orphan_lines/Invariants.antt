use Rattle.std.proofs.Common.{◌≡◌, ◌++◌}
use Rattle.bosh_shown.specs.Orphans.{orphan_lines}
use Rattle.bosh_shown.proofs.orphans.orphan_lines.Given as goal

-- those so far, and those of the others
abbrev pub invariant-loop-it : goal.invariant-loop-it
invariant-loop-it l = l.lines.items ++ orphan_lines l.it-iterator ≡ orphan_lines l.records.orphans.places.entries
