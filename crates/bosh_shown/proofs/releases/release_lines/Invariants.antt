use Rattle.std.proofs.Common.{◌≡◌, map, take}
use Rattle.bosh_shown.specs.Releases.{release_line}
use Rattle.bosh_shown.proofs.releases.release_lines.Given as goal

-- those so far
abbrev pub invariant-loop-release : goal.invariant-loop-release
invariant-loop-release l = l.lines.items ≡ map release_line (take l.release-index l.releases)
