use Rattle.std.proofs.Common.{◌≡◌, map, take}
use Rattle.bosh_shown.specs.Releases.{package_mark}
use Rattle.bosh_shown.proofs.releases.package_marks.Given as goal

-- those so far
abbrev pub invariant-loop-pack : goal.invariant-loop-pack
invariant-loop-pack l = l.marks.items ≡ map package_mark (take l.pack-index l.packages)
