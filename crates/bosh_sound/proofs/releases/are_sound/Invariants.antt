use Rattle.std.proofs.Common.{take}
use Rattle.std.specs.List.{All}
use Rattle.bosh_alike.specs.Alike.{AreAlike}
use Rattle.bosh_release.specs.Sound.{IsSound}
use Rattle.bosh_sound.proofs.releases.are_sound.Given as goal

-- those so far are sound, and go with one another
abbrev pub invariant-loop-place : goal.invariant-loop-place
invariant-loop-place l = All IsSound (take l.place l.releases) × AreAlike (take l.place l.releases)
