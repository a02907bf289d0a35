use Rattle.std.proofs.Common.{◌≡◌, take}
use Rattle.bosh_release.specs.Sound.{names_of}
use Rattle.bosh_sound.specs.Places.{texts_of}
use Rattle.bosh_sound.proofs.names.package_names.Given as goal

-- the names so far
abbrev pub invariant-loop-package : goal.invariant-loop-package
invariant-loop-package l = texts_of l.names.items ≡ names_of (take l.package-index l.packages)
