use Rattle.std.proofs.Common.{take}
use Rattle.bosh_share.specs.Directory.{IsDirectory}
use Rattle.bosh_share.proofs.directory.directory_of.Given as goal

abbrev pub invariant-loop-dep : goal.invariant-loop-dep
invariant-loop-dep l = IsDirectory (take l.dep-index l.known) l.directory
