use Rattle.std.proofs.Common.{◌≡◌}
use Rattle.bosh_release_files.proofs.folder.folders_below.Given as goal

abbrev pub invariant-loop-name : goal.invariant-loop-name
invariant-loop-name l = l.names.items ≡ l.yielded
