use Rattle.std.proofs.Common.{◌≡◌, ◌++◌}
use Rattle.bosh_generator.specs.Release.{job_files, packages_files}
use Rattle.bosh_generator.proofs.files.release.Given as goal

-- the packages so far
abbrev pub invariant-loop-pack : goal.invariant-loop-pack
invariant-loop-pack l = l.files.items ≡ job_files ++ packages_files l.pack
