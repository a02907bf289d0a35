use Rattle.bosh_release_files.proofs.PathLemmas.{NoSlashBelow}
use Rattle.bosh_release_files.proofs.path.first_folder.Given as goal

-- there is no slash so far
abbrev pub invariant-loop-place : goal.invariant-loop-place
invariant-loop-place l = NoSlashBelow l.path l.place
