use Rattle.bosh_release_files.proofs.PathLemmas.{NoSlashFrom}
use Rattle.bosh_release_files.proofs.path.folder_of.Given as goal

-- there is no slash from the place on
abbrev pub invariant-loop-place : goal.invariant-loop-place
invariant-loop-place l = NoSlashFrom l.path l.place
