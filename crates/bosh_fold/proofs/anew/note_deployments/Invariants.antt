use Rattle.std.proofs.Common.{◌≡◌, take}
use Rattle.std.specs.Prelude.{fold}
use Rattle.std.specs.List.{enumerate_from}
use Rattle.bosh_fold.specs.Anew.{deployment_read}
use Rattle.bosh_fold.proofs.anew.note_deployments.Given as goal

abbrev pub invariant-loop-place : goal.invariant-loop-place
invariant-loop-place l =
    l.deployments.places.entries
    ≡ fold deployment_read l.initial.deployments.places.entries (take l.place (enumerate_from 0 l.rows))
