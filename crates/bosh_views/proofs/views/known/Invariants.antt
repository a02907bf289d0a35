use Rattle.std.proofs.Common.{◌≡◌, ◌++◌}
use Rattle.bosh_views.specs.View.{known_of}
use Rattle.bosh_views.proofs.views.known.Given as goal

abbrev pub invariant-loop-row : goal.invariant-loop-row
invariant-loop-row l = l.known.items ++ known_of l.row-iterator ≡ known_of l.records.deployments.places.entries
