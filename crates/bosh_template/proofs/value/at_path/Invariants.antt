use Rattle.std.proofs.Common.{◌≡◌, length, Some}
use Rattle.bosh_yaml.specs.View.{tree_of}
use Rattle.bosh_template.specs.Setting.{at_path, path_of}
use Rattle.bosh_template.proofs.value.at_path.Given as goal

abbrev pub invariant-loop-key : goal.invariant-loop-key
invariant-loop-key l = at_path (path_of l.rest) (Some (tree_of l.node)) ≡ at_path (path_of l.fn.name) (Some (tree_of l.fn.node))

abbrev pub decreases-loop-key : goal.decreases-loop-key
decreases-loop-key l = length l.rest
