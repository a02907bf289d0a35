-- The name of a manifest is one.
use Rattle.bosh_yaml.specs.View.{tree_of}
use Rattle.bosh_manifest.proofs.SoundLemmas.{name-ok}
use Rattle.bosh_manifest.proofs.checking.check.Goals as goal

pub named-requires : goal.named-requires
named-requires c = name-ok (tree_of c.args.node.now) _ c.in_ok-name.ensures
