-- What was read is sound.
use Rattle.bosh_yaml.specs.View.{tree_of}
use Rattle.bosh_manifest.proofs.SoundLemmas.{manifest-ok}
use Rattle.bosh_manifest.proofs.checking.named.Goals as goal

pub of-requires : goal.of-requires
of-requires c = manifest-ok c.args.name (tree_of c.args.node.now) _ c.requires c.in_ok-read_manifest.ensures
