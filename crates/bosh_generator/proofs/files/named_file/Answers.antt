use Rattle.bosh_generator.specs.Release.{named_file}
use Rattle.bosh_generator.proofs.files.named_file.Goals as goal

pub returns : goal.returns
unfolding named_file
returns c = c.file.ensures
