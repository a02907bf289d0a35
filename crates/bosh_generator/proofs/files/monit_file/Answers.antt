use Rattle.bosh_generator.specs.Release.{monit_file}
use Rattle.bosh_generator.proofs.files.monit_file.Goals as goal

pub returns : goal.returns
unfolding monit_file
returns c = c.file.ensures
