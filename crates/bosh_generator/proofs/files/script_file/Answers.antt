use Rattle.bosh_generator.specs.Release.{script_file}
use Rattle.bosh_generator.proofs.files.script_file.Goals as goal

pub returns : goal.returns
unfolding script_file
returns c = c.file_of.ensures
