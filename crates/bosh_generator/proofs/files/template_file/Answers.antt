use Rattle.bosh_generator.specs.Release.{template_file}
use Rattle.bosh_generator.proofs.files.template_file.Goals as goal

pub returns : goal.returns
unfolding template_file
returns c = c.file.ensures
