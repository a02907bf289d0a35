use Rattle.bosh_generator.specs.Release.{job_file}
use Rattle.bosh_generator.proofs.files.job_file.Goals as goal

pub returns : goal.returns
unfolding job_file
returns c = c.file.ensures
