use Rattle.bosh_vars.proofs.SizeLemmas.{made}
use Rattle.bosh_vars.proofs.law.what_is_measured_is_made.Goals as goal

pub returns : goal.returns
returns c = made
