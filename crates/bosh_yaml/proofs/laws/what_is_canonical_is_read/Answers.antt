use Rattle.bosh_yaml.proofs.CanonReadLemmas.{canon_is_read}
use Rattle.bosh_yaml.proofs.laws.what_is_canonical_is_read.Goals as goal

pub returns : goal.returns
returns c = canon_is_read
