use Rattle.bosh_entry.specs.declared.format.Format.TheVariants.{Present}
use Rattle.bosh_entry.proofs.BodyLemmas.{whole_again}
use Rattle.bosh_entry.proofs.laws.what_is_written_is_read.Goals as goal

pub returns : goal.returns
returns c = whole_again Present
