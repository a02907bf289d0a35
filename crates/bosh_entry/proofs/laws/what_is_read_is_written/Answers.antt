use Rattle.bosh_entry.specs.declared.format.Format.TheVariants.{Present}
use Rattle.bosh_entry.proofs.BodyLemmas.{whole_takes}
use Rattle.bosh_entry.proofs.laws.what_is_read_is_written.Goals as goal

pub returns : goal.returns
returns c = whole_takes Present
