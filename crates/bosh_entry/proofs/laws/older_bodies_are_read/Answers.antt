use Rattle.bosh_entry.specs.declared.format.Format.TheVariants.{Older}
use Rattle.bosh_entry.proofs.BodyLemmas.{whole_again}
use Rattle.bosh_entry.proofs.laws.older_bodies_are_read.Goals as goal

pub returns : goal.returns
returns c = whole_again Older
