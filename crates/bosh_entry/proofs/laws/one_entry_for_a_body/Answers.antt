use Rattle.bosh_entry.specs.declared.format.Format.TheVariants.{Present}
use Rattle.bosh_entry.proofs.BodyLemmas.{same_entry}
use Rattle.bosh_entry.proofs.laws.one_entry_for_a_body.Goals as goal

pub returns : goal.returns
returns c = same_entry Present
