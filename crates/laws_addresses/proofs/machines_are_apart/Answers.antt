use Rattle.laws_addresses.proofs.ApartLemmas.{all_apart}
use Rattle.laws_addresses.proofs.machines_are_apart.Goals as goal

pub returns : goal.returns
returns c = all_apart
