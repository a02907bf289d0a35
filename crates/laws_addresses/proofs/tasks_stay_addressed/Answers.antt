use Rattle.laws_addresses.proofs.AddressedLemmas.{addressed_kept}
use Rattle.laws_addresses.proofs.tasks_stay_addressed.Goals as goal

pub returns : goal.returns
returns c = addressed_kept
