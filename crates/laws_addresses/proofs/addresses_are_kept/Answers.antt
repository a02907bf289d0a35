use Rattle.laws_addresses.proofs.AddressLemmas.{addresses_kept}
use Rattle.laws_addresses.proofs.addresses_are_kept.Goals as goal

pub returns : goal.returns
returns c = addresses_kept
