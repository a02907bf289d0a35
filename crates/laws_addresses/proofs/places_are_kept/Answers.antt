use Rattle.laws_addresses.proofs.PlaceLemmas.{places_kept}
use Rattle.laws_addresses.proofs.places_are_kept.Goals as goal

pub returns : goal.returns
returns c = places_kept
