use Rattle.laws_stands_fits.proofs.EntriesLemmas.{whole_with_room}
use Rattle.laws_stands_fits.proofs.room.what_is_recorded_fits_with_room_for_more.Goals as goal

pub returns : goal.returns
returns c = whole_with_room
