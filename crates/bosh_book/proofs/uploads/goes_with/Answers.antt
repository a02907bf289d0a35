use Rattle.bosh_book.proofs.uploads.goes_with.Goals as goal

pub are_sound_with-requires : goal.are_sound_with-requires
are_sound_with-requires c = (c.in_ok-are_sound.ensures.yes c.in-true.is).1
