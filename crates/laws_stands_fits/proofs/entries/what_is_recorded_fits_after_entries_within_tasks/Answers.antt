use Rattle.laws_stands_fits.proofs.EntriesLemmas.{fits_after}
use Rattle.laws_stands_fits.proofs.entries.what_is_recorded_fits_after_entries_within_tasks.Goals as goal

pub returns : goal.returns
returns c = fits_after
