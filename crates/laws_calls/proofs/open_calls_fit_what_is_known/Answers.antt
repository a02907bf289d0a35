use Rattle.laws_calls.proofs.FitLemmas.{fits_kept}
use Rattle.laws_calls.proofs.open_calls_fit_what_is_known.Goals as goal

pub returns : goal.returns
returns c = fits_kept
