use Rattle.laws_stands_snapshots.proofs.TellsLemmas.{anew_fits}
use Rattle.laws_stands_snapshots.proofs.anew.records_read_anew_fit.Goals as goal

pub returns : goal.returns
returns c = anew_fits
