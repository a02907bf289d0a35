use Rattle.laws_stands_snapshots.proofs.TellsLemmas.{anew_stands}
use Rattle.laws_stands_snapshots.proofs.anew.records_read_anew_stand.Goals as goal

pub returns : goal.returns
returns c = anew_stands
