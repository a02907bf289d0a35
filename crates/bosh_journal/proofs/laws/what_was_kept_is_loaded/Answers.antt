use Rattle.bosh_journal.proofs.LawLemmas.{found_after}
use Rattle.bosh_journal.proofs.laws.what_was_kept_is_loaded.Goals as goal

pub returns : goal.returns
returns g c = found_after g.K.Keeper.bodies g.K.Keeper.faults g.K.Keeper.is_broken
