-- What is proved of permitted histories, put together.
use Rattle.std.proofs.Common.{List}
use Rattle.bosh_base.specs.declared.moves.Move.{Move}
use Rattle.bosh_history.specs.Fit.{IsFit}
use Rattle.bosh_history.specs.Moments.{Opening}
use Rattle.bosh_history.specs.Notes.{Outside}
use Rattle.bosh_history.specs.Permitted.{IsRun}
use Rattle.bosh_lawful.specs.Lawful.{IsLawful}
use Rattle.laws_counted.proofs.HistoryLemmas.{bounded_run}
use Rattle.laws_held.proofs.DoneLemmas.{done_run}
use Rattle.laws_held.proofs.SafeLemmas.{safe_run, tied_run}
use Rattle.laws_runs.proofs.RunLemmas.{links_run, recovered_run}

pub lawful_run : (outside : Outside) (o : Opening) (moves : List Move) → IsFit outside o → IsRun outside o moves →
    IsLawful outside o moves
lawful_run outside o moves fit run = record {
  permitted = run;
  safe = safe_run outside o moves fit run;
  recovered = recovered_run outside o moves run;
  tied = tied_run outside o moves fit run;
  exact = done_run outside o moves fit run;
  links = links_run outside o moves fit run;
  bounded = bounded_run outside o moves fit run;
}
