-- What no permitted history does, from its fit pair on.
use Rattle.std.proofs.Common.{List}
use Rattle.bosh_base.specs.declared.moves.Move.{Move}
use Rattle.bosh_history.specs.CompileKeys.{compiles_once}
use Rattle.bosh_history.specs.Deletions.{is_deletion_asked}
use Rattle.bosh_history.specs.Each.{EachMove, durable_well, noted_well}
use Rattle.bosh_history.specs.Fit.{IsFit}
use Rattle.bosh_history.specs.Links.{AreLinksKept}
use Rattle.bosh_history.specs.Moments.{Opening, beginning}
use Rattle.bosh_history.specs.Notes.{Outside}
use Rattle.bosh_history.specs.Permitted.{IsRun}
use Rattle.bosh_history.specs.Phases.{in_phase}
use Rattle.bosh_history.specs.Recovered.{IsRecovered}
use Rattle.bosh_history.specs.Rolling.{rolls_on}
use Rattle.laws_runs.proofs.DeletionLemmas.{deletions_each}
use Rattle.laws_runs.proofs.ReadLemmas.{fit_facts}
use Rattle.laws_runs.proofs.SafeLemmas.{compiles_each, each_along, links_along, phases_each, recovered_along, rolls_each}

pub recovered_run : (outside : Outside) (o : Opening) (moves : List Move) → IsRun outside o moves → IsRecovered o moves
recovered_run outside o moves run = recovered_along outside (beginning o) moves run

pub deletions_run : (outside : Outside) (o : Opening) (moves : List Move) → IsFit outside o → IsRun outside o moves
    → EachMove is_deletion_asked (beginning o) moves
deletions_run outside o moves fit run =
    each_along outside is_deletion_asked (deletions_each outside) (beginning o) moves run (fit_facts outside o fit)

pub phases_run : (outside : Outside) (o : Opening) (moves : List Move) → IsFit outside o → IsRun outside o moves
    → EachMove (noted_well in_phase) (beginning o) moves
phases_run outside o moves fit run =
    each_along outside (noted_well in_phase) (phases_each outside) (beginning o) moves run (fit_facts outside o fit)

pub rolls_run : (outside : Outside) (o : Opening) (moves : List Move) → IsFit outside o → IsRun outside o moves
    → EachMove rolls_on (beginning o) moves
rolls_run outside o moves fit run =
    each_along outside rolls_on (rolls_each outside) (beginning o) moves run (fit_facts outside o fit)

pub compiles_run : (outside : Outside) (o : Opening) (moves : List Move) → IsFit outside o → IsRun outside o moves
    → EachMove (durable_well compiles_once) (beginning o) moves
compiles_run outside o moves fit run =
    each_along outside (durable_well compiles_once) (compiles_each outside) (beginning o) moves run
    (fit_facts outside o fit)

pub links_run : (outside : Outside) (o : Opening) (moves : List Move) → IsFit outside o → IsRun outside o moves
    → AreLinksKept o moves
links_run outside o moves fit run = links_along outside (beginning o) moves run (fit_facts outside o fit)
