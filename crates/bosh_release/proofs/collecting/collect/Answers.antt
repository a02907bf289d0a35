use Rattle.bosh_release.proofs.FitLemmas.{drafted_fits}
use Rattle.bosh_release.proofs.collecting.collect.Goals as goal

pub finished-requires-clause-fit : goal.finished-requires-clause-fit
finished-requires-clause-fit c = drafted_fits c.args.files.now c.in_ok-draft.draft c.in_ok-draft.ensures
