use Rattle.laws_views.proofs.HistoryLemmas.{run_viewed}
use Rattle.laws_views.proofs.views.what_is_known_can_be_viewed.Goals as goal

pub returns : goal.returns
returns c = run_viewed
