use Rattle.laws_views.proofs.ViewLemmas.{views_known}
use Rattle.laws_views.proofs.views.views_are_of_what_is_known.Goals as goal

pub returns : goal.returns
returns c = views_known
