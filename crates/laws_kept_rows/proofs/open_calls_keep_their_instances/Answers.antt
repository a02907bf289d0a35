use Rattle.laws_kept_rows.proofs.PartLemmas.{calls_kept}
use Rattle.laws_kept_rows.proofs.open_calls_keep_their_instances.Goals as goal

pub returns : goal.returns
returns c = calls_kept
