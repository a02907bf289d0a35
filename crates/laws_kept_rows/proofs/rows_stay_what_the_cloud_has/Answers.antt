use Rattle.laws_kept_rows.proofs.PartLemmas.{rows_kept}
use Rattle.laws_kept_rows.proofs.rows_stay_what_the_cloud_has.Goals as goal

pub returns : goal.returns
returns c = rows_kept
