use Rattle.laws_contents_kept.proofs.KeptLemmas.{migrated_kept}
use Rattle.laws_contents_kept.proofs.migrated_disks_stay_alike.Goals as goal

pub returns : goal.returns
returns c = migrated_kept
