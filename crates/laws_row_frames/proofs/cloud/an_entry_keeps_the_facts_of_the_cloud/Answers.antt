use Rattle.laws_row_frames.proofs.CloudCases.{cloud_kept}
use Rattle.laws_row_frames.proofs.cloud.an_entry_keeps_the_facts_of_the_cloud.Goals as goal

pub returns : goal.returns
returns c = cloud_kept
