use Rattle.laws_cloud.proofs.CloudLemmas.{cloud_parts}
use Rattle.laws_cloud.proofs.what_was_done_stays_in_its_order.Goals as goal

pub returns : goal.returns
returns c = cloud_parts
