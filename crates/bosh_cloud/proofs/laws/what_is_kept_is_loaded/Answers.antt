use Rattle.std.proofs.Common.{[]}
use Rattle.bosh_cloud.proofs.LawLemmas.{found-spelled}
use Rattle.bosh_cloud.proofs.laws.what_is_kept_is_loaded.Goals as goal

pub returns : goal.returns
returns c = found-spelled []
