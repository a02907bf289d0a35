use Rattle.laws_stands_noted.proofs.NotedLemmas.{config_noted, release_noted, stemcell_noted}
use Rattle.laws_stands_noted.proofs.updates.what_is_recorded_stands_after_an_upload.Goals as goal

pub returns : goal.returns
returns c = record { release = release_noted; stemcell = stemcell_noted; config = config_noted }
