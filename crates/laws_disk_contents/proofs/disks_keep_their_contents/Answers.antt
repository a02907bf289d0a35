use Rattle.laws_disk_contents.proofs.ContentLemmas.{contents_kept}
use Rattle.laws_disk_contents.proofs.disks_keep_their_contents.Goals as goal

pub returns : goal.returns
returns c = λ outside m e h follows may. contents_kept m h outside e follows may
