use Rattle.cpi_proc.proofs.ReplyLemmas.{refused_is_read}
use Rattle.cpi_proc.proofs.laws.what_is_refused_is_read.Goals as goal

pub returns : goal.returns
returns c = refused_is_read
