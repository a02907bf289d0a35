use Rattle.cpi_proc.proofs.ReplyLemmas.{said_is_read}
use Rattle.cpi_proc.proofs.laws.what_is_said_is_read.Goals as goal

pub returns : goal.returns
returns c = said_is_read
