use Rattle.cpi_proc.proofs.ReplyLemmas.{answer_is_said}
use Rattle.cpi_proc.proofs.laws.what_is_read_is_said.Goals as goal

pub returns : goal.returns
returns c = answer_is_said
