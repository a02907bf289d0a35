use Rattle.cpi_proc.proofs.ReplyLemmas.{refusal_is_said}
use Rattle.cpi_proc.proofs.laws.what_is_read_is_refused.Goals as goal

pub returns : goal.returns
returns c = refusal_is_said
