use Rattle.cpi_proc.proofs.ReplyLemmas.{one_answer}
use Rattle.cpi_proc.proofs.laws.one_answer_for_a_reply.Goals as goal

pub returns : goal.returns
returns c = one_answer
