use Rattle.std.proofs.Common.{Err, ap, ◌∙◌}
use Rattle.cpi_proc.proofs.PortLemmas.{failure_rose}
use Rattle.cpi_proc.proofs.ReplyLemmas.{reply_is_no_failure}
use Rattle.cpi_proc.proofs.port.ProcPort.answer.Goals as goal
use Rattle.cpi_proc.proofs.port.ProcPort.answer.Goals.{in-Ok, in-Err-Failed, in-Err-TooLong, in-Err-Memory}

pub returns-clause-failed : goal.returns-clause-failed
returns-clause-failed g c =
    elim c.match-ask.branch [
      | in-Ok w ↦ rw w.result-is (reply_is_no_failure w.read_reply.result _ _ _ w.read_reply.ensures.exact)
      | in-Err-Failed w ↦ rw (w.result-is, ← c.self.view_is) (failure_rose c.ask.result _ _ (w.in-Err-Failed.is ∙ ap Err w.in-Err-Failed.field-0-is) c.ask.ensures.failed)
      | in-Err-TooLong w ↦ rw w.result-is tt
      | in-Err-Memory w ↦ rw w.result-is tt
    ]
