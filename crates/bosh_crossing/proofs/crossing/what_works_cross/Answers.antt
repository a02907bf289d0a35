use denote.Param.Send.{sendable}
use Rattle.bosh_crossing.proofs.WorkSent.{work_sent}
use Rattle.bosh_crossing.proofs.crossing.what_works_cross.Goals as goal

pub is_sent-requires-send-T : goal.is_sent-requires-send-T
is_sent-requires-send-T c κs = search (work_sent, sendable)
