use denote.Param.Send.{sendable}
use Rattle.bosh_crossing.proofs.RecordsSent.{records_sent}
use Rattle.bosh_crossing.proofs.crossing.what_records_cross.Goals as goal

pub is_sent-requires-send-T : goal.is_sent-requires-send-T
is_sent-requires-send-T c κs = search (records_sent, sendable)
