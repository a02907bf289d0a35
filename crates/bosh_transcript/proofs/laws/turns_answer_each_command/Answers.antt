use Rattle.bosh_transcript.proofs.DueLemmas.{segment_due}
use Rattle.bosh_transcript.proofs.laws.turns_answer_each_command.Goals as goal

pub returns : goal.returns
returns c = segment_due
