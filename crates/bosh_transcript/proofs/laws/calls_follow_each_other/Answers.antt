use Rattle.bosh_transcript.proofs.PastLemmas.{proceeds_none, proceeds_then}
use Rattle.bosh_transcript.proofs.laws.calls_follow_each_other.Goals as goal

pub returns-clause-none : goal.returns-clause-none
returns-clause-none c = proceeds_none

pub returns-clause-both : goal.returns-clause-both
returns-clause-both c = proceeds_then
