-- A command that calls nothing at the desk.
use Rattle.bosh_transcript.proofs.PastLemmas.{proceeds_none}
use Rattle.bosh_transcript.specs.Past.{Past, Proceeds}

-- nothing happens
pub none_came : (past : Past) → Proceeds past past
none_came past = proceeds_none past
