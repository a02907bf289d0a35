use Rattle.examples_replies.proofs.MayBeMade.{may_be_made}
use Rattle.examples_replies.proofs.laws.what_is_due_may_be_made.Goals as goal

pub returns : goal.returns
returns c = may_be_made
