use Rattle.std.proofs.Common.{refl}
use Rattle.bosh_due.specs.Plans.PlansDeploy.{consumed}
use Rattle.examples_histories.specs.Links.{offer_withdrawn_goal}
use Rattle.examples_replies.proofs.Opened.{not_used}
use Rattle.examples_replies.specs.Planned.{consumer, linked}
use Rattle.examples_replies.proofs.planned.links_are_kept.Goals as goal

pub returns-clause-consumed : goal.returns-clause-consumed
returns-clause-consumed c built it answers = consumed offer_withdrawn_goal consumer answers refl refl

pub returns-clause-not_opened : goal.returns-clause-not_opened
returns-clause-not_opened c built it opens = not_used (linked built) it offer_withdrawn_goal consumer refl opens
