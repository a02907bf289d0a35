use Rattle.std.proofs.Common.{refl}
use Rattle.bosh_due.specs.Plans.PlansDeploy.{planned, too_many}
use Rattle.examples_replies.proofs.Opened.{not_crowded}
use Rattle.examples_replies.specs.Planned.{of_dep, recording}
use Rattle.examples_replies.specs.Unasked.{nothing_wanted}
use Rattle.examples_replies.proofs.planned.deployments_are_few.Goals as goal

pub returns-clause-too_many : goal.returns-clause-too_many
returns-clause-too_many c manifest answers = too_many nothing_wanted answers refl refl refl

pub returns-clause-not_opened : goal.returns-clause-not_opened
returns-clause-not_opened c manifest opens = not_crowded (recording 64) (of_dep manifest) nothing_wanted refl opens

pub returns-clause-opened : goal.returns-clause-opened
returns-clause-opened c manifest answers = planned nothing_wanted answers refl refl refl
