use Rattle.laws_recovery.proofs.OpenLemmas.{none_going, open_end, recovered_then}
use Rattle.laws_recovery.proofs.ending.tasks_that_are_open_come_to_their_ends.Goals as goal

pub returns-clause-run : goal.returns-clause-run
returns-clause-run c = open_end

pub returns-clause-none_left : goal.returns-clause-none_left
returns-clause-none_left c = recovered_then

pub returns-clause-none_goes_on : goal.returns-clause-none_goes_on
returns-clause-none_goes_on c = none_going
