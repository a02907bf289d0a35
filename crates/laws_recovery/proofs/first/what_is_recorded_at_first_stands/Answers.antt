use Rattle.laws_recovery.proofs.FirstLemmas.{first_agrees, first_stands}
use Rattle.laws_recovery.proofs.first.what_is_recorded_at_first_stands.Goals as goal

pub returns-clause-stands : goal.returns-clause-stands
returns-clause-stands c = first_stands

pub returns-clause-agrees : goal.returns-clause-agrees
returns-clause-agrees c = first_agrees
