use Rattle.laws_rolls.proofs.RollLemmas.{runs_shown, shown_runs}
use Rattle.laws_rolls.proofs.rolls.the_rule_that_runs_is_the_one_that_is_shown.Goals as goal

pub returns : goal.returns
returns c = record { shown = shown_runs; runs = runs_shown }
