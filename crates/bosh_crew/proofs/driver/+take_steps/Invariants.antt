use Rattle.bosh_crew.specs.Places.{steps_left}
use Rattle.bosh_crew.proofs.driver.+take_steps.Given as goal

abbrev pub decreases-take_steps : goal.decreases-take_steps
decreases-take_steps g l = steps_left l.place
