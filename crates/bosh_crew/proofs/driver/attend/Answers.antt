use Rattle.bosh_crew.proofs.CarryLemmas.{left_by}
use Rattle.bosh_crew.specs.Carried.Reaches.{stays}
use Rattle.bosh_crew.specs.declared.place.Place.TheVariants.{Empty}
use Rattle.bosh_crew.proofs.driver.attend.Goals as goal

pub returns-then-has_ended-clause-goes_round : goal.returns-then-has_ended-clause-goes_round
returns-then-has_ended-clause-goes_round g c = λ tasks there left. (stays c.args.site.now Empty, left)

pub returns-in-Ok-clause-goes_round : goal.returns-in-Ok-clause-goes_round
returns-in-Ok-clause-goes_round g c = λ tasks there left. (
  (c.in-Ok.ensures.goes_round tasks there).0,
  left_by g.K.Keeper.bodies g.K.Keeper.faults tasks 0 c.both.result c.in-Ok.step c.take_steps.new.site c.both.ensures.last
      (c.in-Ok.ensures.goes_round tasks there).1,
)

pub returns-in-Err-clause-goes_round : goal.returns-in-Err-clause-goes_round
returns-in-Err-clause-goes_round g c = λ tasks there left. c.in-Err.ensures.goes_round tasks there
