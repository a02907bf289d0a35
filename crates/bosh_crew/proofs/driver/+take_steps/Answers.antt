use Rattle.std.proofs.Common.{◌∙◌, Ok, subst}
use Rattle.bosh_crew.proofs.CarryLemmas.{advanced, advanced_waits, round_then}
use Rattle.bosh_crew.specs.Carried.{Advances}
use Rattle.bosh_crew.specs.declared.place.Place.{Place}
use Rattle.bosh_crew.specs.declared.place.Place.TheVariants.{Empty}
use Rattle.bosh_crew.specs.declared.step.Step.{Step}
use Rattle.bosh_crew.specs.declared.step.Step.TheVariants.{Moved}
use Rattle.bosh_moves.proofs.StoryLemmas.{extends_more}
use Rattle.bosh_world.specs.Silent.{moves_of}
use Rattle.bosh_crew.proofs.driver.+take_steps.Goals as goal

-- src/driver.rt:120:1
pub returns-in-Ok-Moved-Empty-clause-goes_round : goal.returns-in-Ok-Moved-Empty-clause-goes_round
returns-in-Ok-Moved-Empty-clause-goes_round g t c = λ tasks there. (
  advanced g.K.Keeper.bodies g.K.Keeper.faults g.L.Keeper.bodies g.L.Keeper.faults tasks c.args.task 0 c.args.site.now
      c.advance.new.site c.args.place Empty there c.requires
      (subst (λ (p : Place). Advances g.K.Keeper.bodies g.K.Keeper.faults g.L.Keeper.bodies g.L.Keeper.faults c.args.task 0
      c.args.site.now c.args.place (Ok (Moved p)) c.advance.new.site) c.in-Ok-Moved-Empty.field-0-0-is
      (subst (λ (s : Step). Advances g.K.Keeper.bodies g.K.Keeper.faults g.L.Keeper.bodies g.L.Keeper.faults c.args.task 0
      c.args.site.now c.args.place (Ok s) c.advance.new.site) c.in-Ok-Moved-Empty.field-0-is
      c.in-Ok-Moved-Empty.ensures.advances)),
  tt,
)

-- src/driver.rt:120:1
pub returns-in-Ok-Moved : goal.returns-in-Ok-Moved
returns-in-Ok-Moved g t c = record {
  moved = c.take_steps.ensures.moved;
  goes_round = λ tasks there. round_then g.K.Keeper.bodies g.K.Keeper.faults g.L.Keeper.bodies g.L.Keeper.faults tasks 0
      c.args.site.now c.advance.new.site c.take_steps.new.site c.args.place c.in-Ok-Moved.place c.take_steps.result
      (advanced g.K.Keeper.bodies g.K.Keeper.faults g.L.Keeper.bodies g.L.Keeper.faults tasks c.args.task 0
      c.args.site.now c.advance.new.site c.args.place c.in-Ok-Moved.place there c.requires
      (subst (λ (s : Step). Advances g.K.Keeper.bodies g.K.Keeper.faults g.L.Keeper.bodies g.L.Keeper.faults c.args.task 0
      c.args.site.now c.args.place (Ok s) c.advance.new.site) c.in-Ok-Moved.field-0-is c.in-Ok-Moved.ensures.advances))
      (c.take_steps.ensures.goes_round tasks there);
  goes = extends_more (moves_of c.args.site.now) (moves_of c.advance.new.site) (moves_of c.take_steps.new.site)
      c.take_steps.ensures.goes.0 c.advance.ensures.goes c.take_steps.ensures.goes.1;
  silent = c.take_steps.ensures.silent ∙ c.advance.ensures.silent;
  stuck = c.take_steps.ensures.stuck;
}

-- src/driver.rt:120:1
pub returns-in-Ok-Waits-clause-goes_round : goal.returns-in-Ok-Waits-clause-goes_round
returns-in-Ok-Waits-clause-goes_round g t c = λ tasks there.
    advanced_waits g.K.Keeper.bodies g.K.Keeper.faults g.L.Keeper.bodies g.L.Keeper.faults tasks c.args.task 0
    c.args.site.now c.advance.new.site c.args.place there
    (subst (λ (s : Step). Advances g.K.Keeper.bodies g.K.Keeper.faults g.L.Keeper.bodies g.L.Keeper.faults c.args.task 0
    c.args.site.now c.args.place (Ok s) c.advance.new.site) c.in-Ok-Waits.field-0-is c.in-Ok-Waits.ensures.advances)
