use Rattle.std.proofs.Common.{rules, ◌∙◌, Err, refl, subst}
use Rattle.bosh_crew.proofs.CarryLemmas.{reached_then, round_then}
use Rattle.bosh_crew.specs.Carried.{IsLeft}
use Rattle.bosh_crew.specs.Carried.Reaches.{stays}
use Rattle.bosh_crew.specs.Carried.Stops.{lacks, waits}
use Rattle.bosh_crew.specs.declared.driver.Round.{Round}
use Rattle.bosh_crew.specs.declared.place.Place.TheVariants.{Empty}
use Rattle.bosh_moves.proofs.StoryLemmas.{extends_more}
use Rattle.bosh_world.specs.Silent.{moves_of}
use Rattle.bosh_crew.proofs.driver.drive.Goals as goal

pub loop-init : goal.loop-init
loop-init g c = record {
  goes = search rules;
  silent = search rules;
  reaches = stays c.args.site.now Empty;
}

pub loop-preserved : goal.loop-preserved
loop-preserved g c = record {
  goes = extends_more (moves_of c.args.site.now) (moves_of c.loop.site) (moves_of c.go_round.new.site)
      c.go_round.ensures.goes.0 c.loop.invariant.goes c.go_round.ensures.goes.1;
  silent = c.go_round.ensures.silent ∙ c.loop.invariant.silent;
  reaches = reached_then g.K.Keeper.bodies g.K.Keeper.faults g.L.Keeper.bodies g.L.Keeper.faults c.args.tasks.now 0
      c.args.site.now c.loop.site c.go_round.new.site Empty Empty Empty c.loop.invariant.reaches c.in-Ok-Moved.ensures.goes_round.0;
}

pub returns-in-Ok-Ended-clause-carries : goal.returns-in-Ok-Ended-clause-carries
returns-in-Ok-Ended-clause-carries g c = (
  reached_then g.K.Keeper.bodies g.K.Keeper.faults g.L.Keeper.bodies g.L.Keeper.faults c.args.tasks.now 0 c.args.site.now
      c.loop.site c.go_round.new.site Empty Empty Empty c.loop.invariant.reaches c.in-Ok-Ended.ensures.goes_round.0,
  c.in-Ok-Ended.ensures.ended c.in-Ok-Ended.field-0-is,
)

pub returns-in-Ok-Waits-clause-carries : goal.returns-in-Ok-Waits-clause-carries
returns-in-Ok-Waits-clause-carries g c = (
  c.go_round.new.site,
  (
    Empty,
    reached_then g.K.Keeper.bodies g.K.Keeper.faults g.L.Keeper.bodies g.L.Keeper.faults c.args.tasks.now 0
        c.args.site.now c.loop.site c.go_round.new.site Empty Empty Empty c.loop.invariant.reaches
        c.in-Ok-Waits.ensures.goes_round.0,
    waits c.in-Ok-Waits.task refl
        (subst (λ (round : Round). IsLeft g.K.Keeper.bodies g.K.Keeper.faults c.args.tasks.now 0 round
        c.go_round.new.site) c.in-Ok-Waits.field-0-is c.in-Ok-Waits.ensures.goes_round.1) c.locked.ensures refl,
  ),
)

pub returns-in-Err-clause-carries : goal.returns-in-Err-clause-carries
returns-in-Err-clause-carries g c =
    round_then g.K.Keeper.bodies g.K.Keeper.faults g.L.Keeper.bodies g.L.Keeper.faults c.args.tasks.now 0 c.args.site.now
    c.loop.site c.go_round.new.site Empty Empty (Err c.in-Err.fault) c.loop.invariant.reaches c.in-Err.ensures.goes_round

pub returns-clause-carries : goal.returns-clause-carries
returns-clause-carries g c = (c.loop.site, (Empty, c.loop.invariant.reaches, lacks refl refl refl))
