use Rattle.std.proofs.Common.{rules, ◌∙◌, ◌<◌, ◌≤◌, ℕ, Err, List, arith, length, slice_index_or, subst, sym, take}
use Rattle.std.specs.Prelude.{All}
use Rattle.std.proofs.lemmas.List.{take_all}
use Rattle.std.proofs.lemmas.List.Elements.{All-more}
use Rattle.bosh_crew.proofs.CarryLemmas.{reached_then, round_then, task_at}
use Rattle.bosh_crew.specs.Carried.Reaches.{stays}
use Rattle.bosh_crew.specs.Driven.{IsEnded}
use Rattle.bosh_crew.specs.declared.place.Place.TheVariants.{Empty}
use Rattle.bosh_moves.proofs.StoryLemmas.{extends_more}
use Rattle.bosh_records.specs.declared.records.Records.{Records}
use Rattle.bosh_world.specs.Silent.{moves_of}
use Rattle.bosh_crew.proofs.driver.go_round.Goals as goal

pub loop-task-init : goal.loop-task-init
loop-task-init g c = record {
  goes = search rules;
  silent = search rules;
  ended = search rules;
  reaches = stays c.args.site.now Empty;
  left = tt;
}

pub loop-task-preserved : goal.loop-task-preserved
loop-task-preserved g c =
    let within : c.loop-task.task-index < length c.args.tasks.now = let t = c.loop-task-test.true in omega (arith, t) in
    let goes = c.in-Ok.ensures.goes_round c.args.tasks.now (task_at c.args.tasks.now c.loop-task.task-index within)
    c.loop-task.invariant.left in
    record {
      goes = extends_more (moves_of c.args.site.now) (moves_of c.loop-task.site) (moves_of c.attend.new.site)
          c.attend.ensures.goes.0 c.loop-task.invariant.goes c.attend.ensures.goes.1;
      silent = c.attend.ensures.silent ∙ c.loop-task.invariant.silent;
      ended = λ is.
          let stood = c.in-Ok.ensures.ended is in
          All-more (IsEnded c.attend.new.site.book.records) c.args.tasks.now c.loop-task.task-index 0 within
          (subst (λ (r : Records). All (IsEnded r) (take c.loop-task.task-index c.args.tasks.now)) (sym stood.1)
          (c.loop-task.invariant.ended stood.0))
          (subst (λ (r : Records). IsEnded r (slice_index_or c.args.tasks.now c.loop-task.task-index 0)) (sym stood.1) stood.2);
      reaches = reached_then g.K.Keeper.bodies g.K.Keeper.faults g.L.Keeper.bodies g.L.Keeper.faults c.args.tasks.now 0 c.args.site.now
          c.loop-task.site c.attend.new.site Empty Empty Empty c.loop-task.invariant.reaches goes.0;
      left = goes.1;
    }

pub returns-in-Err-clause-goes_round : goal.returns-in-Err-clause-goes_round
returns-in-Err-clause-goes_round g c =
    let within : c.loop-task.task-index < length c.args.tasks.now = let t = c.loop-task-test.true in omega (arith, t) in
    round_then g.K.Keeper.bodies g.K.Keeper.faults g.L.Keeper.bodies g.L.Keeper.faults c.args.tasks.now 0 c.args.site.now c.loop-task.site
    c.attend.new.site Empty Empty (Err c.in-Err.fault) c.loop-task.invariant.reaches
    (c.in-Err.ensures.goes_round c.args.tasks.now (task_at c.args.tasks.now c.loop-task.task-index within)
    c.loop-task.invariant.left)

pub returns-clause-goes_round : goal.returns-clause-goes_round
returns-clause-goes_round g c = (c.loop-task.invariant.reaches, c.loop-task.invariant.left)

pub returns-clause-ended : goal.returns-clause-ended
returns-clause-ended g c = λ is.
    let past : length c.args.tasks.now ≤ c.loop-task.task-index = let t = c.loop-task-test.false in omega (arith, t) in
    subst (λ (tasks : List ℕ). All (IsEnded c.loop-task.site.book.records) tasks)
    (take_all c.loop-task.task-index c.args.tasks.now past)
    (c.loop-task.invariant.ended is)
