-- The moves behind which a reply is due are moves that the command may make.
use Rattle.std.specs.Prelude.{Bool, List, [], ◌∷◌, Option, Some}
use Rattle.bosh_base.specs.declared.entry.Entry.{Entry}
use Rattle.bosh_base.specs.declared.entry.Entry.TheVariants as entries
use Rattle.bosh_base.specs.declared.entry.TaskOpen.{TaskOpen}
use Rattle.bosh_base.specs.declared.moves.Cause.{Cause}
use Rattle.bosh_base.specs.declared.moves.Move.{Move}
use Rattle.bosh_base.specs.declared.moves.Move.TheVariants as moves
use Rattle.bosh_base.specs.declared.reply.Reply.{Reply}
use Rattle.bosh_due.specs.Before.{Before}
use Rattle.bosh_due.specs.Ends.{EndsIn, MakesAtMost, MayMake, MayOpenAndRun, MayRestart, MayRunFrom}
use Rattle.bosh_due.specs.Outcomes.{MakesMove, OpensAndRuns, Outcome, RunsTaskFrom}
use Rattle.bosh_due.specs.Outcomes.Outcome.{Answers, Changes, Notes, Opens, Refuses, Restarts}
use Rattle.bosh_due.specs.Restarting.{EndsInterrupted, MayEndInterrupted, MayStartAt, StartsAt, after_halt}

-- ---- one move

at_most : (halts : Cause → Bool) (move : Move) (good : Reply) (more : List Move) (reply : Reply) →
    MakesMove halts move good more reply → MakesAtMost halts move more
at_most halts move good [] reply made = tt
at_most halts move good (moves.Halt cause ∷ []) reply made = made.0
at_most halts move good (it ∷ more) reply made = made.0

-- ---- a task

runs_from : (b : Before) (due : TaskOpen) (now : Before) (move : Move) (run : List Move) (reply : Reply) →
    RunsTaskFrom b due now move run reply → MayRunFrom b due now move run
runs_from b due now (moves.Note (entries.TaskOpen opened)) run reply runs = record {
  is_due = runs.is_due;
  is_its_work = runs.is_its_work;
  by_room = runs.by_room;
  ends_last = runs.ends_last;
  settled = runs.settled;
}
runs_from b due now move run reply runs = runs

opens : (b : Before) (due : TaskOpen) (now : Before) (more : List Move) (reply : Reply) →
    OpensAndRuns b due now more reply → MayOpenAndRun b due now more
opens b due now [] reply opened = tt
opens b due now (moves.Halt cause ∷ []) reply opened = opened.0
opens b due now (move ∷ run) reply opened = runs_from b due now move run reply opened

-- ---- a restart

ends : (due : List Entry) (more : List Move) (reply : Reply) → EndsInterrupted due more reply →
    MayEndInterrupted due more
ends [] [] reply ended = tt
ends [] (move ∷ more) reply ended = absurd ended
ends (end ∷ due) [] reply ended = ended
ends (end ∷ due) (moves.Halt cause ∷ []) reply ended = ended.0
ends (end ∷ due) (move ∷ more) reply ended = (ended.0, ends due more reply ended.1)

starts : (b : Before) (more : Option (List Move)) (reply : Reply) → StartsAt b more reply → MayStartAt b more
starts b (Some []) reply started = tt
starts b (Some (moves.Stop stop ∷ more)) reply started = (started.0, ends _ more reply started.1)
starts b more reply started = started

restarts : (b : Before) (more : List Move) (reply : Reply) →
    StartsAt b (after_halt b.moment.halted more) reply → MayRestart b more
restarts b [] reply started = tt
restarts b (move ∷ more) reply started = starts b (after_halt b.moment.halted (move ∷ more)) reply started

-- ---- all

pub may_be_made : (outcome : Outcome) (b : Before) (more : List Move) (reply : Reply) →
    EndsIn outcome b more reply → MayMake outcome b more
may_be_made (Refuses why) b more reply due = due.0
may_be_made (Answers answer) b more reply due = due.0
may_be_made (Notes entry good) b more reply due = at_most _ _ good more reply due
may_be_made (Changes move entry good) b more reply due = at_most _ _ good more reply due
may_be_made (Opens opening) b more reply due = opens b opening _ more reply due
may_be_made Restarts b more reply due = restarts b more reply due
