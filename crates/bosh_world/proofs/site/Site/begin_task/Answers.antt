use Rattle.std.proofs.Common.{[]}
use Rattle.bosh_book.specs.Faults.{IsOpenFault}
use Rattle.bosh_ports.specs.Rigged.{faults_of}
use Rattle.bosh_world.proofs.CallLemmas.{books_told, follows_at, not_stopped, opens_told, refuses_told, site_stays, standing_opens}
use Rattle.bosh_world.specs.Faults.{halt_of}
use Rattle.bosh_world.proofs.PendLemmas.{openings_as, pends_told}
use Rattle.bosh_world.specs.Pending.{IsOpening}
use Rattle.bosh_world.specs.Steps.{bodies_of}
use Rattle.bosh_world.proofs.site.Site.begin_task.Goals as goal

pub invariant_of-self : goal.invariant_of-self
invariant_of-self g c = record {
  is_site = site_stays (faults_of g.K.Keeper.faults) c.args.self.now.book c.begin_task-task.new.self c.begin_task-task.result
      c.sprung.result c.args.self.now.cloud.is_stale c.args.self.now.history c.told.new.history c.entries.result.now
      c.effects.result.now c.begin_task-task.ensures.failed
      (standing_opens (bodies_of g.K.Keeper.bodies) (faults_of g.K.Keeper.faults) c.args.self.now.book c.begin_task-task.new.self c.args.ask.now
      c.begin_task-task.result c.begin_task-task.ensures.opens c.begin_task-task.ensures.refused)
      (c.args.self.now.is_site.book_runs c.in_ok-check_running.ensures.runs)
      (c.args.self.now.is_site.cloud_runs c.in_ok-check_running.ensures.runs) c.entries.ensures c.told.ensures.follows;
}

pub returns-clause-opens : goal.returns-clause-opens
returns-clause-opens g c =
    opens_told g.K.Keeper.bodies g.K.Keeper.faults c.args.self.now _ c.args.ask.now c.told.result c.begin_task-task.result
    c.sprung.result c.told.ensures.answer
    (record {
      running = c.in_ok-check_running.ensures.runs;
      is_of = c.args.self.now.is_site.is_of;
      same_cloud = λ j. c.args.self.now.cloud;
      same_armed = λ j. c.args.self.now.traps.items;
      same_opening = λ j. c.args.self.now.opening;
    })
    c.begin_task-task.ensures.opens
    c.begin_task-task.ensures.room
    (follows_at c.args.self.now.history c.told.new.history c.begin_task-task.new.self.journal.entries c.entries.result.now
    c.args.self.now.cloud.effects c.effects.result.now (halt_of c.sprung.result c.begin_task-task.result) c.entries.ensures
    c.effects.ensures c.told.ensures.follows)

pub returns-clause-refused : goal.returns-clause-refused
returns-clause-refused g c =
    refuses_told g.K.Keeper.bodies g.K.Keeper.faults c.args.self.now _ c.told.result c.begin_task-task.result c.sprung.result []
    c.told.ensures.answer
    (record {
      running = c.in_ok-check_running.ensures.runs;
      is_of = c.args.self.now.is_site.is_of;
      same_cloud = λ j. c.args.self.now.cloud;
      same_armed = λ j. c.args.self.now.traps.items;
      same_opening = λ j. c.args.self.now.opening;
    })
    c.sprung.ensures
    c.begin_task-task.ensures.refused
    c.begin_task-task.ensures.failed
    (not_stopped c.args.self.now.book
    (IsOpenFault c.args.self.now.book c.args.ask.now)
    c.begin_task-task.result (c.args.self.now.is_site.book_runs c.in_ok-check_running.ensures.runs) (λ is. is)
    c.begin_task-task.ensures.fault)
    (follows_at c.args.self.now.history c.told.new.history c.begin_task-task.new.self.journal.entries c.entries.result.now
    c.args.self.now.cloud.effects c.effects.result.now (halt_of c.sprung.result c.begin_task-task.result) c.entries.ensures
    c.effects.ensures c.told.ensures.follows)

pub returns-clause-fault : goal.returns-clause-fault
returns-clause-fault g c =
    books_told
    (IsOpenFault c.args.self.now.book c.args.ask.now)
    c.told.result c.begin_task-task.result c.sprung.result c.told.ensures.answer c.begin_task-task.ensures.fault

pub returns-clause-pending : goal.returns-clause-pending
returns-clause-pending g c =
    pends_told c.told.new.history.is_halted c.begin_task-task.new.self.journal
    (IsOpening c.args.self.now.book c.args.ask.now) c.sprung.result c.begin_task-task.result c.told.ensures.follows.halted
    (openings_as c.args.self.now.book c.args.ask.now c.begin_task-task.new.self.journal c.begin_task-task.result c.begin_task-task.ensures.pending)
