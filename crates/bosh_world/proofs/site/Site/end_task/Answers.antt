use Rattle.std.proofs.Common.{[]}
use Rattle.bosh_book.specs.Faults.{IsEndFault}
use Rattle.bosh_ports.specs.Rigged.{faults_of}
use Rattle.bosh_world.proofs.CallLemmas.{books_told, ends_told, follows_at, not_stopped, refuses_told, site_stays, standing_ends}
use Rattle.bosh_world.specs.Faults.{halt_of}
use Rattle.bosh_world.proofs.PendLemmas.{closings_as, pends_told}
use Rattle.bosh_world.specs.Pending.{IsClosing}
use Rattle.bosh_world.specs.Steps.{bodies_of}
use Rattle.bosh_world.proofs.site.Site.end_task.Goals as goal

pub invariant_of-self : goal.invariant_of-self
invariant_of-self g c = record {
  is_site = site_stays (faults_of g.K.Keeper.faults) c.args.self.now.book c.end_task-end.new.self c.end_task-end.result
      c.sprung.result c.args.self.now.cloud.is_stale c.args.self.now.history c.told.new.history c.entries.result.now
      c.effects.result.now c.end_task-end.ensures.failed
      (standing_ends (bodies_of g.K.Keeper.bodies) (faults_of g.K.Keeper.faults) c.args.self.now.book c.end_task-end.new.self c.args.task
      c.end_task-end.result c.end_task-end.ensures.ended c.end_task-end.ensures.refused)
      (c.args.self.now.is_site.book_runs c.in_ok-check_running.ensures.runs)
      (c.args.self.now.is_site.cloud_runs c.in_ok-check_running.ensures.runs) c.entries.ensures c.told.ensures.follows;
}

pub returns-clause-ends : goal.returns-clause-ends
returns-clause-ends g c =
    ends_told g.K.Keeper.bodies g.K.Keeper.faults c.args.self.now _ c.args.task c.told.result c.end_task-end.result
    c.sprung.result c.told.ensures.answer
    (record {
      running = c.in_ok-check_running.ensures.runs;
      is_of = c.args.self.now.is_site.is_of;
      same_cloud = λ j. c.args.self.now.cloud;
      same_armed = λ j. c.args.self.now.traps.items;
      same_opening = λ j. c.args.self.now.opening;
    })
    c.end_task-end.ensures.ended
    (follows_at c.args.self.now.history c.told.new.history c.end_task-end.new.self.journal.entries c.entries.result.now
    c.args.self.now.cloud.effects c.effects.result.now (halt_of c.sprung.result c.end_task-end.result) c.entries.ensures
    c.effects.ensures c.told.ensures.follows)

pub returns-clause-refused : goal.returns-clause-refused
returns-clause-refused g c =
    refuses_told g.K.Keeper.bodies g.K.Keeper.faults c.args.self.now _ c.told.result c.end_task-end.result c.sprung.result []
    c.told.ensures.answer
    (record {
      running = c.in_ok-check_running.ensures.runs;
      is_of = c.args.self.now.is_site.is_of;
      same_cloud = λ j. c.args.self.now.cloud;
      same_armed = λ j. c.args.self.now.traps.items;
      same_opening = λ j. c.args.self.now.opening;
    })
    c.sprung.ensures
    c.end_task-end.ensures.refused
    c.end_task-end.ensures.failed
    (not_stopped c.args.self.now.book
    (IsEndFault c.args.self.now.book c.args.task)
    c.end_task-end.result (c.args.self.now.is_site.book_runs c.in_ok-check_running.ensures.runs) (λ is. is)
    c.end_task-end.ensures.fault)
    (follows_at c.args.self.now.history c.told.new.history c.end_task-end.new.self.journal.entries c.entries.result.now
    c.args.self.now.cloud.effects c.effects.result.now (halt_of c.sprung.result c.end_task-end.result) c.entries.ensures
    c.effects.ensures c.told.ensures.follows)

pub returns-clause-fault : goal.returns-clause-fault
returns-clause-fault g c =
    books_told
    (IsEndFault c.args.self.now.book c.args.task)
    c.told.result c.end_task-end.result c.sprung.result c.told.ensures.answer c.end_task-end.ensures.fault

pub returns-clause-pending : goal.returns-clause-pending
returns-clause-pending g c =
    pends_told c.told.new.history.is_halted c.end_task-end.new.self.journal
    (IsClosing c.args.self.now.book.records c.args.task) c.sprung.result c.end_task-end.result c.told.ensures.follows.halted
    (closings_as c.args.self.now.book.records c.args.task c.end_task-end.new.self.journal c.end_task-end.result c.end_task-end.ensures.pending)
