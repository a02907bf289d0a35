use Rattle.std.proofs.Common.{[], ◌∷◌}
use Rattle.bosh_base.specs.declared.entry.Entry.TheVariants as entries
use Rattle.bosh_book.specs.Faults.{IsConfigFault}
use Rattle.bosh_ports.specs.Rigged.{faults_of}
use Rattle.bosh_world.proofs.CallLemmas.{books_told, follows_at, not_stopped, notes_told, refuses_told, set_err, set_ok, site_stays}
use Rattle.bosh_world.specs.Faults.{halt_of}
use Rattle.bosh_world.proofs.PendLemmas.{alloweds_as, pends_told}
use Rattle.bosh_world.specs.Pending.{IsAllowed}
use Rattle.std.proofs.Common.{◌≡◌, true}
use Rattle.std.specs.Prelude.{is_some}
use Rattle.bosh_asks.specs.Goals.{config_in}
use Rattle.bosh_world.specs.Steps.{bodies_of}
use Rattle.bosh_world.proofs.site.Site.set_config.Goals as goal

pub invariant_of-self : goal.invariant_of-self
invariant_of-self g c = record {
  is_site = site_stays (faults_of g.K.Keeper.faults) c.args.self.now.book c.set_config-set.new.self c.set_config-set.result
      c.sprung.result c.args.self.now.cloud.is_stale c.args.self.now.history c.told.new.history c.entries.result.now
      c.effects.result.now c.set_config-set.ensures.failed
      c.set_config-set.ensures.adds.standing
      (c.args.self.now.is_site.book_runs c.in_ok-check_running.ensures.runs)
      (c.args.self.now.is_site.cloud_runs c.in_ok-check_running.ensures.runs) c.entries.ensures c.told.ensures.follows;
}

pub returns-clause-notes : goal.returns-clause-notes
returns-clause-notes g c =
    notes_told g.K.Keeper.bodies g.K.Keeper.faults c.args.self.now _ c.told.result c.set_config-set.result
    c.sprung.result (λ value. entries.Config c.args.file.now ∷ []) c.told.ensures.answer
    (record {
      running = c.in_ok-check_running.ensures.runs;
      is_of = c.args.self.now.is_site.is_of;
      same_cloud = λ j. c.args.self.now.cloud;
      same_armed = λ j. c.args.self.now.traps.items;
      same_opening = λ j. c.args.self.now.opening;
    })
    (set_ok (bodies_of g.K.Keeper.bodies) (faults_of g.K.Keeper.faults) c.args.self.now.book c.set_config-set.new.self c.set_config-set.result (entries.Config c.args.file.now)
    c.set_config-set.ensures.adds)
    (follows_at c.args.self.now.history c.told.new.history c.set_config-set.new.self.journal.entries c.entries.result.now
    c.args.self.now.cloud.effects c.effects.result.now (halt_of c.sprung.result c.set_config-set.result) c.entries.ensures
    c.effects.ensures c.told.ensures.follows)

pub returns-clause-refused : goal.returns-clause-refused
returns-clause-refused g c =
    refuses_told g.K.Keeper.bodies g.K.Keeper.faults c.args.self.now _ c.told.result c.set_config-set.result c.sprung.result []
    c.told.ensures.answer
    (record {
      running = c.in_ok-check_running.ensures.runs;
      is_of = c.args.self.now.is_site.is_of;
      same_cloud = λ j. c.args.self.now.cloud;
      same_armed = λ j. c.args.self.now.traps.items;
      same_opening = λ j. c.args.self.now.opening;
    })
    c.sprung.ensures
    (set_err (bodies_of g.K.Keeper.bodies) (faults_of g.K.Keeper.faults) c.args.self.now.book c.set_config-set.new.self c.set_config-set.result (entries.Config c.args.file.now)
    c.set_config-set.ensures.adds)
    c.set_config-set.ensures.failed
    (not_stopped c.args.self.now.book
    (IsConfigFault c.args.self.now.book c.args.file.now)
    c.set_config-set.result (c.args.self.now.is_site.book_runs c.in_ok-check_running.ensures.runs) (λ is. is)
    c.set_config-set.ensures.fault)
    (follows_at c.args.self.now.history c.told.new.history c.set_config-set.new.self.journal.entries c.entries.result.now
    c.args.self.now.cloud.effects c.effects.result.now (halt_of c.sprung.result c.set_config-set.result) c.entries.ensures
    c.effects.ensures c.told.ensures.follows)

pub returns-clause-fault : goal.returns-clause-fault
returns-clause-fault g c =
    books_told
    (IsConfigFault c.args.self.now.book c.args.file.now)
    c.told.result c.set_config-set.result c.sprung.result c.told.ensures.answer c.set_config-set.ensures.fault

pub returns-clause-pending : goal.returns-clause-pending
returns-clause-pending g c =
    pends_told c.told.new.history.is_halted c.set_config-set.new.self.journal
    (IsAllowed (is_some (config_in c.args.file.now) ≡ true) (entries.Config c.args.file.now)) c.sprung.result c.set_config-set.result c.told.ensures.follows.halted
    (alloweds_as (is_some (config_in c.args.file.now) ≡ true) (entries.Config c.args.file.now) c.set_config-set.new.self.journal c.set_config-set.result c.set_config-set.ensures.pending)
