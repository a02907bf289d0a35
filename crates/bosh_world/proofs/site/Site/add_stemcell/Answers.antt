use Rattle.std.proofs.Common.{[]}
use Rattle.bosh_asks.specs.Faults.{name_and_version}
use Rattle.bosh_base.specs.Version.{IsVersion}
use Rattle.bosh_base.specs.declared.entry.Entry.TheVariants as entries
use Rattle.bosh_book.specs.Faults.{IsUploadFault}
use Rattle.bosh_ports.specs.Rigged.{faults_of}
use Rattle.bosh_world.proofs.CallLemmas.{books_told, follows_at, new_err, new_ok, not_stopped, notes_told, refuses_told, site_stays}
use Rattle.bosh_world.specs.Faults.{halt_of}
use Rattle.bosh_world.proofs.PendLemmas.{alloweds_as, pends_told}
use Rattle.bosh_world.specs.Pending.{IsAllowed}
use Rattle.bosh_book.specs.Uploads.{IsAdded}
use Rattle.bosh_book.specs.declared.uploads.Added.TheVariants.{New}
use Rattle.bosh_world.specs.Steps.{bodies_of, entries_for}
use Rattle.bosh_world.proofs.site.Site.add_stemcell.Goals as goal

pub invariant_of-self : goal.invariant_of-self
invariant_of-self g c = record {
  is_site = site_stays (faults_of g.K.Keeper.faults) c.args.self.now.book c.add_stemcell-added.new.self
      c.add_stemcell-added.result c.sprung.result c.args.self.now.cloud.is_stale c.args.self.now.history c.told.new.history
      c.entries.result.now c.effects.result.now c.add_stemcell-added.ensures.failed
      c.add_stemcell-added.ensures.adds.standing
      (c.args.self.now.is_site.book_runs c.in_ok-check_running.ensures.runs)
      (c.args.self.now.is_site.cloud_runs c.in_ok-check_running.ensures.runs) c.entries.ensures c.told.ensures.follows;
}

pub returns-clause-notes : goal.returns-clause-notes
returns-clause-notes g c =
    notes_told g.K.Keeper.bodies g.K.Keeper.faults c.args.self.now _ c.told.result c.add_stemcell-added.result
    c.sprung.result (λ added. entries_for added (entries.Stemcell (record { os = c.args.os.now; version = c.args.version.now })))
    c.told.ensures.answer
    (record {
      running = c.in_ok-check_running.ensures.runs;
      is_of = c.args.self.now.is_site.is_of;
      same_cloud = λ j. c.args.self.now.cloud;
      same_armed = λ j. c.args.self.now.traps.items;
      same_opening = λ j. c.args.self.now.opening;
    })
    (new_ok (bodies_of g.K.Keeper.bodies) (faults_of g.K.Keeper.faults) c.args.self.now.book c.add_stemcell-added.new.self
    c.add_stemcell-added.result (entries.Stemcell (record { os = c.args.os.now; version = c.args.version.now }))
    c.add_stemcell-added.ensures.adds)
    (follows_at c.args.self.now.history c.told.new.history c.add_stemcell-added.new.self.journal.entries c.entries.result.now
    c.args.self.now.cloud.effects c.effects.result.now (halt_of c.sprung.result c.add_stemcell-added.result)
    c.entries.ensures c.effects.ensures c.told.ensures.follows)

pub returns-clause-refused : goal.returns-clause-refused
returns-clause-refused g c =
    refuses_told g.K.Keeper.bodies g.K.Keeper.faults c.args.self.now _ c.told.result c.add_stemcell-added.result
    c.sprung.result [] c.told.ensures.answer
    (record {
      running = c.in_ok-check_running.ensures.runs;
      is_of = c.args.self.now.is_site.is_of;
      same_cloud = λ j. c.args.self.now.cloud;
      same_armed = λ j. c.args.self.now.traps.items;
      same_opening = λ j. c.args.self.now.opening;
    })
    c.sprung.ensures
    (new_err (bodies_of g.K.Keeper.bodies) (faults_of g.K.Keeper.faults) c.args.self.now.book c.add_stemcell-added.new.self
    c.add_stemcell-added.result (entries.Stemcell (record { os = c.args.os.now; version = c.args.version.now }))
    c.add_stemcell-added.ensures.adds)
    c.add_stemcell-added.ensures.failed
    (not_stopped c.args.self.now.book
    (IsUploadFault c.args.self.now.book (name_and_version c.args.os.now c.args.version.now) (¬ IsVersion c.args.version.now))
    c.add_stemcell-added.result (c.args.self.now.is_site.book_runs c.in_ok-check_running.ensures.runs) (λ is. is)
    c.add_stemcell-added.ensures.fault)
    (follows_at c.args.self.now.history c.told.new.history c.add_stemcell-added.new.self.journal.entries c.entries.result.now
    c.args.self.now.cloud.effects c.effects.result.now (halt_of c.sprung.result c.add_stemcell-added.result)
    c.entries.ensures c.effects.ensures c.told.ensures.follows)

pub returns-clause-fault : goal.returns-clause-fault
returns-clause-fault g c =
    books_told
    (IsUploadFault c.args.self.now.book (name_and_version c.args.os.now c.args.version.now) (¬ IsVersion c.args.version.now))
    c.told.result c.add_stemcell-added.result c.sprung.result c.told.ensures.answer c.add_stemcell-added.ensures.fault

pub returns-clause-pending : goal.returns-clause-pending
returns-clause-pending g c =
    pends_told c.told.new.history.is_halted c.add_stemcell-added.new.self.journal
    (IsAllowed (IsAdded c.args.self.now.book.records.stemcells.items c.args.os.now c.args.version.now New) (entries.Stemcell (record { os = c.args.os.now; version = c.args.version.now }))) c.sprung.result c.add_stemcell-added.result c.told.ensures.follows.halted
    (alloweds_as (IsAdded c.args.self.now.book.records.stemcells.items c.args.os.now c.args.version.now New) (entries.Stemcell (record { os = c.args.os.now; version = c.args.version.now })) c.add_stemcell-added.new.self.journal c.add_stemcell-added.result c.add_stemcell-added.ensures.pending)
