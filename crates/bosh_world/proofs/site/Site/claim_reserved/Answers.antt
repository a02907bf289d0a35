use Rattle.bosh_book.specs.Faults.{IsClaimFault}
use Rattle.bosh_ports.specs.Rigged.{faults_of}
use Rattle.bosh_world.proofs.CallLemmas.{books_told, claim_refused, claims_told, follows_at, given_told, not_stopped, site_stays}
use Rattle.bosh_world.proofs.PendLemmas.{claims_as, pends_told}
use Rattle.bosh_book.specs.Claims.{IsNext}
use Rattle.bosh_world.specs.Steps.{bodies_of}
use Rattle.bosh_world.specs.Faults.{halt_of}
use Rattle.bosh_world.proofs.site.Site.claim_reserved.Goals as goal

pub invariant_of-self : goal.invariant_of-self
invariant_of-self g c = record {
  is_site = site_stays (faults_of g.K.Keeper.faults) c.args.self.now.book c.claim-claimed.new.self c.claim-claimed.result
      c.sprung.result c.args.self.now.cloud.is_stale c.args.self.now.history c.told.new.history c.entries.result.now
      c.effects.result.now c.claim-claimed.ensures.failed c.claim-claimed.ensures.notes.adds.standing
      (c.args.self.now.is_site.book_runs c.requires.running) (c.args.self.now.is_site.cloud_runs c.requires.running)
      c.entries.ensures c.told.ensures.follows;
}

pub returns-clause-claims : goal.returns-clause-claims
returns-clause-claims g c =
    claims_told g.K.Keeper.bodies g.K.Keeper.faults c.args.self.now _ c.args.task c.args.worker c.told.result
    c.claim-claimed.result c.sprung.result c.told.ensures.answer
    (record {
      running = c.requires.running;
      is_of = c.args.self.now.is_site.is_of;
      same_cloud = λ j. c.args.self.now.cloud;
      same_armed = λ j. c.args.self.now.traps.items;
      same_opening = λ j. c.args.self.now.opening;
    })
    c.claim-claimed.ensures.notes
    (c.claim-claimed.ensures.claims (c.args.self.now.is_site.book_runs c.requires.running))
    c.claim-claimed.ensures.room
    (follows_at c.args.self.now.history c.told.new.history c.claim-claimed.new.self.journal.entries c.entries.result.now
    c.args.self.now.cloud.effects c.effects.result.now (halt_of c.sprung.result c.claim-claimed.result) c.entries.ensures
    c.effects.ensures c.told.ensures.follows)

pub returns-clause-performable : goal.returns-clause-performable
returns-clause-performable g c =
    given_told g.K.Keeper.bodies g.K.Keeper.faults c.args.self.now c.claim-claimed.new.self _ c.told.result c.claim-claimed.result c.sprung.result
    c.told.ensures.answer (c.args.self.now.is_site.book_runs c.requires.running) c.claim-claimed.ensures.notes
    c.begin_given.ensures

pub returns-clause-refused : goal.returns-clause-refused
returns-clause-refused g c =
    claim_refused g.K.Keeper.bodies g.K.Keeper.faults c.args.self.now _ c.args.task c.args.worker c.told.result c.claim-claimed.result c.sprung.result
    c.told.ensures.answer
    (record {
      running = c.requires.running;
      is_of = c.args.self.now.is_site.is_of;
      same_cloud = λ j. c.args.self.now.cloud;
      same_armed = λ j. c.args.self.now.traps.items;
      same_opening = λ j. c.args.self.now.opening;
    })
    c.sprung.ensures c.claim-claimed.ensures.notes c.claim-claimed.ensures.failed
    (not_stopped c.args.self.now.book (IsClaimFault c.args.self.now.book c.claim-claimed.new.self) c.claim-claimed.result
    (c.args.self.now.is_site.book_runs c.requires.running) (λ is. is) c.claim-claimed.ensures.fault)
    c.claim-claimed.ensures.refused
    (follows_at c.args.self.now.history c.told.new.history c.claim-claimed.new.self.journal.entries c.entries.result.now
    c.args.self.now.cloud.effects c.effects.result.now (halt_of c.sprung.result c.claim-claimed.result) c.entries.ensures
    c.effects.ensures c.told.ensures.follows)

pub returns-clause-fault : goal.returns-clause-fault
returns-clause-fault g c =
    books_told (IsClaimFault c.args.self.now.book c.claim-claimed.new.self) c.told.result c.claim-claimed.result c.sprung.result c.told.ensures.answer
    c.claim-claimed.ensures.fault

pub returns-clause-pending : goal.returns-clause-pending
returns-clause-pending g c =
    pends_told c.told.new.history.is_halted c.claim-claimed.new.self.journal
    (IsNext (bodies_of g.K.Keeper.bodies) (faults_of g.K.Keeper.faults) c.args.task c.args.worker c.args.self.now.book
    c.claim-claimed.new.self) c.sprung.result c.claim-claimed.result c.told.ensures.follows.halted
    (claims_as g.K.Keeper.bodies g.K.Keeper.faults c.args.task c.args.worker c.args.self.now c.claim-claimed.new.self c.claim-claimed.result c.claim-claimed.ensures.pending)
