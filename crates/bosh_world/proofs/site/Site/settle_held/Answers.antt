use Rattle.std.proofs.Common.{[], ◌∷◌, Err, None, ap, ◌∙◌}
use Rattle.bosh_base.specs.declared.entry.Entry.TheVariants as entries
use Rattle.bosh_book.specs.Faults.{IsSettleFault, MayEnd}
use Rattle.bosh_moves.proofs.SilentLemmas.{follows_silent}
use Rattle.bosh_ports.specs.Rigged.{faults_of}
use Rattle.bosh_world.proofs.CallLemmas.{follows_at, not_stopped, refuses_as, site_stays, unheld_by}
use Rattle.bosh_world.proofs.PendLemmas.{allowed_as, pends_by}
use Rattle.bosh_world.proofs.SiteLemmas.{noted}
use Rattle.bosh_world.specs.Faults.{halt_by}
use Rattle.bosh_world.specs.Pending.{IsAllowed}
use Rattle.bosh_world.proofs.site.Site.settle_held.Goals as goal

pub invariant_of-self-in-Err : goal.invariant_of-self-in-Err
invariant_of-self-in-Err g c = record {
  is_site = site_stays {T = Unit {0}} (faults_of g.K.Keeper.faults) c.args.self.now.book c.settle.new.self
      (Err c.in-Err.fault) c.sprung.result c.args.self.now.cloud.is_stale c.args.self.now.history
      c.refused-fault.new.history c.entries-in-Err.result.now c.effects-in-Err.result.now c.in-Err.ensures.failed
      c.in-Err.ensures.refused.standing (c.args.self.now.is_site.book_runs c.requires.running)
      (c.args.self.now.is_site.cloud_runs c.requires.running) c.entries-in-Err.ensures c.refused-fault.ensures.follows;
}

pub returns-in-Ok-clause-settled : goal.returns-in-Ok-clause-settled
returns-in-Ok-clause-settled g c =
    noted g.K.Keeper.bodies g.K.Keeper.faults c.args.self.now _
    (entries.End (record { n = c.args.call.permit.n; answer = c.args.call.answer }) ∷ []) None
    (record {
      running = c.requires.running;
      is_of = c.args.self.now.is_site.is_of;
      same_cloud = λ j. c.args.self.now.cloud;
      same_armed = λ j. c.args.self.now.traps.items;
      same_opening = λ j. c.args.self.now.opening;
    })
    c.in-Ok.ensures.ok
    (follows_at c.args.self.now.history c.follow.new.self c.settle.new.self.journal.entries c.entries.result.now
    c.args.self.now.cloud.effects c.effects.result.now None c.entries.ensures c.effects.ensures c.follow.ensures.follows)

pub returns-in-Ok-clause-silent : goal.returns-in-Ok-clause-silent
returns-in-Ok-clause-silent g c =
    follows_silent c.args.self.now.history c.follow.new.self c.entries.result.now c.effects.result.now None
    c.follow.ensures.follows

pub returns-in-Err-clause-refused : goal.returns-in-Err-clause-refused
returns-in-Err-clause-refused g c = (
  ap (λ p. record { permit = p; answer = c.in-Err.answer }) c.in-Err.ensures.back.0
      ∙ ap (λ a. record { permit = c.args.call.permit; answer = a }) c.in-Err.ensures.back.1,
  refuses_as (Unit {0}) g.K.Keeper.bodies g.K.Keeper.faults c.args.self.now _ c.refused-fault.result c.in-Err.fault
      c.sprung.result [] c.refused-fault.ensures.answer
      (record {
        running = c.requires.running;
        is_of = c.args.self.now.is_site.is_of;
        same_cloud = λ j. c.args.self.now.cloud;
        same_armed = λ j. c.args.self.now.traps.items;
        same_opening = λ j. c.args.self.now.opening;
      })
      c.sprung.ensures c.in-Err.ensures.refused c.in-Err.ensures.failed
      (not_stopped {T = Unit {0}} c.args.self.now.book
      (IsSettleFault c.args.self.now.book c.args.call.permit c.args.call.answer) (Err c.in-Err.fault)
      (c.args.self.now.is_site.book_runs c.requires.running) (λ is. is) c.in-Err.ensures.fault)
      (follows_at c.args.self.now.history c.refused-fault.new.history c.settle.new.self.journal.entries
      c.entries-in-Err.result.now c.args.self.now.cloud.effects c.effects-in-Err.result.now
      (halt_by c.sprung.result c.in-Err.fault) c.entries-in-Err.ensures c.effects-in-Err.ensures
      c.refused-fault.ensures.follows),
)

pub returns-in-Err-clause-fault : goal.returns-in-Err-clause-fault
returns-in-Err-clause-fault g c =
    unheld_by c.args.self.now c.args.call c.sprung.result c.refused-fault.result c.in-Err.fault
    c.refused-fault.ensures.answer c.in-Err.ensures.fault

pub returns-in-Err-clause-pending : goal.returns-in-Err-clause-pending
returns-in-Err-clause-pending g c =
    pends_by _ c.settle.new.self.journal
    (IsAllowed (MayEnd c.args.self.now.book c.args.call.permit c.args.call.answer)
    (entries.End (record { n = c.args.call.permit.n; answer = c.args.call.answer }))) c.sprung.result c.in-Err.fault
    c.refused-fault.ensures.follows.halted
    (allowed_as (Unit {0}) (MayEnd c.args.self.now.book c.args.call.permit c.args.call.answer)
    (entries.End (record { n = c.args.call.permit.n; answer = c.args.call.answer })) c.settle.new.self.journal c.in-Err.fault
    c.in-Err.ensures.pending)
