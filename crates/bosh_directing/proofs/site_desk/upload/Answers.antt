use Rattle.bosh_base.specs.declared.entry.Entry.TheVariants as entries
use Rattle.bosh_directing.proofs.ActLemmas.{acts_answers}
use Rattle.bosh_directing.proofs.KeepLemmas.{keeps_release_answered}
use Rattle.bosh_directing.proofs.site_desk.upload.Goals as goal
use Rattle.bosh_world.specs.Steps.{entries_for}

pub returns : goal.returns
returns g c = record {
  acts = acts_answers g.K.Keeper.bodies g.K.Keeper.faults c.args.site.now c.upload.new.self
      (λ added. entries_for added (entries.Release c.args.release)) c.upload.result c.upload.ensures.notes
      c.upload.ensures.refused;
  kept = keeps_release_answered g.K.Keeper.bodies g.K.Keeper.faults g.K.Keeper.is_broken g.L.Keeper.bodies g.L.Keeper.faults
      c.args.site.now c.upload.new.self c.args.release c.upload.result c.upload.ensures.calls c.upload.ensures.told
      c.upload.ensures.notes c.upload.ensures.refused c.upload.ensures.pending;
}
