use Rattle.bosh_base.specs.declared.entry.Entry.TheVariants as entries
use Rattle.bosh_directing.proofs.ActLemmas.{acts_answers}
use Rattle.bosh_directing.proofs.KeepLemmas.{keeps_stemcell_answered}
use Rattle.bosh_directing.proofs.site_desk.add_stemcell.Goals as goal
use Rattle.bosh_world.specs.Steps.{entries_for}

pub returns : goal.returns
returns g c = record {
  acts = acts_answers g.K.Keeper.bodies g.K.Keeper.faults c.args.site.now c.add_stemcell.new.self
      (λ added. entries_for added (entries.Stemcell (record { os = c.args.os.now; version = c.args.version.now })))
      c.add_stemcell.result c.add_stemcell.ensures.notes c.add_stemcell.ensures.refused;
  kept = keeps_stemcell_answered g.K.Keeper.bodies g.K.Keeper.faults g.K.Keeper.is_broken g.L.Keeper.bodies g.L.Keeper.faults
      c.args.site.now c.add_stemcell.new.self c.args.os.now c.args.version.now c.add_stemcell.result
      c.add_stemcell.ensures.calls c.add_stemcell.ensures.told c.add_stemcell.ensures.notes c.add_stemcell.ensures.refused
      c.add_stemcell.ensures.pending;
}
