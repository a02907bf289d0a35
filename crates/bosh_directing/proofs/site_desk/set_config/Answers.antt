use Rattle.std.proofs.Common.{[], ◌∷◌}
use Rattle.bosh_base.specs.declared.entry.Entry.TheVariants as entries
use Rattle.bosh_directing.proofs.ActLemmas.{acts_set}
use Rattle.bosh_directing.proofs.KeepLemmas.{keeps_config_answered}
use Rattle.bosh_directing.proofs.site_desk.set_config.Goals as goal

pub returns : goal.returns
returns g c = record {
  acts = acts_set g.K.Keeper.bodies g.K.Keeper.faults c.args.site.now c.set_config.new.self
      (entries.Config c.args.file.now ∷ []) c.set_config.result c.set_config.ensures.notes c.set_config.ensures.refused;
  kept = keeps_config_answered g.K.Keeper.bodies g.K.Keeper.faults g.K.Keeper.is_broken g.L.Keeper.bodies g.L.Keeper.faults
      c.args.site.now c.set_config.new.self c.args.file.now c.set_config.result c.set_config.ensures.calls
      c.set_config.ensures.spells c.set_config.ensures.notes c.set_config.ensures.refused c.set_config.ensures.pending;
}
