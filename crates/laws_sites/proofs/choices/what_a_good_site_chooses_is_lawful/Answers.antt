use Rattle.laws_sites.proofs.ChoiceLemmas.{chosen_lawful}
use Rattle.laws_sites.proofs.choices.what_a_good_site_chooses_is_lawful.Goals as goal

pub returns : goal.returns
returns g c = λ outside o t worker fit good running working.
    chosen_lawful outside g.K.Keeper.bodies g.L.Keeper.bodies o c.args.site.now t fit good running working worker
