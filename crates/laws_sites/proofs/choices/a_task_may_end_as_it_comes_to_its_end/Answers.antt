use Rattle.laws_sites.proofs.ChoiceLemmas.{end_lawful}
use Rattle.laws_sites.proofs.choices.a_task_may_end_as_it_comes_to_its_end.Goals as goal

pub returns : goal.returns
returns g c = λ outside o t end fit good running working.
    end_lawful outside g.K.Keeper.bodies g.L.Keeper.bodies o c.args.site.now t fit good running working end
