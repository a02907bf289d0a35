use Rattle.std.proofs.Common.{ap, subst, sym, Option}
use Rattle.std.specs.Option.{option_copied}
use Rattle.bosh_cloudcfg.specs.declared.config.Config.{Config}
use Rattle.bosh_goal.specs.Goal.{IsGoal}
use Rattle.bosh_goal.proofs.whole.goal.Goals as goal

pub returns : goal.returns
returns c =
    subst (λ (config : Option Config). IsGoal c.args.manifest.now config c.args.releases.now c.args.stemcells.now c.args.view.now c.args.recreate c.configured.result)
    (sym (ap (option_copied {T = Config}) c.in-Some.is)) c.configured.ensures
