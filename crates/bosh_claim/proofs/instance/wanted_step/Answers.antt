use Rattle.std.proofs.Common.{◌≡◌, subst}
use Rattle.std.specs.Prelude.{IfOk}
use Rattle.bosh_claim.specs.Step.{step_of}
use Rattle.bosh_claim.proofs.instance.wanted_step.Goals as goal

pub returns : goal.returns
returns c =
    subst (λ want. IfOk c.step.result (λ call. call ≡ step_of c.args.records.now want c.args.inst.now))
    c.want_of.ensures c.step.ensures
