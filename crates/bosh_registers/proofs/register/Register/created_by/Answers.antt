use Rattle.std.proofs.Common.{◌∙◌, ap}
use Rattle.bosh_registers.proofs.RegisterLemmas.{least_created-is}
use Rattle.bosh_registers.specs.Created.{least_created}
use Rattle.bosh_registers.proofs.register.Register.created_by.Goals as goal

pub returns : goal.returns
returns g c =
    least_created-is g.T.Created.call c.self.inside.things c.self.inside.numbers c.args.call c.least.result
    c.self.invariant c.least.ensures
    ∙ ap (λ things. least_created g.T.Created.call things c.args.call) c.self.view_is
