use Rattle.std.proofs.Common.{◌∙◌, ap}
use Rattle.bosh_lookup.specs.Table.{first_named}
use Rattle.bosh_template.specs.Environment.{link_name}
use Rattle.bosh_template.proofs.environment.JobEnv.link.Goals as goal

pub returns : goal.returns
returns c =
    c.find.ensures c.self.inside.links.now c.self.invariant.1
    ∙ (ap (first_named link_name c.self.inside.links.now) c.as_slice.ensures
    ∙ ap (λ whole. first_named link_name whole.links c.args.name.now) c.self.view_is)
