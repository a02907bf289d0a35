use Rattle.std.proofs.Common.{◌∙◌, ap}
use Rattle.bosh_lookup.specs.Table.{first_named}
use Rattle.bosh_template.specs.Environment.{prop_name}
use Rattle.bosh_template.proofs.environment.LinkEnv.prop.Goals as goal

pub returns : goal.returns
returns c =
    c.find.ensures c.self.inside.props.now c.self.invariant.1
    ∙ (ap (first_named prop_name c.self.inside.props.now) c.as_slice.ensures
    ∙ ap (λ whole. first_named prop_name whole.props c.args.name.now) c.self.view_is)
