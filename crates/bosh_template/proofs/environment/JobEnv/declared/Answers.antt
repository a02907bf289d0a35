use Rattle.std.proofs.Common.{◌∙◌, ap}
use Rattle.bosh_lookup.specs.Table.{first_named}
use Rattle.bosh_template.specs.Environment.{prop_spec_name}
use Rattle.bosh_template.proofs.environment.JobEnv.declared.Goals as goal

pub returns : goal.returns
returns c =
    c.find.ensures c.self.inside.declared.now c.self.invariant.0
    ∙ (ap (first_named prop_spec_name c.self.inside.declared.now) c.as_slice.ensures
    ∙ ap (λ whole. first_named prop_spec_name whole.declared c.args.name.now) c.self.view_is)
