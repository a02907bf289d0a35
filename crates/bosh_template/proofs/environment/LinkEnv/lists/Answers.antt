use Rattle.std.proofs.Common.{◌∙◌, ap}
use Rattle.std.specs.List.{list_any}
use Rattle.std.specs.Str.{bytes_eq}
use Rattle.bosh_template.proofs.environment.LinkEnv.lists.Goals as goal

pub returns : goal.returns
returns c =
    c.has.ensures c.self.inside.listed.now c.self.invariant.0
    ∙ (ap (λ name. list_any (λ listed. bytes_eq listed name) c.self.inside.listed.now) c.as_slice.ensures
    ∙ ap (λ whole. list_any (λ listed. bytes_eq listed c.args.name.now) whole.listed) c.self.view_is)
