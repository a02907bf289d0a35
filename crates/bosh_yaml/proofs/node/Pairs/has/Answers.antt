use Rattle.std.proofs.Common.{◌∙◌, ap, sym}
use Rattle.std.specs.Option.{is_some}
use Rattle.bosh_yaml.specs.View.{tree_of}
use Rattle.bosh_yaml.proofs.KeyLemmas.{is_some-value_at, is_some-option_map}
use Rattle.bosh_yaml.proofs.node.Pairs.has.Goals as goal

pub returns : goal.returns
returns c =
    c.is_some.ensures ∙ sym (is_some-option_map (λ n. tree_of n.now) c.find.result) ∙ ap is_some c.find.ensures ∙ is_some-value_at c.args.key.now c.args.self.now
