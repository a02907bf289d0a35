use Rattle.std.proofs.Common.{◌∙◌, ap, Vec, Global, ℕ}
use Rattle.serde_json.specs.Written.{compact_text, has_float}
use Rattle.bosh_yaml.specs.View.{tree_of}
use Rattle.bosh_yaml.proofs.CanonLemmas.{no_float}
use Rattle.bosh_yaml.proofs.CanonReadLemmas.{canon_bytes_are_read}
use Rattle.bosh_yaml.proofs.OrderLemmas.{same_values}
use Rattle.bosh_yaml.proofs.canonical.canon.Goals as goal

pub returns-clause-text : goal.returns-clause-text
returns-clause-text c =
    let value = c.in_ok-value.ensures.as_data in
    ap (λ (v : Vec ℕ Global). v.items) c.into_bytes.ensures.value ∙ c.in_ok-to_string.ensures.text (ap has_float value ∙ no_float (tree_of c.args.node.now)) ∙ ap compact_text value

pub returns-clause-read : goal.returns-clause-read
returns-clause-read c = canon_bytes_are_read c.into_bytes.result.items (tree_of c.args.node.now) (returns-clause-text c) c.in_ok-value.ensures.of_node.0

pub returns-clause-values : goal.returns-clause-values
returns-clause-values c = same_values (tree_of c.args.node.now) c.in_ok-value.ensures.of_node.1
