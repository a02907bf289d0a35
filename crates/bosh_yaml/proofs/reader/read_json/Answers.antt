use Rattle.std.proofs.Common.{◌∙◌, ap, subst, sym, Result, Err, if◌then◌else◌}
use Rattle.serde_json.specs.View.{view}
use Rattle.bosh_yaml.specs.declared.fault.ReadFault.TheVariants.{TooDeep}
use Rattle.bosh_yaml.specs.Json.{has_integers, integers_or}
use Rattle.bosh_yaml.specs.Spelling.{json_tree}
use Rattle.bosh_yaml.specs.declared.fault.ReadFault.{ReadFault}
use Rattle.bosh_yaml.specs.Result.{Gives}
use Rattle.bosh_yaml.specs.Tree.{Tree}
use Rattle.bosh_yaml.specs.View.{tree_of}
use Rattle.bosh_yaml.proofs.JsonLemmas.{data_reads}
use Rattle.bosh_yaml.proofs.reader.read_json.Goals as goal

pub returns-then-is_deeper : goal.returns-then-is_deeper
returns-then-is_deeper c =
    data_reads c.args.text.now _ c.in_ok-value.ensures ∙ ap (λ b. if b then Err TooDeep else integers_or (has_integers (view c.in_ok-value.value)) (json_tree (view c.in_ok-value.value))) (sym c.if-is_deeper.ensures)

pub returns : goal.returns
returns c =
    let reads = data_reads c.args.text.now _ c.in_ok-value.ensures ∙ ap (λ b. if b then Err TooDeep else integers_or (has_integers (view c.in_ok-value.value)) (json_tree (view c.in_ok-value.value))) (sym c.if-is_deeper.ensures) in
    subst (λ (r : Result Tree ReadFault). Gives tree_of c.node_of.result r) (sym reads) c.node_of.ensures
