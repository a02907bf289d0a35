use Rattle.std.proofs.Common.{rules, subst, Result}
use Rattle.bosh_answers.specs.Deploys.{Reads}
use Rattle.bosh_answers.specs.declared.text_fault.TextFault.{TextFault}
use Rattle.bosh_yaml.specs.Tree.{Tree}
use Rattle.bosh_yaml.specs.View.{tree_of}
use Rattle.bosh_answers.proofs.DeployLemmas.{filled_alike}
use Rattle.bosh_answers.proofs.deploy.filled_with.Goals as goal

-- the fill is by the values that were read of the variables
pub returns : goal.returns
returns c =
    subst (λ (read : Result Tree TextFault). Reads tree_of c.filled_by.result read)
    (filled_alike c.args.vars.now c.as_slice.result.now (tree_of c.args.node.now) (search rules)) c.filled_by.ensures
