-- There are as many trees as nodes.
use Rattle.std.proofs.Common.{◌==◌, ap, sym}
use Rattle.bosh_fields.proofs.ListLemmas.{count_trees}
use Rattle.bosh_manifest_parts.proofs.network.is_one.Goals as goal

pub returns : goal.returns
returns c = ap (λ n. n == 1) (sym (count_trees c.args.nodes.now))
