use Rattle.std.proofs.Common.{◌∙◌, sym}
use Rattle.bosh_yaml.proofs.KeyLemmas.{found_field-fields_of}
use Rattle.bosh_yaml.proofs.node.Node.find.Goals as goal

pub returns-in-Map : goal.returns-in-Map
returns-in-Map c = rw c.in-Map.is (c.find.ensures ∙ sym (found_field-fields_of c.args.key.now c.in-Map.pairs))
