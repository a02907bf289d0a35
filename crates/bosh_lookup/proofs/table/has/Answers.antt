use Rattle.std.proofs.Common.{◌∙◌}
use Rattle.bosh_lookup.proofs.TableLemmas.{has-any}
use Rattle.bosh_lookup.proofs.table.has.Goals as goal

pub returns : goal.returns
returns g c = λ all is. c.contains_key.ensures ∙ has-any g.T.Named.name_of all c.args.table.now c.args.name.now is
