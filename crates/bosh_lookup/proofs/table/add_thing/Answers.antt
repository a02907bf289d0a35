use Rattle.bosh_lookup.proofs.TableLemmas.{IsTable-add}
use Rattle.bosh_lookup.proofs.table.add_thing.Goals as goal

pub returns : goal.returns
returns g c = λ all before.
    IsTable-add g.T.Named.name_of all c.args.thing c.name.result.now c.args.table.now c.add.new.table c.name.ensures before c.in_ok-add.ensures
