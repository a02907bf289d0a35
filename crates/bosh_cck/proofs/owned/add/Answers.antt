-- A machine is added under the instance that owns it.
use Rattle.bosh_cck.proofs.TableLemmas.{owned_by-put}
use Rattle.bosh_cck.proofs.owned.add.Goals as goal

pub returns-in_ok-insert-in-Instance : goal.returns-in_ok-insert-in-Instance
returns-in_ok-insert-in-Instance c =
    owned_by-put c.args.machine.now c.in-Instance.inst c.args.table.now c.remove.new.self c.insert.new.self c.remove.result
    c.in_ok-machines-in-Instance.machines c.in-Instance.is c.remove.ensures.value c.in_ok-machines-in-Instance.ensures
    c.remove.ensures.updates c.in_ok-insert-in-Instance.ensures.updates
