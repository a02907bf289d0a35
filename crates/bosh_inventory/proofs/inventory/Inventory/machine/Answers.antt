use Rattle.std.proofs.Common.{sym, ◌∙◌}
use Rattle.bosh_inventory.proofs.LookupLemmas.{at-vms, seen, some_copied, vm_there}
use Rattle.bosh_inventory.proofs.inventory.Inventory.machine.Goals as goal

pub returns-clause-machine : goal.returns-clause-machine
returns-clause-machine c = c.get.ensures ∙ at-vms _ _ _ _ (seen _ _ _ _ _ c.self.view_is c.self.invariant.0) c.args.vm

pub returns-clause-there : goal.returns-clause-there
returns-clause-there c =
    sym (some_copied c.get.result)
    ∙ vm_there _ (seen _ _ _ _ _ c.self.view_is c.self.invariant.0).are_orderly c.args.vm _
    (c.get.ensures ∙ at-vms _ _ _ _ (seen _ _ _ _ _ c.self.view_is c.self.invariant.0) c.args.vm)
