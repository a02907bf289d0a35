use Rattle.std.proofs.Common.{◌∙◌}
use Rattle.bosh_inventory.proofs.FoundLemmas.{found_vm-is}
use Rattle.bosh_inventory.proofs.LookupLemmas.{seen}
use Rattle.bosh_inventory.proofs.inventory.Inventory.found_vm.Goals as goal

pub returns : goal.returns
returns c =
    c.created_by.ensures
    ∙ found_vm-is _ _ _ _ (seen _ _ _ _ _ c.self.view_is c.self.invariant.0) c.args.agent
