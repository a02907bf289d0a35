use Rattle.std.proofs.Common.{◌∙◌}
use Rattle.bosh_inventory.proofs.FoundLemmas.{found_disk-is}
use Rattle.bosh_inventory.proofs.LookupLemmas.{seen}
use Rattle.bosh_inventory.proofs.inventory.Inventory.found_disk.Goals as goal

pub returns : goal.returns
returns c =
    c.created_by.ensures
    ∙ found_disk-is _ _ _ _ (seen _ _ _ _ _ c.self.view_is c.self.invariant.0) c.args.tag
