use Rattle.std.proofs.Common.{arith}
use Rattle.bosh_inventory.proofs.LookupLemmas.{seen, disks_made}
use Rattle.bosh_inventory.proofs.inventory.Inventory.next_disk.Goals as goal

pub returns : goal.returns
returns c =
    grind (
      arith,
      c.made.ensures.made,
      disks_made _ _ _ _ (seen _ _ _ _ _ c.self.view_is c.self.invariant.0),
      c.has_vm.ensures,
      c.if-not-has_vm.false,
    )
