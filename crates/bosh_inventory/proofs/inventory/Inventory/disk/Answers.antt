use Rattle.std.proofs.Common.{sym, ◌∙◌}
use Rattle.bosh_inventory.proofs.LookupLemmas.{at-disks, seen, some_copied, disk_there}
use Rattle.bosh_inventory.proofs.inventory.Inventory.disk.Goals as goal

pub returns-clause-disk : goal.returns-clause-disk
returns-clause-disk c = c.get.ensures ∙ at-disks _ _ _ _ (seen _ _ _ _ _ c.self.view_is c.self.invariant.0) c.args.disk

pub returns-clause-there : goal.returns-clause-there
returns-clause-there c =
    sym (some_copied c.get.result)
    ∙ disk_there _ (seen _ _ _ _ _ c.self.view_is c.self.invariant.0).are_orderly c.args.disk _
    (c.get.ensures ∙ at-disks _ _ _ _ (seen _ _ _ _ _ c.self.view_is c.self.invariant.0) c.args.disk)
