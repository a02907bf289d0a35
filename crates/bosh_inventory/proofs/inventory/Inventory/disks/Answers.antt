use Rattle.std.proofs.Common.{◌∙◌, ap}
use Rattle.std.specs.List.{filter_map}
use Rattle.bosh_base.specs.Cloud.{disk_of, disks_created, numbers_to}
use Rattle.bosh_inventory.proofs.LookupLemmas.{filter_map-slots, seen}
use Rattle.bosh_inventory.proofs.inventory.Inventory.disks.Goals as goal

pub returns-clause-slots : goal.returns-clause-slots
returns-clause-slots c = c.slots.ensures ∙ (seen _ _ _ _ _ c.self.view_is c.self.invariant.0).all_disks

pub returns-clause-there : goal.returns-clause-there
returns-clause-there c =
    ap (filter_map (λ slot. slot)) (c.slots.ensures ∙ (seen _ _ _ _ _ c.self.view_is c.self.invariant.0).all_disks)
    ∙ filter_map-slots (disk_of c.args.self.now) (numbers_to (disks_created c.args.self.now))
